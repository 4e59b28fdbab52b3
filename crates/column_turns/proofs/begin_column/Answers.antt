-- `column_turns::begin_column` meets its contract. The first part pushed on an empty ring is all that waits.
use mathlib.Core.Path.{◌≡◌, refl, sym, ◌∙◌, subst}
use native.Mathlib.Omega.{arith}
use mathlib.Core.List.{◌++◌}
use Rattle.column_turns.proofs.Queueing.{part_full}
use Rattle.column_turns.proofs.Loop.{first_pushing, none_waits}
use Rattle.interval_queue.specs.declared.Queue.{Queue}
use Rattle.column_turns.specs.Parts.{Pushing}
use Rattle.std.specs.Prelude.{None}
use Rattle.column_turns.proofs.begin_column.Goals as goal

pub queue_part-queue-requires : goal.queue_part-queue-requires
queue_part-queue-requires c =
    let start = c in
    let a = start.args in
    let none : c.default.result ≡ record { head = 0; waiting = 0 } = λ k. record { head = c.default.ensures.0 k; waiting = c.default.ensures.1 k } in
    subst (λ (q : Queue). Pushing a.words.now q (record { first = a.first; last = a.last; left = None; right = None })) (sym none)
    (first_pushing a.first a.last a.words.now start.requires.0 start.requires.1 start.requires.2)

pub returns : goal.returns
returns c =
    let start = c in
    let a = start.args in
    let call = c.queue_part-queue in
    let queued = call.ensures in record {
      opened = record {
        standing_is = refl;
        zeros = λ k. record { left = c.default-2.ensures.0 k; right = c.default-2.ensures.1 k };
        queue =
            queued.contents_are
            ∙ (λ k. none_waits a.words.now.ring.now c.default.result (omega (arith, c.default.ensures.1)) k
            ++ part_full (record { first = a.first; last = a.last; left = None; right = None }) start.requires.1 k);
        sane = queued.sane;
      };
      lent = queued.kept;
    }
