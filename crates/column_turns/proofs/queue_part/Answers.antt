-- `column_turns::queue_part` meets its contract. By whether the part is empty.
use mathlib.Core.Path.{refl, ap, ◌∙◌}
use lib.ListN.{length}
use native.Mathlib.Omega.{arith}
use Rattle.column_turns.specs.Ready.{SameWords}
use Rattle.column_turns.proofs.Lent.{pushed_length}
use Rattle.column_turns.proofs.Queueing.{part_pushed}
use Rattle.column_turns.proofs.queue_part.Goals as goal

pub returns-then-bound : goal.returns-then-bound
returns-then-bound c =
    let start = c in
    let a = start.args in
    let call = c.push in
    let same : SameWords a.words.now _ =
    record {
      table_memory = refl;
      ring_memory = refl;
      marks_memory = refl;
      table_size = refl;
      ring_size = ap length call.ensures.1 ∙ pushed_length a.words.now.ring.now a.queue a.bound;
      marks_size = refl;
    } in
    part_pushed a.words.now a.queue a.bound start.requires _ call.result (omega arith) call.ensures.0 call.ensures.1 refl same
