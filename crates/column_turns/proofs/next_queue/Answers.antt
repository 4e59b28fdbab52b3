-- `column_turns::next_queue` meets its contract. By whether the column ends.
use mathlib.Core.Path.{refl, sym, ap}
use native.Mathlib.Omega.{arith}
use mathlib.Core.List.{List, ◌++◌, []}
use mathlib.Core.Bool.{Bool}
use Rattle.basics.specs.Choice.{pick}
use Rattle.interval_pruner.specs.declared.Bound.{Bound}
use Rattle.interval_queue.specs.Ring.{contents}
use Rattle.column_turns.specs.Parts.{parted}
use Rattle.column_turns.proofs.Lent.{same_words}
use Rattle.column_turns.proofs.next_queue.Goals as goal

pub returns-then-over : goal.returns-then-over
unfolding contents pick
returns-then-over c =
    let start = c in
    let a = start.args in
    let all : List Bound =
    contents a.words.now.ring.now a.queue ++ parted a.places.now a.parting in
    record {
      contents_are = sym (ap (λ (b : Bool). pick b [] all) c.if-over.true);
      sane = record { head_in = start.requires.sane.head_in; few = omega arith };
      table_is = refl;
      kept = same_words a.words.now;
    }
