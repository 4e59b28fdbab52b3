-- `column_turns::search_cuts` meets its contract. The loop's invariant: the course stands for a state of the column's run, which may be
-- counted on. The measure is the weight of what waits.
use Prim.Native.Nat.{◌*◌, ◌≤◌}
use Rattle.basics.specs.Lists.{total}
use Rattle.sheet.specs.Limits.{most_columns}
use Rattle.sheet.specs.Lent.{sheet_in}
use Rattle.interval_queue.specs.Ring.{contents}
use Rattle.column_search.specs.Loop.{weight}
use Rattle.column_turns.specs.Ready.{SameWords}
use Rattle.column_turns.specs.Promise.{most_tries}
use Rattle.column_turns.specs.Course.{Stands, Begun}
use Rattle.column_turns.proofs.search_cuts.Given as goal

abbrev pub invariant-loop-first : goal.invariant-loop-first
invariant-loop-first l =
    Begun (sheet_in l.sheet) l.terms l.column l.words
    × (l.initial.course.standing.tried ≤ most_columns * most_tries)
    × Stands (sheet_in l.sheet) l.terms l.column l.initial.course.standing l.words l.course
    × SameWords l.initial.words l.words

abbrev pub decreases-loop-first : goal.decreases-loop-first
decreases-loop-first l = total weight (contents l.words.ring.now l.course.queue)
