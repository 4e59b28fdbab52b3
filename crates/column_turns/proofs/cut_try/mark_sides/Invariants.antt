-- `column_turns::cut_try::mark_sides` meets its contract. The loop's invariant: the rows of the places passed have the marks of their sides.
use mathlib.Core.Path.{◌≡◌}
use Prim.Native.Nat.{◌*◌}
use lib.ListN.{length}
use Rattle.column_turns.specs.Ready.{MarkedTo}
use Rattle.column_turns.proofs.cut_try.mark_sides.Given as goal

abbrev pub invariant-loop-i : goal.invariant-loop-i
invariant-loop-i l =
    (l.base ≡ l.column * l.fn.size.rows) × (length l.marks ≡ length l.initial.marks) × MarkedTo l.fn.size l.order l.column l.place l.marks l.i
