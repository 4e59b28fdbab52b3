-- `sheet_check::order_check::first_bad_order` meets its contract. The loop's invariant: no index of a column passed is bad, and no word is above the last mark.
use mathlib.Core.Path.{◌≡◌}
use Prim.Native.Nat.{ℕ, ◌*◌, ◌≤◌}
use lib.ListN.{length, get_or}
use Rattle.sheet.specs.Check.{bad_order, at_index}
use Rattle.sheet.specs.Lent.{sheet_in}
use Rattle.sheet.proofs.Search.{Clean}
use Rattle.sheet_check.proofs.order_check.first_bad_order.Given as goal

abbrev pub invariant-loop-column : goal.invariant-loop-column
invariant-loop-column l =
    record {
      size : length l.marks ≡ length l.initial.marks;
      marked : (r : ℕ) → get_or l.marks r 0 ≤ l.column;
      clean : Clean (at_index (bad_order (sheet_in l.sheet)) l.size.rows) (l.column * l.size.rows);
    }
