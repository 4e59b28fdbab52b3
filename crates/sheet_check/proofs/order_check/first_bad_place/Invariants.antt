-- `sheet_check::order_check::first_bad_place` meets its contract. The loop's invariant: no place passed is bad, and a row's word holds the column's mark exactly if
-- the row was passed.
use mathlib.Core.Path.{◌≡◌}
use lib.ListN.{length}
use Rattle.sheet.specs.Check.{bad_order}
use Rattle.sheet.specs.Lent.{sheet_in}
use Rattle.sheet.proofs.Search.{Clean}
use Rattle.sheet_check.proofs.Marks.{Marks}
use Rattle.sheet_check.proofs.order_check.first_bad_place.Given as goal

abbrev pub invariant-loop-place : goal.invariant-loop-place
invariant-loop-place l =
    record {
      size : length l.marks ≡ length l.initial.marks;
      clean : Clean (bad_order (sheet_in l.sheet) l.column) l.place;
      met : Marks (sheet_in l.sheet) l.column l.place l.mark l.marks;
    }
