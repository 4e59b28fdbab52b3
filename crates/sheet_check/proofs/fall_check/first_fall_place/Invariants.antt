-- `sheet_check::fall_check::first_fall_place` meets its contract. The loop's invariant: no value passed is below its predecessor.
use Rattle.sheet.specs.Check.{falls}
use Rattle.sheet.specs.Lent.{sheet_in}
use Rattle.sheet.proofs.Search.{Clean}
use Rattle.sheet_check.proofs.fall_check.first_fall_place.Given as goal

abbrev pub invariant-loop-here : goal.invariant-loop-here
invariant-loop-here l = Clean (falls (sheet_in l.sheet) l.column) l.here
