-- `sheet_check::fall_check::first_fall` meets its contract. The loop's invariant: no index of a column passed falls.
use Prim.Native.Nat.{◌*◌}
use Rattle.sheet.specs.Check.{falls, at_index}
use Rattle.sheet.specs.Lent.{sheet_in}
use Rattle.sheet.proofs.Search.{Clean}
use Rattle.sheet_check.proofs.fall_check.first_fall.Given as goal

abbrev pub invariant-loop-column : goal.invariant-loop-column
invariant-loop-column l = Clean (at_index (falls (sheet_in l.sheet)) l.size.rows) (l.column * l.size.rows)
