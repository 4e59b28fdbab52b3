-- `leaves_score::get_leaves_score`: the loop keeps `Scanning` (`Columns.antt`).
use Rattle.sheet.specs.Lent.{sheet_in}
use Rattle.leaves_score.specs.Lists.{scan_of, go_left}
use Rattle.leaves_score.specs.SideLists.{both_of}
use Rattle.leaves_score.proofs.Columns.{Scanning}
use Rattle.leaves_score.proofs.get_leaves_score.Given as goal

abbrev pub invariant-loop-column : goal.invariant-loop-column
invariant-loop-column l = Scanning (scan_of (sheet_in l.fn.sheet)) l.support (go_left l.marks) l.column (both_of l.sides)
