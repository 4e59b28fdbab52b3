-- `leaves_score::column_scan::scan_column`: the loop keeps `Along` (`Column.antt`).
use Rattle.sheet.specs.Lent.{sheet_in}
use Rattle.leaves_score.specs.Column.{scan_rows}
use Rattle.leaves_score.specs.Lists.{scan_of, go_left}
use Rattle.leaves_score.specs.SideLists.{both_of}
use Rattle.leaves_score.proofs.Column.{Along}
use Rattle.leaves_score.proofs.column_scan.scan_column.Given as goal

abbrev pub invariant-loop-i : goal.invariant-loop-i
invariant-loop-i l =
    let s = scan_of (sheet_in l.fn.sheet) in
    Along s l.marks l.column (scan_rows s (go_left l.marks) l.column s.rows 0 (both_of l.initial.sides)) l.i l.sides
