-- `leaves_score::two_sides::part_rows`: the rows so far are parted (`Rows.antt`).
use Rattle.leaves_score.proofs.Rows.{Parting}
use Rattle.leaves_score.proofs.two_sides.part_rows.Given as goal

abbrev pub invariant-loop-row : goal.invariant-loop-row
invariant-loop-row l = Parting l.codes l.marks l.row l.parts
