-- No question asks a column that is too high once reason 10 is ruled out.
use Rattle.judge.proofs.Reasons.{asking}
use Rattle.judge.proofs.judge_tree.Goals as goal
use Rattle.sheet.specs.Lent.{measured_in}

pub judge_rows-requires : goal.judge_rows-requires
judge_rows-requires c = (
  c.requires,
  asking (measured_in c.args.measured.now) c.args.tree c.bad_column.ensures c.bad_column-2.ensures c.first_place-column.ensures c.in_default.is,
)
