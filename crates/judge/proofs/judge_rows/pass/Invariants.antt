-- What was seen of each side is what the definition counts over the rows passed. Assumes nothing.
use mathlib.Core.Path.{◌≡◌}
use Rattle.sheet.specs.Lent.{measured_in}
use Rattle.judge.specs.Mistakes.{root_leftward, root_rightward}
use Rattle.judge.specs.Passing.{seen_of}
use Rattle.judge.proofs.judge_rows.pass.Given as goal

abbrev pub invariant-loop-row : goal.invariant-loop-row
invariant-loop-row l =
    (l.left ≡ seen_of (measured_in l.measured) (root_leftward (measured_in l.measured) l.tree) l.tree.left l.row)
    × (l.right ≡ seen_of (measured_in l.measured) (root_rightward (measured_in l.measured) l.tree) l.tree.right l.row)
