-- What was seen of the two sides, summed up: each side's mistakes are few.
use Prim.Native.Nat.{◌≤◌, ◌*◌}
use mathlib.Core.Path.{◌≡◌}
use native.Mathlib.Omega.{arith}
use Rattle.sheet.specs.Limits.{most_rows}
use Rattle.sheet.specs.Sheet.{Sheet}
use Rattle.sheet.specs.Lent.{measured_in}
use Rattle.tree.specs.declared.Tree.{Tree}
use Rattle.judge.specs.declared.judge_rows.Wrong.{Wrong}
use Rattle.judge.specs.declared.judge_rows.Passed.{Passed}
use Rattle.judge.specs.Mistakes.{root_leftward, root_rightward, wrong_sum}
use Rattle.judge.specs.Passing.{passed_of, wrong_seen}
use Rattle.judge.proofs.Passing.{sum_most, left_seen, right_seen, summed}
use Rattle.judge.proofs.judge_rows.judge_rows.Goals as goal

few : (s : Sheet) (t : Tree) (p : Passed) (left right : Wrong) → p ≡ passed_of s t s.rows → s.rows ≤ most_rows → left ≡ wrong_seen t.left p.left
    → right ≡ wrong_seen t.right p.right → (wrong_sum left ≤ 2 * most_rows) × (wrong_sum right ≤ 2 * most_rows)
few s t p left right e h f g = (
  sum_most s (root_leftward s t) t.left p.left (left_seen s t p e) left f h,
  sum_most s (root_rightward s t) t.right p.right (right_seen s t p e) right g h,
)

pub wrong_sum-requires : goal.wrong_sum-requires
wrong_sum-requires c =
    (few _ c.args.tree _ _ _ c.pass-passed.ensures c.requires.0.rows_most c.wrong_of-left.ensures c.wrong_of-right.ensures).0

pub wrong_sum-requires-2 : goal.wrong_sum-requires-2
wrong_sum-requires-2 c =
    (few _ c.args.tree _ _ _ c.pass-passed.ensures c.requires.0.rows_most c.wrong_of-left.ensures c.wrong_of-right.ensures).1

pub overflow_add-result : goal.overflow_add-result
overflow_add-result c =
    let h = few (measured_in c.args.measured.now) c.args.tree _ _ _ c.pass-passed.ensures c.requires.0.rows_most c.wrong_of-left.ensures c.wrong_of-right.ensures in
    omega (arith, h.0, h.1, c.wrong_sum.ensures, c.wrong_sum-2.ensures)

pub returns : goal.returns
returns c =
    summed (measured_in c.args.measured.now) c.args.tree c.pass-passed.result c.pass-passed.ensures _ _ _ _ _ c.wrong_of-left.ensures c.wrong_of-right.ensures
    c.wrong_sum.ensures c.wrong_sum-2.ensures c.min.ensures
