-- For a signer. Document 01, "Judge (added)": "It answers the tree's mistakes, in total and per leaf, and its support: the smaller of the two
-- root sides' row counts." Definitions only.
use Rattle.std.specs.Prelude.{ℕ, ◌+◌, min, Bool, true}
use Rattle.sheet.specs.Sheet.{Sheet}
use Rattle.sheet.specs.Rows.{leftward, rightward, rows_at, wrong_at}
use Rattle.tree.specs.declared.Leaf as leaf
use Rattle.tree.specs.declared.Side.{Side}
use Rattle.tree.specs.declared.Side.TheVariants.{Leaf, Split}
use Rattle.tree.specs.declared.Tree.{Tree}
use Rattle.judge.specs.declared.judge_rows.Reached.{Reached}
use Rattle.judge.specs.declared.judge_rows.Wrong.{Wrong}
use Rattle.judge.specs.declared.judge_rows.Wrong.TheVariants.{AtLeaf, AtSplit}
use Rattle.judge.specs.declared.judge_rows.Judgement.{Judgement}

-- "per leaf": what comes to one
unfoldable pub reached_at : Sheet → (ℕ → Bool) → leaf.Leaf → Reached
reached_at s mine leaf = record { wrong = wrong_at s mine leaf.label }

unfoldable pub side_wrong : Sheet → (ℕ → Bool) → Side → Wrong
side_wrong s mine (Leaf leaf) = AtLeaf (reached_at s mine leaf)
side_wrong s mine (Split question left right) =
    AtSplit (reached_at s (leftward s question mine) left) (reached_at s (rightward s question mine) right)

unfoldable pub wrong_sum : Wrong → ℕ
wrong_sum (AtLeaf reached) = reached.wrong
wrong_sum (AtSplit left right) = left.wrong + right.wrong

-- every row comes to the first question
abbrev pub all : ℕ → Bool
all r = true

abbrev pub root_leftward : Sheet → Tree → ℕ → Bool
root_leftward s t = leftward s t.question all

abbrev pub root_rightward : Sheet → Tree → ℕ → Bool
root_rightward s t = rightward s t.question all

-- "its support: the smaller of the two root sides' row counts"
unfoldable pub support_of : Sheet → Tree → ℕ
support_of s t = min (rows_at s (root_leftward s t)) (rows_at s (root_rightward s t))

unfoldable pub judgement_of : Sheet → Tree → Judgement
judgement_of s t =
    let left : Wrong = side_wrong s (root_leftward s t) t.left in
    let right : Wrong = side_wrong s (root_rightward s t) t.right in
    record { mistakes = wrong_sum left + wrong_sum right; left = left; right = right; support = support_of s t }
