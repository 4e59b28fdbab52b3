-- For proofs only. One row after another through the tree: what has been seen of a side after the first rows.
use Rattle.std.specs.Prelude.{ℕ, ◌+◌, ◌≤◌, ◌<◌, ◌*◌, ◌≡◌, Bool, not, ◌&&◌, length, T, eqb}
use Rattle.basics.specs.Choice.{pick, bit}
use Rattle.basics.specs.Lists.{tally, table}
use Rattle.sheet.specs.declared.lent.Measured.{Measured}
use Rattle.sheet.specs.Limits.{most_rows}
use Rattle.sheet.specs.Sheet.{Sheet, label_of}
use Rattle.sheet.specs.Rows.{sent_left, leftward, rightward}
use Rattle.tree.specs.declared.Leaf as leaf
use Rattle.tree.specs.declared.Side.{Side}
use Rattle.tree.specs.declared.Side.TheVariants.{Leaf, Split}
use Rattle.tree.specs.declared.Tree.{Tree}
use Rattle.judge.specs.declared.judge_rows.Reached.{Reached}
use Rattle.judge.specs.declared.judge_rows.Wrong.{Wrong}
use Rattle.judge.specs.declared.judge_rows.Wrong.TheVariants.{AtLeaf, AtSplit}
use Rattle.judge.specs.declared.judge_rows.Seen.{Seen}
use Rattle.judge.specs.declared.judge_rows.Passed.{Passed}
use Rattle.judge.specs.Judge.{bad_column}
use Rattle.judge.specs.Mistakes.{root_leftward, root_rightward}

-- how many of the first n rows pass
abbrev pub first_rows : (ℕ → Bool) → ℕ → ℕ
first_rows p n = tally p (table (λ r. r) n)

-- row r has another label than its leaf's
abbrev pub mistaken : Sheet → leaf.Leaf → ℕ → Bool
mistaken s leaf r = not (eqb (label_of s r) leaf.label)

-- what came to a leaf of the first n rows
unfoldable pub reached_of : Sheet → (ℕ → Bool) → leaf.Leaf → ℕ → Reached
reached_of s mine leaf n = record { wrong = first_rows (λ r. mine r && mistaken s leaf r) n }

-- to a leaf that is not there nothing comes
abbrev pub nothing : Reached
nothing = record { wrong = 0 }

-- of the first n rows, those that come to the side, and what came to its leaves. A side that is a leaf has one leaf only
unfoldable pub seen_of : Sheet → (ℕ → Bool) → Side → ℕ → Seen
seen_of s mine (Leaf leaf) n = record { rows = first_rows mine n; left = reached_of s mine leaf n; right = nothing }
seen_of s mine (Split question left right) n =
    record {
      rows = first_rows mine n;
      left = reached_of s (leftward s question mine) left n;
      right = reached_of s (rightward s question mine) right n;
    }

unfoldable pub passed_of : Sheet → Tree → ℕ → Passed
passed_of s t n = record { left = seen_of s (root_leftward s t) t.left n; right = seen_of s (root_rightward s t) t.right n }

-- a row with this label comes to a leaf: one mistake more if it is another than the leaf's
unfoldable pub reached_by : ℕ → leaf.Leaf → Reached → Reached
reached_by code leaf reached = record { wrong = reached.wrong + bit (not (eqb code leaf.label)) }

-- row r comes to a side's left leaf, or to its right one
abbrev pub reached_left : Sheet → leaf.Leaf → ℕ → Seen → Seen
reached_left s leaf r seen = record { rows = seen.rows + 1; left = reached_by (label_of s r) leaf seen.left; right = seen.right }

abbrev pub reached_right : Sheet → leaf.Leaf → ℕ → Seen → Seen
reached_right s leaf r seen = record { rows = seen.rows + 1; left = seen.left; right = reached_by (label_of s r) leaf seen.right }

-- row r comes to the side
unfoldable pub next_of : Sheet → Side → ℕ → Seen → Seen
next_of s (Leaf leaf) r seen = reached_left s leaf r seen
next_of s (Split question left right) r seen = pick (sent_left s question r) (reached_left s left r seen) (reached_right s right r seen)

-- what was seen, as the side's leaves
unfoldable pub wrong_seen : Side → Seen → Wrong
wrong_seen (Leaf leaf) seen = AtLeaf seen.left
wrong_seen (Split question left right) seen = AtSplit seen.left seen.right

-- ---- what the functions may count on, once the sheet's reasons and reason 10 were ruled out

pub record JudgeShaped (measured : Measured) : Type 0 where
  pub rows_most : measured.size.rows ≤ most_rows
  pub values_all : length measured.values.now ≡ measured.size.columns * measured.size.rows
  pub codes_all : length measured.codes.now ≡ measured.size.rows

-- no more came to a leaf than n rows
pub record Few (reached : Reached) (n : ℕ) : Type 0 where
  pub wrong_in : reached.wrong ≤ n

-- no more was seen than rows were passed
pub record SeenWithin (seen : Seen) (n : ℕ) : Type 0 where
  pub rows_in : seen.rows ≤ n
  pub left_in : Few seen.left n
  pub right_in : Few seen.right n

-- the tree asks columns of the sheet
pub record Asking (columns : ℕ) (t : Tree) : Type 0 where
  pub root : t.question.column < columns
  pub left : T (not (bad_column columns t.left))
  pub right : T (not (bad_column columns t.right))
