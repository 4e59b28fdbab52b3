-- For a signer. What a side says of itself is so, at every support: each leaf's error is the number of its rows that its label gets wrong, and
-- both parts of a split have rows enough. Definitions, and the laws as statements.
use Rattle.std.specs.Prelude.{◌≡◌, ℕ, ◌+◌, ◌≤◌, ◌<◌, Bool}
use Rattle.threshold.specs.Laws.{Measured}
use Rattle.sheet.specs.Sheet.{Sheet, least_rows}
use Rattle.sheet.specs.Sound.{Sound}
use Rattle.sheet.specs.Rows.{leftward, rightward, rows_at, wrong_at}
use Rattle.tree.specs.Answer.{side_error}
use Rattle.tree.specs.declared.Leaf as leaf
use Rattle.tree.specs.declared.Question.{Question}
use Rattle.tree.specs.declared.Side.{Side}
use Rattle.tree.specs.declared.Side.TheVariants.{Leaf, Split}
use Rattle.leaves_score.specs.Column.{other}
use Rattle.leaves_score.specs.Scan.{sides_of}
use Rattle.side_laws.specs.Alone.{alone, side_alone}

-- what a leaf says of the rows that come to it
pub record LeafTold (s : Sheet) (mine : ℕ → Bool) (said : leaf.Leaf) : Type 0 where
  pub label_in : said.label < s.labels
  pub error_is : said.error ≡ wrong_at s mine said.label

pub record SplitTold (s : Sheet) (support : ℕ) (mine : ℕ → Bool) (question : Question) (left right : leaf.Leaf) : Type 0 where
  pub column_in : question.column < s.columns
  pub threshold_in : Measured question.threshold
  pub left_told : LeafTold s (leftward s question mine) left
  pub right_told : LeafTold s (rightward s question mine) right
  -- "both parts have at least max(support, 1) rows"
  pub left_full : least_rows support ≤ rows_at s (leftward s question mine)
  pub right_full : least_rows support ≤ rows_at s (rightward s question mine)

abbrev pub Told : Sheet → ℕ → (ℕ → Bool) → Side → Type 0
Told s support mine (Leaf said) = LeafTold s mine said
Told s support mine (Split question left right) = SplitTold s support mine question left right

-- the two sides of any root split
pub record BothTold (s : Sheet) (support : ℕ) (mark : ℕ → Bool) : Type 0 where
  pub left : Told s support mark (sides_of s support mark).left
  pub right : Told s support (other mark) (sides_of s support mark).right

abbrev pub Tells : Type 0
Tells = (s : Sheet) → Sound s → (support : ℕ) (mark : ℕ → Bool) → BothTold s support mark

-- a side's error, the sum of its leaves' errors, is its rows less its score
abbrev pub ErrorsAddUp : Type 0
ErrorsAddUp =
    (s : Sheet) → Sound s → (support : ℕ) (mine : ℕ → Bool)
    → (alone s support mine).best.score + side_error (side_alone s support mine) ≡ rows_at s mine
