-- For a signer. The least mistakes of a leaf or one question on a set of rows, and what a side's error has to do with it. Definitions, and the
-- laws as statements.
use Rattle.std.specs.Prelude.{◌≡◌, ℕ, ◌+◌, ◌≤◌, ◌<◌, Bool, not, ◌&&◌, T, eqb}
use Rattle.basics.specs.Choice.{pick, bit}
use Rattle.basics.specs.Lists.{tally}
use Rattle.threshold.specs.Order.{comparable}
use Rattle.sheet.specs.Sheet.{Sheet, label_of, every_row}
use Rattle.sheet.specs.Sound.{Sound}
use Rattle.sheet.specs.Rows.{sent_left, rows_at}
use Rattle.tree.specs.Answer.{side_error}
use Rattle.tree.specs.declared.Side.{Side}
use Rattle.tree.specs.declared.Side.TheVariants.{Leaf, Split}
use Rattle.leaves_score.specs.Column.{other}
use Rattle.leaves_score.specs.Scan.{sides_of}

-- the label that a leaf or a question gives a row
unfoldable pub answer : Sheet → Side → ℕ → ℕ
answer s (Leaf leaf) r = leaf.label
answer s (Split question left right) r = pick (sent_left s question r) left.label right.label

-- its mistakes on a set of rows
unfoldable pub mistakes : Sheet → (ℕ → Bool) → Side → ℕ
mistakes s mine x = tally (λ r. mine r && not (eqb (label_of s r) (answer s x r))) (every_row s)

-- over the sheet's labels and columns, at any threshold but NaN
abbrev pub Proper : Sheet → Side → Type 0
Proper s (Leaf leaf) = leaf.label < s.labels
Proper s (Split question left right) =
    (question.column < s.columns) × (left.label < s.labels) × (right.label < s.labels) × T (comparable question.threshold)

-- n is the least over a leaf and every question at every threshold in every column
pub record Opt (s : Sheet) (mine : ℕ → Bool) (n : ℕ) : Type 0 where
  pub best : Side
  pub proper : Proper s best
  pub reached : mistakes s mine best ≡ n
  pub least : (x : Side) → Proper s x → n ≤ mistakes s mine x

-- with support at most 1 each side's error is opt of its rows
pub record BothOpt (s : Sheet) (support : ℕ) (mark : ℕ → Bool) : Type 0 where
  pub left : Opt s mark (side_error (sides_of s support mark).left)
  pub right : Opt s (other mark) (side_error (sides_of s support mark).right)

abbrev pub SideOptimal : Type 0
SideOptimal = (s : Sheet) → Sound s → (support : ℕ) → support ≤ 1 → (mark : ℕ → Bool) → BothOpt s support mark

-- opt grows with the set of rows, and by no more than the rows added
abbrev pub Grows : Type 0
Grows =
    (s : Sheet) (few more : ℕ → Bool) → ((r : ℕ) → r < s.rows → bit (few r) ≤ bit (more r)) → (n m : ℕ) → Opt s few n → Opt s more m
    → (n ≤ m) × (m + rows_at s few ≤ n + rows_at s more)

-- at every support: a side's error is the mistakes that it makes on its rows
pub record BothMistaken (s : Sheet) (support : ℕ) (mark : ℕ → Bool) : Type 0 where
  pub left : mistakes s mark (sides_of s support mark).left ≡ side_error (sides_of s support mark).left
  pub right : mistakes s (other mark) (sides_of s support mark).right ≡ side_error (sides_of s support mark).right

abbrev pub Mistaken : Type 0
Mistaken = (s : Sheet) → Sound s → (support : ℕ) (mark : ℕ → Bool) → BothMistaken s support mark
