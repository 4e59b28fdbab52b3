-- For a signer. One side by itself: its own rows in each column's order, with no word of the other side and no early end. The two-side scan
-- answers what the two sides answer by themselves. Definitions, and the laws as statements.
use Rattle.std.specs.Prelude.{◌≡◌, ℕ, zero, suc, ◌+◌, ◌<◌, Bool, not, List, ◌++◌, length, T, eqb}
use Rattle.basics.specs.Lists.{tally, those}
use Rattle.sheet.specs.Sheet.{Sheet, label_of, order_of}
use Rattle.sheet.specs.Sound.{Sound}
use Rattle.sheet.specs.Rows.{rows_at}
use Rattle.tree.specs.declared.Side.{Side}
use Rattle.side_scan.specs.declared.SideScan.{SideScan}
use Rattle.side_scan.specs.OneSide.{restarted, counted_of, side_of}
use Rattle.leaves_score.specs.Column.{other, labelled, side_at_start, through}
use Rattle.leaves_score.specs.Scan.{sides_of}

unfoldable pub column_alone : Sheet → (ℕ → Bool) → ℕ → SideScan → SideScan
column_alone s mine c t = through s c (those mine (order_of s c)) (restarted t)

-- n columns from c on
unfoldable pub columns_alone : Sheet → (ℕ → Bool) → ℕ → ℕ → SideScan → SideScan
columns_alone s mine zero c t = t
columns_alone s mine (suc n) c t = columns_alone s mine n (suc c) (column_alone s mine c t)

unfoldable pub alone : Sheet → ℕ → (ℕ → Bool) → SideScan
alone s support mine = columns_alone s mine s.columns 0 (side_at_start s support mine)

unfoldable pub side_alone : Sheet → ℕ → (ℕ → Bool) → Side
side_alone s support mine = side_of (alone s support mine)

-- at every support the two-side scan, with its common early ends and its stop, answers what each side's own scan does
pub record Decoupled (s : Sheet) (support : ℕ) (mark : ℕ → Bool) : Type 0 where
  pub left : (sides_of s support mark).left ≡ side_alone s support mark
  pub right : (sides_of s support mark).right ≡ side_alone s support (other mark)

abbrev pub Decouples : Type 0
Decouples = (s : Sheet) → Sound s → (support : ℕ) (mark : ℕ → Bool) → Decoupled s support mark

-- "For each label, rows counted and rows to come always add up to the side's own count.": wherever a side's scan of a column stands, unless it is closed
pub record AddUp (s : Sheet) (mine : ℕ → Bool) (rest : List ℕ) (t : SideScan) : Type 0 where
  pub labels : (l : ℕ) → l < s.labels → counted_of t l + tally (λ r. eqb (label_of s r) l) rest ≡ labelled s mine l
  pub rows : t.counted + length rest ≡ rows_at s mine

abbrev pub AddsUp : Type 0
AddsUp =
    (s : Sheet) → Sound s → (support : ℕ) (mine : ℕ → Bool) (c : ℕ) → c < s.columns → (done rest : List ℕ)
    → those mine (order_of s c) ≡ done ++ rest
    → (t : SideScan) → t ≡ through s c done (restarted (columns_alone s mine c 0 (side_at_start s support mine))) → T (not t.closed) → AddUp s mine rest t
