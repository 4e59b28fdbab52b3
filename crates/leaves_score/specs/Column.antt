-- For a signer. A side's own rows, and the scan of a column of both sides (document 01, "Scan of the two sides"): the column's rows, each advancing its own side.
-- `mark r` says that row r goes to the left side; what a row does to its side is `step_of` (side_scan). Definitions only.
use Rattle.std.specs.Prelude.{ℕ, zero, suc, Bool, not, ◌&&◌, ◌||◌, List, [], ◌∷◌, leb, eqb}
use Rattle.basics.specs.Choice.{pick}
use Rattle.basics.specs.Lists.{tally, table}
use Rattle.sheet.specs.Limits.{most_labels}
use Rattle.sheet.specs.Sheet.{Sheet, value_of, label_of, row_at, every_row, least_rows}
use Rattle.sheet.specs.Rows.{rows_at}
use Rattle.side_scan.specs.declared.SideScan.{SideScan}
use Rattle.side_scan.specs.OneSide.{restarted, rows_left, step_of}
use Rattle.side_scan.specs.Step.{leaf_scan}

-- ---- a side's own rows

-- the rows that go to the right side
abbrev pub other : (ℕ → Bool) → ℕ → Bool
other mark r = not (mark r)

-- how many rows of each label a side has
unfoldable pub labelled : Sheet → (ℕ → Bool) → ℕ → ℕ
labelled s mine l = tally (λ r. mine r && eqb (label_of s r) l) (every_row s)

unfoldable pub own_of : Sheet → (ℕ → Bool) → List ℕ
own_of s mine = table (labelled s mine) most_labels

-- "A side starts as a leaf: its commonest label, smallest code on ties; its score is that count."
unfoldable pub side_at_start : Sheet → ℕ → (ℕ → Bool) → SideScan
side_at_start s support mine = leaf_scan (own_of s mine) (rows_at s mine) s.labels (least_rows support)

-- ---- a column, both sides

-- the scans of the two sides, which go through a column together
pub record Two : Type 0 where
  pub left : SideScan
  pub right : SideScan

abbrev pub row_step : Sheet → ℕ → ℕ → SideScan → SideScan
row_step s c r t = step_of t c (label_of s r) (value_of s c r)

-- one side by itself: the rows of a list, one after another
unfoldable pub through : Sheet → ℕ → List ℕ → SideScan → SideScan
through s c [] t = t
through s c (r ∷ rs) t = through s c rs (row_step s c r t)

-- "each row advancing its own side"
unfoldable pub step_both : Sheet → (ℕ → Bool) → ℕ → ℕ → Two → Two
step_both s mark c r b =
    pick (mark r) (record { left = row_step s c r b.left; right = b.right }) (record { left = b.left; right = row_step s c r b.right })

-- "A column ends early once both sides are closed, or each side's skip is at least its rows not yet counted."
unfoldable pub idle : SideScan → Bool
idle t = leb (rows_left t) t.skip

unfoldable pub ended : Two → Bool
ended b = (b.left.closed && b.right.closed) || (idle b.left && idle b.right)

-- "rows in sorted order": n rows from place i on
unfoldable pub scan_rows : Sheet → (ℕ → Bool) → ℕ → ℕ → ℕ → Two → Two
scan_rows s mark c zero i b = b
scan_rows s mark c (suc n) i b =
    let next : Two = step_both s mark c (row_at s c i) b in
    let rest : Two = scan_rows s mark c n (suc i) next in
    pick (ended next) next rest

unfoldable pub scan_column : Sheet → (ℕ → Bool) → ℕ → Two → Two
scan_column s mark c b = scan_rows s mark c s.rows 0 (record { left = restarted b.left; right = restarted b.right })
