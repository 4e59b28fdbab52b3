-- For a signer. The scan of the two sides of a root split (document 01, "Scan of the two sides"): all columns, and the sides that it ends in. `mark r` says that
-- row r goes to the left side; the scan of one column is `scan_column` (Column). Definitions only.
use Rattle.std.specs.Prelude.{ℕ, zero, suc, Bool, ◌&&◌, eqb}
use Rattle.basics.specs.Choice.{pick}
use Rattle.sheet.specs.Sheet.{Sheet}
use Rattle.sheet.specs.Rows.{rows_at}
use Rattle.side_scan.specs.OneSide as one
use Rattle.side_scan.specs.OneSide.{side_of}
use Rattle.leaves_score.specs.Column.{Two, other, labelled, own_of, side_at_start, step_both, idle, ended, scan_rows, scan_column}
use Rattle.leaves_score.specs.declared.Sides.{Sides}

-- ---- all columns

-- "Scanning stops after a column when both sides are perfect."
unfoldable pub perfect : Two → Bool
perfect b = eqb b.left.best.score b.left.size && eqb b.right.best.score b.right.size

-- "Columns are scanned in order": n columns from c on
unfoldable pub scan_columns : Sheet → (ℕ → Bool) → ℕ → ℕ → Two → Two
scan_columns s mark zero c b = b
scan_columns s mark (suc n) c b =
    let next : Two = scan_column s mark c b in
    let rest : Two = scan_columns s mark n (suc c) next in
    pick (perfect next) next rest

-- ---- the two sides

unfoldable pub start_both : Sheet → ℕ → (ℕ → Bool) → Two
start_both s support mark = record { left = side_at_start s support mark; right = side_at_start s support (other mark) }

unfoldable pub scanned : Sheet → ℕ → (ℕ → Bool) → Two
scanned s support mark = scan_columns s mark s.columns 0 (start_both s support mark)

-- the two sides of the root split that sends the marked rows left, at a support
unfoldable pub sides_of : Sheet → ℕ → (ℕ → Bool) → Sides
sides_of s support mark =
    let z : Two = scanned s support mark in
    record { left = side_of z.left; right = side_of z.right }

-- `unfolding scan_computes` opens every definition of the scan at once
unfoldable pub scan_computes : Unit {0}
unfolding pick one.side_computes rows_at labelled own_of side_at_start step_both idle ended scan_rows scan_column perfect scan_columns start_both scanned sides_of
scan_computes = tt
