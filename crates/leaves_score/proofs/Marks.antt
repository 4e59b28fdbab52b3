-- The scan looks at a row's side only: marks that send the same rows left find the same two sides. Assumes nothing.
use mathlib.Core.Path.{◌≡◌, refl, ap, ap₂, ◌∙◌}
use Prim.Native.Nat.{ℕ, zero, suc, ◌+◌, ◌≤◌, ◌<◌}
use native.Mathlib.Omega.{arith}
use mathlib.Core.Bool.{Bool, not, ◌&&◌}
use mathlib.Core.List.{List}
use lib.ListN.{get_or}
use lib.Dec.{eqb}
use Rattle.basics.specs.Choice.{pick, bit}
use Rattle.basics.specs.Lists.{tally, table}
use Rattle.basics.proofs.Lists.{table_same}
use Rattle.sheet.specs.Limits.{most_labels}
use Rattle.sheet.specs.Sheet.{Sheet, label_of, row_at, every_row, least_rows}
use Rattle.sheet.specs.Rows.{rows_at}
use Rattle.side_scan.specs.declared.SideScan.{SideScan}
use Rattle.side_scan.specs.Commonest.{most_of}
use Rattle.side_scan.specs.OneSide.{leaf_best, restarted, side_of, at_start}
use Rattle.leaves_score.specs.Column.{Two, other, labelled, own_of, side_at_start, row_step, step_both, ended, scan_rows, scan_column}
use Rattle.leaves_score.specs.Scan.{perfect, scan_columns, start_both, scanned, sides_of}

tally_table : (p q : ℕ → Bool) (f : ℕ → ℕ) (n : ℕ) → ((k : ℕ) → k < n → bit (p (f k)) ≡ bit (q (f k))) → tally p (table f n) ≡ tally q (table f n)
tally_table p q f zero h = refl
tally_table p q f (suc n) h = omega (arith, h 0 (omega arith), tally_table p q (λ k. f (suc k)) n (λ k l. h (suc k) (omega arith)))

-- two tests that agree on the sheet's rows count alike
pub rows_alike : (s : Sheet) (p q : ℕ → Bool) → ((r : ℕ) → r < s.rows → bit (p r) ≡ bit (q r)) → tally p (every_row s) ≡ tally q (every_row s)
rows_alike s p q h = tally_table p q (λ r. r) s.rows h

start_alike : (s : Sheet) (support : ℕ) (p q : ℕ → Bool) → ((r : ℕ) → r < s.rows → p r ≡ q r) → side_at_start s support p ≡ side_at_start s support q
unfolding side_at_start own_of rows_at labelled
start_alike s support p q same =
    ap₂ (λ (own : List ℕ) (size : ℕ). at_start own size s.labels (least_rows support) (leaf_best (most_of (λ l. get_or own l 0) s.labels)))
    (table_same (labelled s p) (labelled s q) most_labels
    (λ l h. rows_alike s (λ r. p r && eqb (label_of s r) l) (λ r. q r && eqb (label_of s r) l) (λ r k. ap (λ (b : Bool). bit (b && eqb (label_of s r) l)) (same r k))))
    (rows_alike s p q (λ r k. ap bit (same r k)))

module _ (s : Sheet) (p q : ℕ → Bool) (in_rows : (c : ℕ) → c < s.columns → (i : ℕ) → i < s.rows → row_at s c i < s.rows)
    (same : (r : ℕ) → r < s.rows → p r ≡ q r) where
  step_alike : (c r : ℕ) (b : Two) → r < s.rows → step_both s p c r b ≡ step_both s q c r b
  unfolding step_both
  step_alike c r b h =
      ap (λ (m : Bool). pick m (record { left = row_step s c r b.left; right = b.right }) (record { left = b.left; right = row_step s c r b.right })) (same r h)

  scan_alike : (c : ℕ) → c < s.columns → (n i : ℕ) (b : Two) → i + n ≤ s.rows → scan_rows s p c n i b ≡ scan_rows s q c n i b
  unfolding scan_rows
  scan_alike c here zero i b h = refl
  scan_alike c here (suc n) i b h =
      let next : Two = step_both s q c (row_at s c i) b in
      ap (λ (z : Two). pick (ended z) z (scan_rows s p c n (suc i) z)) (step_alike c (row_at s c i) b (in_rows c here i (omega arith)))
      ∙ ap (pick (ended next) next) (scan_alike c here n (suc i) next (omega arith))

  column_alike : (c : ℕ) → c < s.columns → (b : Two) → scan_column s p c b ≡ scan_column s q c b
  unfolding scan_column
  column_alike c here b = scan_alike c here s.rows 0 (record { left = restarted b.left; right = restarted b.right }) (omega arith)

  columns_alike : (n c : ℕ) (b : Two) → c + n ≤ s.columns → scan_columns s p n c b ≡ scan_columns s q n c b
  unfolding scan_columns
  columns_alike zero c b h = refl
  columns_alike (suc n) c b h =
      let next : Two = scan_column s q c b in
      ap (λ (z : Two). pick (perfect z) z (scan_columns s p n (suc c) z)) (column_alike c (omega arith) b)
      ∙ ap (pick (perfect next) next) (columns_alike n (suc c) next (omega arith))

  pub starts_alike : (support : ℕ) → start_both s support p ≡ start_both s support q
  unfolding start_both
  starts_alike support =
      ap₂ (λ (l r : SideScan). record { left = l; right = r }) (start_alike s support p q same) (start_alike s support (other p) (other q) (λ r h. ap not (same r h)))

  pub scanned_alike : (support : ℕ) → scanned s support p ≡ scanned s support q
  unfolding scanned
  scanned_alike support =
      ap (λ (z : Two). scan_columns s p s.columns 0 z) (starts_alike support) ∙ columns_alike s.columns 0 (start_both s support q) (omega arith)

  pub sides_alike : (support : ℕ) → sides_of s support p ≡ sides_of s support q
  unfolding sides_of
  sides_alike support = ap (λ (z : Two). record { left = side_of z.left; right = side_of z.right }) (scanned_alike support)
