-- An accepted sheet can be scanned, and its cuts are no part of the scan: the two sheets have the same rows, codes, values and order. Assumes nothing.
use Prim.Native.Nat.{ℕ, zero, suc}
use mathlib.Core.Path.{◌≡◌, refl, ap, ◌∙◌}
use mathlib.Core.Bool.{Bool}
use mathlib.Core.List.{List}
use Rattle.basics.specs.Choice.{pick}
use Rattle.sheet.specs.Sheet.{Sheet, value_of, label_of, row_at, order_of}
use Rattle.sheet.specs.Sound.{Sound}
use Rattle.sheet.specs.Rows.{rows_at}
use Rattle.side_scan.specs.OneSide.{restarted, side_of}
use Rattle.leaves_score.specs.Column.{Two, labelled, own_of, side_at_start, step_both, ended, scan_rows, scan_column}
use Rattle.leaves_score.specs.Scan.{perfect, scan_columns, start_both, scanned, sides_of}
use Rattle.leaves_score.specs.Lists.{scan_of, Lent, Scannable}

pub accepted : (s : Sheet) (marks : List ℕ) → Sound s → Lent s marks → Scannable (scan_of s) marks
unfolding label_of row_at order_of
accepted s marks h k =
    record {
      limited =
          record {
            rows_some = h.limited.rows_some;
            rows_most = h.limited.rows_most;
            columns_some = h.limited.columns_some;
            columns_most = h.limited.columns_most;
            labels_some = h.limited.labels_some;
            labels_most = h.limited.labels_most;
          };
      lent = record { ordered = k.ordered; valued = k.valued; coded = k.coded; marked = k.marked; numbered = k.numbered };
      labelled = h.labelled;
      in_rows = λ c l. (h.column c l).in_rows;
      each_once = λ c l. (h.column c l).each_once;
    }

module _ (s : Sheet) (mark : ℕ → Bool) where
  step_alike : (c i : ℕ) (b : Two) → step_both (scan_of s) mark c (row_at (scan_of s) c i) b ≡ step_both s mark c (row_at s c i) b
  unfolding step_both value_of label_of row_at
  step_alike c i b = refl

  rows_alike : (c n i : ℕ) (b : Two) → scan_rows (scan_of s) mark c n i b ≡ scan_rows s mark c n i b
  unfolding scan_rows
  rows_alike c zero i b = refl
  rows_alike c (suc n) i b =
      let next : Two = step_both s mark c (row_at s c i) b in
      ap (λ (x : Two). pick (ended x) x (scan_rows (scan_of s) mark c n (suc i) x)) (step_alike c i b)
      ∙ ap (λ (x : Two). pick (ended next) next x) (rows_alike c n (suc i) next)

  column_alike : (c : ℕ) (b : Two) → scan_column (scan_of s) mark c b ≡ scan_column s mark c b
  unfolding scan_column
  column_alike c b = rows_alike c s.rows 0 (record { left = restarted b.left; right = restarted b.right })

  columns_alike : (n c : ℕ) (b : Two) → scan_columns (scan_of s) mark n c b ≡ scan_columns s mark n c b
  unfolding scan_columns
  columns_alike zero c b = refl
  columns_alike (suc n) c b =
      let next : Two = scan_column s mark c b in
      ap (λ (x : Two). pick (perfect x) x (scan_columns (scan_of s) mark n (suc c) x)) (column_alike c b)
      ∙ ap (λ (x : Two). pick (perfect next) next x) (columns_alike n (suc c) next)

  start_alike : (support : ℕ) → start_both (scan_of s) support mark ≡ start_both s support mark
  unfolding start_both side_at_start own_of labelled label_of rows_at
  start_alike support = refl

  pub same_sides : (support : ℕ) → sides_of (scan_of s) support mark ≡ sides_of s support mark
  unfolding sides_of scanned
  same_sides support =
      ap (λ (z : Two). record { left = side_of z.left; right = side_of z.right })
      (ap (λ (z : Two). scan_columns (scan_of s) mark s.columns 0 z) (start_alike support) ∙ columns_alike s.columns 0 (start_both s support mark))
