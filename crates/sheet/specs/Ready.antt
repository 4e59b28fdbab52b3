-- For proofs only. What the functions behind the input check may count on, once reasons 1 and 2, and then 7, were ruled out.
use Rattle.std.specs.Prelude.{ℕ, ◌<◌}
use Rattle.sheet.specs.Sheet.{Sheet, row_at}
use Rattle.sheet.specs.Sound.{Limited}
use Rattle.sheet.specs.Laws.{Lengths}

-- the sheet is as reasons 1 and 2 leave it
pub record Shaped (s : Sheet) : Type 0 where
  pub limited : Limited s
  pub lengths : Lengths s

-- and c is a column of it, whose entries of the order list are rows
pub record Listed (s : Sheet) (c : ℕ) : Type 0 where
  pub shaped : Shaped s
  pub column_in : c < s.columns
  pub in_rows : (i : ℕ) → i < s.rows → row_at s c i < s.rows

-- every entry of the order list is a row
pub record Ordered (s : Sheet) : Type 0 where
  pub shaped : Shaped s
  pub column : (c : ℕ) → c < s.columns → Listed s c
