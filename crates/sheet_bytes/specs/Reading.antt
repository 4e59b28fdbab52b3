-- For proofs only. What the reading of a sheet's rows goes by, once the sheet is neither empty nor too large.
use Rattle.std.specs.Prelude.{ℕ, ◌+◌, ◌*◌, ◌≤◌, ◌<◌, List, T}
use Rattle.threshold.specs.Threshold.{within}
use Rattle.sheet.specs.Limits.{most_columns}
use Rattle.sheet_bytes.specs.declared.Head.{Head}
use Rattle.sheet_bytes.specs.Room.{head_size, row_size, most_read, most_cells}
use Rattle.sheet_bytes.specs.Read.{head_cells, value_read}

-- the end of 2,048 rows of 16 columns, past every start
abbrev pub last_start : ℕ
last_start = head_size + most_read * row_size most_columns

-- a sheet that is neither empty nor too large
pub record SmallHead (h : Head) : Type 0 where
  pub rows_some : 1 ≤ h.size.rows
  pub rows_most : h.size.rows ≤ most_read
  pub columns_most : h.size.columns ≤ most_columns
  pub cells_most : head_cells h ≤ most_cells

-- all its values are finite and not too large
abbrev pub Valued : List ℕ → Head → Type 0
Valued bytes h = (index : ℕ) → index < head_cells h → T (within (value_read bytes h index))
