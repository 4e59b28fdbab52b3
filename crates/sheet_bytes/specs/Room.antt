-- For a signer. How long the parts of a sheet are in bytes, and the largest sheet (document 01, "Program (added)"). Definitions only.
use Rattle.std.specs.Prelude.{ℕ, ◌+◌, ◌*◌}

-- "`HD`: rows u16, columns u8, labels u8, support u16, gap u32, error u32, bound u32."
abbrev pub head_size : ℕ
head_size = 20

-- "Then per row `RW`: label u8, then the columns' f64 bits.": a row's mark and label, and a value
abbrev pub row_fixed : ℕ
row_fixed = 3

abbrev pub value_size : ℕ
value_size = 8

abbrev pub row_size : ℕ → ℕ
row_size columns = row_fixed + value_size * columns

-- "21 more than 2,048 rows or 8,192 cells (0)"
abbrev pub most_read : ℕ
most_read = 2048

abbrev pub most_cells : ℕ
most_cells = 8192

-- the largest sheet's length: its header, the marks and labels of 2,048 rows, and 8,192 values
abbrev pub largest_sheet : ℕ
largest_sheet = head_size + row_fixed * most_read + value_size * most_cells

-- the largest sheet, and one byte more: no further byte changes the answer (`OneMoreSuffices` of crate rule_finder)
abbrev pub room : ℕ
room = largest_sheet + 1
