-- For a signer. Document 01, "The sheet and its numbers": the limits, each once. Definitions only.
use Rattle.std.specs.Prelude.{ℕ}

-- "Rows 1 to 4,096; columns 1 to 16; labels 1 to 32, coded from 0."
abbrev pub most_rows : ℕ
most_rows = 4096

abbrev pub most_columns : ℕ
most_columns = 16

abbrev pub most_labels : ℕ
most_labels = 32

-- "Support 0 to 4,096 (0 acts as 1)."
abbrev pub most_support : ℕ
most_support = 4096

-- "Gap, starting error and upper bound each 0 to 1,000,000; 1,000,000 serves as "no bound"."
abbrev pub most_error : ℕ
most_error = 1000000

-- "Scratch has at least 8 u32 words per row."
abbrev pub words_per_row : ℕ
words_per_row = 8
