-- For a signer. The lent words, eight a row: the errors of the cuts tried, two words a cut; the ring of intervals, four words a slot, a slot a
-- row; the side mark of each row; one word a row to spare. The input check, which comes before, uses the first word of each row. Definitions only.
use Rattle.std.specs.Prelude.{◌≡◌, ℕ, ◌*◌, ◌≤◌, List, length, drop}
use Rattle.sheet.specs.Limits.{most_rows, words_per_row}

-- what is not the search's to use
unfoldable pub rest_of : ℕ → List ℕ → List ℕ
rest_of rows scratch = drop (words_per_row * rows) scratch

-- there are rows, and words enough for them
pub record Enough (rows : ℕ) (scratch : List ℕ) : Type 0 where
  pub some : 1 ≤ rows
  pub few : rows ≤ most_rows
  pub words : words_per_row * rows ≤ length scratch

-- as many words as before, and what is not the search's is as it was
pub record RestKept (rows : ℕ) (was scratch : List ℕ) : Type 0 where
  pub size : length scratch ≡ length was
  pub rest : rest_of rows scratch ≡ rest_of rows was
