-- For a signer. The rows that come to a question, those of them that go left, how many come there, and how many of them have another label
-- (document 01, "Threshold" and "Judge"). Definitions only.
use Rattle.std.specs.Prelude.{ℕ, Bool, not, ◌&&◌, eqb}
use Rattle.basics.specs.Lists.{tally}
use Rattle.threshold.specs.Threshold.{goes_left}
use Rattle.tree.specs.declared.Question.{Question}
use Rattle.sheet.specs.Sheet.{Sheet, value_of, label_of, every_row}

-- "Rows with value ≤ threshold go left.": whether row r does at a question
unfoldable pub sent_left : Sheet → Question → ℕ → Bool
sent_left s question r = goes_left (value_of s question.column r) question.threshold

-- of the rows that come to a question, those that go left, and the others
abbrev pub leftward : Sheet → Question → (ℕ → Bool) → ℕ → Bool
leftward s question mine r = mine r && sent_left s question r

abbrev pub rightward : Sheet → Question → (ℕ → Bool) → ℕ → Bool
rightward s question mine r = mine r && not (sent_left s question r)

-- how many rows come there, and how many of them have another label
unfoldable pub rows_at : Sheet → (ℕ → Bool) → ℕ
rows_at s mine = tally mine (every_row s)

unfoldable pub wrong_at : Sheet → (ℕ → Bool) → ℕ → ℕ
wrong_at s mine label = tally (λ r. mine r && not (eqb (label_of s r) label)) (every_row s)
