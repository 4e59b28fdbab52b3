-- For a signer. The sides of a root split at a cut of a column (document 01, "Search", step 3). Definitions only.
use Rattle.std.specs.Prelude.{ℕ, zero, suc, Float}
use Rattle.threshold.specs.Threshold.{threshold_of}
use Rattle.sheet.specs.Sheet.{Sheet, value_at, place_of}
use Rattle.sheet.specs.Rows.{sent_left}
use Rattle.tree.specs.Answer.{side_error}
use Rattle.tree.specs.declared.Question.{Question}
use Rattle.leaves_score.specs.declared.Sides.{Sides}
use Rattle.leaves_score.specs.Scan.{sides_of}

-- "The threshold is between the values at the preceding cut's place (place 0 for cut number 0) and this cut's place."
unfoldable pub preceding_place : Sheet → ℕ → ℕ → ℕ
preceding_place s c zero = 0
preceding_place s c (suc k) = place_of s c k

unfoldable pub cut_threshold : Sheet → ℕ → ℕ → Float
cut_threshold s c k = threshold_of (value_at s c (preceding_place s c k)) (value_at s c (place_of s c k))

-- cut number k of column c as a question
abbrev pub cut_question : Sheet → ℕ → ℕ → Question
cut_question s c k = record { column = c; threshold = cut_threshold s c k }

-- the two sides at cut number k of column c
unfoldable pub sides_at : Sheet → ℕ → ℕ → ℕ → Sides
sides_at s support c k = sides_of s support (sent_left s (cut_question s c k))

-- their errors, which the search of a column goes by
unfoldable pub errors_at : Sheet → ℕ → ℕ → ℕ → ℕ × ℕ
errors_at s support c k = (side_error (sides_at s support c k).left, side_error (sides_at s support c k).right)
