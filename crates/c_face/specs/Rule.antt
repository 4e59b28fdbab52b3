-- For a signer. The words that a search answers. Definitions only.
use Rattle.std.specs.Prelude.{ℕ, List, [], ◌∷◌, ◌++◌, replicate}
use Rattle.std.specs.Float.{binary64}
use Rattle.std.specs.Float.Ieee.{to_bits}
use Rattle.tree.specs.declared.Question.{Question}
use Rattle.tree.specs.declared.Side.{Side}
use Rattle.tree.specs.declared.Side.TheVariants.{Leaf, Split}
use Rattle.tree.specs.declared.Tree.{Tree}
use Rattle.tree.specs.declared.Answer.{Answer}
use Rattle.tree.specs.declared.Answer.TheVariants.{TurnedBack, Kept, Found}

-- a question: its column, and its threshold's bits
abbrev pub question_words : Question → List ℕ
question_words question = question.column ∷ to_bits binary64 question.threshold ∷ []

-- "A side is a leaf (label, error) or a split (column, threshold, two labels, two errors)": seven words, 0 where a leaf says nothing
unfoldable pub side_words : Side → List ℕ
side_words (Leaf leaf) = 0 ∷ leaf.label ∷ leaf.error ∷ 0 ∷ 0 ∷ 0 ∷ 0 ∷ []
side_words (Split question left right) = 1 ∷ question_words question ++ (left.label ∷ right.label ∷ left.error ∷ right.error ∷ [])

-- "Found (error, column, threshold, two sides, tried)"
unfoldable pub found_words : Tree → ℕ → List ℕ
found_words tree tried =
    2 ∷ tree.error ∷ tried ∷ question_words tree.question ++ (side_words tree.left ++ side_words tree.right)

-- a case that says two numbers, and 0 in the sixteen words past them
unfoldable pub short_words : ℕ → ℕ → ℕ → List ℕ
short_words kind first second = kind ∷ first ∷ second ∷ replicate 16 0

-- "A search answers Turned back (number, place), Kept (error, tried) or Found (error, column, threshold, two sides, tried)."
unfoldable pub search_words : Answer → List ℕ
search_words (TurnedBack number place) = short_words 0 number place
search_words (Kept error tried) = short_words 1 error tried
search_words (Found tree tried) = found_words tree tried
