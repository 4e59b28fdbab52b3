-- For a signer. The text of an answer (document 01, "Program (added)"). Definitions, and a law as a statement; `proofs/` proves it.
use Rattle.std.specs.Prelude.{◌≡◌, ℕ, ◌+◌, ◌≤◌, List, ◌∷◌, ◌++◌, length, drop, leb, Float}
use Rattle.std.specs.Float.{binary64}
use Rattle.std.specs.Float.Ieee.{to_bits}
use Rattle.basics.specs.Choice.{pick}
use Rattle.tree.specs.declared.Question.{Question}
use Rattle.tree.specs.declared.Leaf as leaf
use Rattle.tree.specs.declared.Side.{Side}
use Rattle.tree.specs.declared.Side.TheVariants.{Leaf, Split}
use Rattle.tree.specs.declared.Tree.{Tree}
use Rattle.tree.specs.declared.Answer.{Answer}
use Rattle.tree.specs.declared.Answer.TheVariants.{TurnedBack, Kept, Found}
use Rattle.digits.specs.Digits.{decimal_of, hex_of, most_places, hex_places}
use Rattle.listing.specs.Words.{found_error_word, kept_error_word, refused_word, place_word, column_word, spot_word, tried_word, leaf_label_word, error_word, split_column_word, left_word, right_word, slash_word, newline_word, left_mark, right_mark}

-- a word and a number: ` column=0`
unfoldable pub field : List ℕ → ℕ → List ℕ
field word n = word ++ decimal_of n

-- "`at` is the threshold's bits in hex": ` at=4004000000000000`. No search answers a NaN; one prints as 7FF8000000000000 (`to_bits`).
unfoldable pub spot_of : Float → List ℕ
spot_of threshold = spot_word ++ hex_of (to_bits binary64 threshold)

-- a question's column and threshold: ` column=0 at=4004000000000000`
unfoldable pub question_of : List ℕ → Question → List ℕ
question_of word question = field word question.column ++ spot_of question.threshold

-- "`left` and `right` are label/error": ` left=0/0`
unfoldable pub score_of : List ℕ → leaf.Leaf → List ℕ
score_of word leaf = field word leaf.label ++ field slash_word leaf.error

-- two words, each with a number, and the line's end
unfoldable pub line_of : List ℕ → ℕ → List ℕ → ℕ → List ℕ
line_of one m two n = field one m ++ field two n ++ newline_word

-- "A leaf prints `L LEAF label=0 error=1`", after its mark
unfoldable pub leaf_of : leaf.Leaf → List ℕ
leaf_of leaf = line_of leaf_label_word leaf.label error_word leaf.error

-- "`L SPLIT column=0 at=3FF8000000000000 left=0/0 right=1/0`", after its mark
unfoldable pub split_of : Question → leaf.Leaf → leaf.Leaf → List ℕ
split_of question left right = question_of split_column_word question ++ score_of left_word left ++ score_of right_word right ++ newline_word

unfoldable pub side_line : ℕ → Side → List ℕ
side_line mark (Leaf leaf) = mark ∷ leaf_of leaf
side_line mark (Split question left right) = mark ∷ split_of question left right

-- "`FOUND error=0 column=0 at=4004000000000000 tried=1`"
unfoldable pub found_of : Tree → ℕ → List ℕ
found_of tree tried =
    field found_error_word tree.error ++ question_of column_word tree.question ++ field tried_word tried ++ newline_word

-- "no gain prints `KEPT error=2 tried=0`"
unfoldable pub kept_of : ℕ → ℕ → List ℕ
kept_of error tried = line_of kept_error_word error tried_word tried

-- "A refused sheet prints `REFUSED 22 place=3`."
unfoldable pub refused_of : ℕ → ℕ → List ℕ
refused_of number place = line_of refused_word number place_word place

-- a found rule: its line, and one for each side
unfoldable pub rule_lines : Tree → ℕ → List ℕ
rule_lines tree tried = found_of tree tried ++ side_line left_mark tree.left ++ side_line right_mark tree.right

-- an answer's listing
unfoldable pub listing_of : Answer → List ℕ
listing_of (TurnedBack number place) = refused_of number place
listing_of (Kept error tried) = kept_of error tried
listing_of (Found tree tried) = rule_lines tree tried

-- ---- how long each part is at most: its words' lengths, and twenty digits a number

abbrev pub most_field : List ℕ → ℕ
most_field word = length word + most_places

-- always as long
abbrev pub spot_length : ℕ
spot_length = length spot_word + hex_places

abbrev pub most_question : List ℕ → ℕ
most_question word = most_field word + spot_length

abbrev pub most_score : List ℕ → ℕ
most_score word = most_field word + most_field slash_word

abbrev pub most_line : List ℕ → List ℕ → ℕ
most_line one two = most_field one + most_field two + length newline_word

abbrev pub most_leaf : ℕ
most_leaf = most_line leaf_label_word error_word

abbrev pub most_split : ℕ
most_split = most_question split_column_word + most_score left_word + most_score right_word + length newline_word

-- a mark, and a split, which is longer than a leaf
abbrev pub most_side : ℕ
most_side = 1 + most_split

abbrev pub most_found : ℕ
most_found = most_field found_error_word + most_question column_word + most_field tried_word + length newline_word

-- ---- the listing in lent memory

-- room for every listing: a rule's is the longest
abbrev pub longest : ℕ
longest = most_found + most_side + most_side

-- how many bytes are written: none where the memory is shorter than that
unfoldable pub written_of : Answer → List ℕ → ℕ
written_of answer out = pick (leb longest (length out)) (length (listing_of answer)) 0

-- the memory afterwards: the listing, and what stood past it as it was
unfoldable pub out_of : Answer → List ℕ → List ℕ
out_of answer out = pick (leb longest (length out)) (listing_of answer ++ drop (length (listing_of answer)) out) out

-- there is room for every answer's listing, whatever its numbers
abbrev pub RoomForEvery : Type 0
RoomForEvery = (answer : Answer) → length (listing_of answer) ≤ longest

-- what a call leaves: how many bytes it says, and the memory
pub record ListedIn (answer : Answer) (out : List ℕ) (bytes : ℕ) (out' : List ℕ) : Type 0 where
  pub says : bytes ≡ written_of answer out
  pub holds : out' ≡ out_of answer out
