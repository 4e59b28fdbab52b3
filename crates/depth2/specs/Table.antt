-- For a signer. Document 01, "Proved table (T)": one list. Definitions only; `proofs/Table.antt` computes it whole.
use Rattle.std.specs.Prelude.{◌≡◌, ℕ, ◌*◌, false, List, [], ◌∷◌, pos, negsuc, Float}
use Rattle.std.specs.Float.{fin, binary64}
use Rattle.std.specs.Float.Ieee.{of_bits, to_bits}
use Rattle.basics.specs.Lists.{All}
use Rattle.threshold.specs.Threshold.{threshold_of}
use Rattle.sheet.specs.Limits.{most_error, words_per_row}
use Rattle.sheet.specs.Sheet.{Sheet}
use Rattle.sheet.specs.declared.Terms.{Terms}
use Rattle.tree.specs.declared.Leaf as leaf
use Rattle.tree.specs.declared.Question.{Question}
use Rattle.tree.specs.declared.Side.TheVariants.{Leaf, Split}
use Rattle.tree.specs.declared.Answer.{Answer}
use Rattle.tree.specs.declared.Answer.TheVariants.{Kept, Found}
use Rattle.depth2.specs.Search.{search_of}

pub data Entry : Type 0 where
  -- the threshold between two values, by bit patterns: lower, upper, answer
  threshold : ℕ → ℕ → ℕ → Entry
  -- what a search answers, with scratch of just the words it asks
  search : Sheet → Terms → Answer → Entry

abbrev pub Holds : Entry → Type 0
Holds (threshold lower upper answer) = to_bits binary64 (threshold_of (of_bits binary64 lower) (of_bits binary64 upper)) ≡ answer
Holds (search sheet terms answer) = search_of sheet terms (words_per_row * sheet.rows) ≡ answer

-- 1.0, 1.5, 2.0, 2.5, 3.0, 3.5 and 4.0
abbrev one : Float
one = fin false 1 (pos 0)

abbrev one_and_half : Float
one_and_half = fin false 3 (negsuc 0)

abbrev two : Float
two = fin false 1 (pos 1)

abbrev two_and_half : Float
two_and_half = fin false 5 (negsuc 0)

abbrev three : Float
three = fin false 3 (pos 0)

abbrev three_and_half : Float
three_and_half = fin false 7 (negsuc 0)

abbrev four : Float
four = fin false 1 (pos 2)

-- "One column, values 1, 2, 3, 4, labels 0, 1, 0, 1 of two"
abbrev pub four_rows : Sheet
four_rows =
    record {
      rows = 4;
      columns = 1;
      labels = 2;
      values = one ∷ two ∷ three ∷ four ∷ [];
      codes = 0 ∷ 1 ∷ 0 ∷ 1 ∷ [];
      order = 0 ∷ 1 ∷ 2 ∷ 3 ∷ [];
      cuts = 1 ∷ 2 ∷ 3 ∷ 0 ∷ [];
      counts = 3 ∷ [];
    }

-- "with values 1, 2, labels 0, 1"
abbrev pub two_rows : Sheet
two_rows =
    record {
      rows = 2;
      columns = 1;
      labels = 2;
      values = one ∷ two ∷ [];
      codes = 0 ∷ 1 ∷ [];
      order = 0 ∷ 1 ∷ [];
      cuts = 1 ∷ 0 ∷ [];
      counts = 1 ∷ [];
    }

-- support, gap, error and bound
abbrev pub terms : ℕ → ℕ → ℕ → ℕ → Terms
terms support gap error bound = record { support = support; gap = gap; error = error; bound = bound }

-- a question about column 0, which every sheet here has alone; and a leaf's label and error
abbrev asks : Float → Question
asks value = record { column = 0; threshold = value }

abbrev says : ℕ → ℕ → leaf.Leaf
says label error = record { label = label; error = error }

unfoldable pub table_t : List Entry
table_t =
    -- "T1: 1.0, 2.0 gives 1.5."
    threshold 0x3FF0000000000000 0x4000000000000000 0x3FF8000000000000
    -- "T2: bits 3FF0000000000001 and ..02 give ..01."
    ∷ threshold 0x3FF0000000000001 0x3FF0000000000002 0x3FF0000000000001
    -- "T3: 1.0 and 3FF0000000000001 give 1.0."
    ∷ threshold 0x3FF0000000000000 0x3FF0000000000001 0x3FF0000000000000
    -- "T4: bits 1 and 2 give bits 1."
    ∷ threshold 1 2 1
    -- "T5: the four-row sheet."
    ∷ search four_rows (terms 1 0 2 most_error)
    (Found (record { question = asks two_and_half; left = Split (asks one_and_half) (says 0 0) (says 1 0); right = Split (asks three_and_half) (says 0 0) (says 1 0); error = 0 }) 1)
    -- "T6: it with gap 2: KEPT error=2 tried=0."
    ∷ search four_rows (terms 1 2 2 most_error) (Kept 2 0)
    -- "T7: it with bound 0: the same."
    ∷ search four_rows (terms 1 0 2 0) (Kept 2 0)
    -- "T8: it with support 2: KEPT error=2 tried=1; with starting error 3 too: FOUND error 2 at 2.5, both leaves label 0 error 1."
    ∷ search four_rows (terms 2 0 2 most_error) (Kept 2 1)
    ∷ search four_rows (terms 2 0 3 most_error)
    (Found (record { question = asks two_and_half; left = Leaf (says 0 1); right = Leaf (says 0 1); error = 2 }) 1)
    -- "T9: support 3: KEPT tried=0."
    ∷ search four_rows (terms 3 0 2 most_error) (Kept 2 0)
    -- "T10: T5 with values 1, 2, labels 0, 1, error 1: FOUND error 0 at 1.5, leaves 0 and 1."
    ∷ search two_rows (terms 1 0 1 most_error)
    (Found (record { question = asks one_and_half; left = Leaf (says 0 0); right = Leaf (says 1 0); error = 0 }) 1)
    ∷ []

abbrev pub TableHolds : Type 0
TableHolds = All Holds table_t
