-- For a signer. The listings that document 01 prints in full, by their bytes. Definitions only; `proofs/Table.antt` computes them all at once.
use Rattle.std.specs.Prelude.{ℕ, List, [], ◌∷◌}
use Rattle.std.specs.Float.{binary64}
use Rattle.std.specs.Float.Ieee.{of_bits}
use Rattle.tree.specs.declared.Question.{Question}
use Rattle.tree.specs.declared.Leaf as leaf
use Rattle.tree.specs.declared.Side.TheVariants.{Leaf, Split}
use Rattle.tree.specs.declared.Answer.{Answer}
use Rattle.tree.specs.declared.Answer.TheVariants.{TurnedBack, Kept, Found}

-- is column 0 at most the double of these bits?
abbrev pub at : ℕ → Question
at bits = record { column = 0; threshold = of_bits binary64 bits }

abbrev pub score_line : ℕ → ℕ → leaf.Leaf
score_line label error = record { label = label; error = error }

pub record ListingEntry : Type 0 where
  pub answer : Answer
  pub text : List ℕ

-- T5: the four-row sheet
-- `FOUND error=0 column=0 at=4004000000000000 tried=1`
-- `L SPLIT column=0 at=3FF8000000000000 left=0/0 right=1/0`
-- `R SPLIT column=0 at=400C000000000000 left=0/0 right=1/0`
unfoldable pub entry1 : ListingEntry
entry1 =
    record {
      answer = Found (record { question = at 0x4004000000000000; left = Split (at 0x3FF8000000000000) (score_line 0 0) (score_line 1 0); right = Split (at 0x400C000000000000) (score_line 0 0) (score_line 1 0); error = 0 }) 1;
      text =
          70 ∷ 79 ∷ 85 ∷ 78 ∷ 68 ∷ 32 ∷ 101 ∷ 114 ∷ 114 ∷ 111 ∷ 114 ∷ 61 ∷ 48 ∷ 32 ∷ 99 ∷ 111 ∷ 108 ∷ 117 ∷ 109 ∷ 110 ∷ 61 ∷ 48 ∷ 32 ∷ 97 ∷ 116 ∷ 61 ∷ 52 ∷ 48 ∷ 48 ∷ 52 ∷ 48 ∷ 48 ∷ 48 ∷ 48 ∷ 48 ∷ 48 ∷ 48 ∷ 48 ∷ 48 ∷ 48 ∷ 48 ∷ 48 ∷ 32 ∷ 116 ∷ 114 ∷ 105 ∷ 101 ∷ 100 ∷ 61 ∷ 49 ∷ 10 ∷
          76 ∷ 32 ∷ 83 ∷ 80 ∷ 76 ∷ 73 ∷ 84 ∷ 32 ∷ 99 ∷ 111 ∷ 108 ∷ 117 ∷ 109 ∷ 110 ∷ 61 ∷ 48 ∷ 32 ∷ 97 ∷ 116 ∷ 61 ∷ 51 ∷ 70 ∷ 70 ∷ 56 ∷ 48 ∷ 48 ∷ 48 ∷ 48 ∷ 48 ∷ 48 ∷ 48 ∷ 48 ∷ 48 ∷ 48 ∷ 48 ∷ 48 ∷ 32 ∷ 108 ∷ 101 ∷ 102 ∷ 116 ∷ 61 ∷ 48 ∷ 47 ∷ 48 ∷ 32 ∷ 114 ∷ 105 ∷ 103 ∷ 104 ∷ 116 ∷ 61 ∷ 49 ∷ 47 ∷ 48 ∷ 10 ∷
          82 ∷ 32 ∷ 83 ∷ 80 ∷ 76 ∷ 73 ∷ 84 ∷ 32 ∷ 99 ∷ 111 ∷ 108 ∷ 117 ∷ 109 ∷ 110 ∷ 61 ∷ 48 ∷ 32 ∷ 97 ∷ 116 ∷ 61 ∷ 52 ∷ 48 ∷ 48 ∷ 67 ∷ 48 ∷ 48 ∷ 48 ∷ 48 ∷ 48 ∷ 48 ∷ 48 ∷ 48 ∷ 48 ∷ 48 ∷ 48 ∷ 48 ∷ 32 ∷ 108 ∷ 101 ∷ 102 ∷ 116 ∷ 61 ∷ 48 ∷ 47 ∷ 48 ∷ 32 ∷ 114 ∷ 105 ∷ 103 ∷ 104 ∷ 116 ∷ 61 ∷ 49 ∷ 47 ∷ 48 ∷ 10 ∷ [];
    }

-- T8, with starting error 3: both leaves label 0 error 1
-- `FOUND error=2 column=0 at=4004000000000000 tried=1`
-- `L LEAF label=0 error=1`
-- `R LEAF label=0 error=1`
unfoldable pub entry2 : ListingEntry
entry2 =
    record {
      answer = Found (record { question = at 0x4004000000000000; left = Leaf (score_line 0 1); right = Leaf (score_line 0 1); error = 2 }) 1;
      text =
          70 ∷ 79 ∷ 85 ∷ 78 ∷ 68 ∷ 32 ∷ 101 ∷ 114 ∷ 114 ∷ 111 ∷ 114 ∷ 61 ∷ 50 ∷ 32 ∷ 99 ∷ 111 ∷ 108 ∷ 117 ∷ 109 ∷ 110 ∷ 61 ∷ 48 ∷ 32 ∷ 97 ∷ 116 ∷ 61 ∷ 52 ∷ 48 ∷ 48 ∷ 52 ∷ 48 ∷ 48 ∷ 48 ∷ 48 ∷ 48 ∷ 48 ∷ 48 ∷ 48 ∷ 48 ∷ 48 ∷ 48 ∷ 48 ∷ 32 ∷ 116 ∷ 114 ∷ 105 ∷ 101 ∷ 100 ∷ 61 ∷ 49 ∷ 10 ∷
          76 ∷ 32 ∷ 76 ∷ 69 ∷ 65 ∷ 70 ∷ 32 ∷ 108 ∷ 97 ∷ 98 ∷ 101 ∷ 108 ∷ 61 ∷ 48 ∷ 32 ∷ 101 ∷ 114 ∷ 114 ∷ 111 ∷ 114 ∷ 61 ∷ 49 ∷ 10 ∷
          82 ∷ 32 ∷ 76 ∷ 69 ∷ 65 ∷ 70 ∷ 32 ∷ 108 ∷ 97 ∷ 98 ∷ 101 ∷ 108 ∷ 61 ∷ 48 ∷ 32 ∷ 101 ∷ 114 ∷ 114 ∷ 111 ∷ 114 ∷ 61 ∷ 49 ∷ 10 ∷ [];
    }

-- T6
-- `KEPT error=2 tried=0`
unfoldable pub entry3 : ListingEntry
entry3 =
    record {
      answer = Kept 2 0;
      text =
          75 ∷ 69 ∷ 80 ∷ 84 ∷ 32 ∷ 101 ∷ 114 ∷ 114 ∷ 111 ∷ 114 ∷ 61 ∷ 50 ∷ 32 ∷ 116 ∷ 114 ∷ 105 ∷ 101 ∷ 100 ∷ 61 ∷ 48 ∷ 10 ∷ [];
    }

-- a refused sheet
-- `REFUSED 22 place=3`
unfoldable pub entry4 : ListingEntry
entry4 =
    record {
      answer = TurnedBack 22 3;
      text =
          82 ∷ 69 ∷ 70 ∷ 85 ∷ 83 ∷ 69 ∷ 68 ∷ 32 ∷ 50 ∷ 50 ∷ 32 ∷ 112 ∷ 108 ∷ 97 ∷ 99 ∷ 101 ∷ 61 ∷ 51 ∷ 10 ∷ [];
    }

unfoldable pub table_listed : List ListingEntry
unfolding entry1 entry2 entry3 entry4
table_listed = entry1 ∷ entry2 ∷ entry3 ∷ entry4 ∷ []
