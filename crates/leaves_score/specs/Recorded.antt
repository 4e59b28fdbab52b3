-- For a signer. Document 01, "Easy to get wrong": "a side A,A,B,B,B,B of distinct values at support 3 stays a leaf with 2 errors though 1 is possible". The cut after
-- the second row leaves a pure remainder but has too few rows on its left; it closes the side all the same. Statements only; `proofs/Recorded.antt` computes them.
use Rattle.std.specs.Prelude.{◌≡◌, ℕ, Bool, false, [], ◌∷◌, ltb, pos, negsuc}
use Rattle.std.specs.Float.{fin}
use Rattle.basics.specs.Lists.{table}
use Rattle.sheet.specs.Sheet.{Sheet}
use Rattle.tree.specs.declared.Side.TheVariants.{Leaf, Split}
use Rattle.leaves_score.specs.Scan.{sides_of}

-- one column of the values 1.0, 2.0, .. 7.0; the first six rows are the side, the last is the other side
abbrev pub six_and_one : Sheet
six_and_one =
    record {
      rows = 7;
      columns = 1;
      labels = 2;
      values = fin false 1 (pos 0) ∷ fin false 1 (pos 1) ∷ fin false 3 (pos 0) ∷ fin false 1 (pos 2) ∷ fin false 5 (pos 0) ∷ fin false 3 (pos 1) ∷ fin false 7 (pos 0) ∷ [];
      codes = 0 ∷ 0 ∷ 1 ∷ 1 ∷ 1 ∷ 1 ∷ 0 ∷ [];
      order = table (λ i. i) 7;
      cuts = 1 ∷ 2 ∷ 3 ∷ 4 ∷ 5 ∷ 6 ∷ 0 ∷ [];
      counts = 6 ∷ [];
    }

abbrev pub first_six : ℕ → Bool
first_six r = ltb r 6

-- 1 is possible: the three rows up to 3.0 left, with label 0, the other three right, with label 1
abbrev pub RemainderCloses : Type 0
RemainderCloses = (sides_of six_and_one 3 first_six).left ≡ Leaf (record { label = 1; error = 2 })

-- with support 2 the same side splits without an error
abbrev pub RemainderTaken : Type 0
RemainderTaken = (sides_of six_and_one 2 first_six).left ≡ Split (record { column = 0; threshold = fin false 5 (negsuc 0) }) (record { label = 0; error = 0 }) (record { label = 1; error = 0 })
