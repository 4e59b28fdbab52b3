-- Two runs worked out by hand, computed. Assumes nothing.
use mathlib.Core.Path.{◌≡◌, refl}
use Prim.Native.Nat.{ℕ}
use mathlib.Core.Bool.{true, false}
use mathlib.Core.Option.{none, some}
use mathlib.Core.List.{List, [], ◌∷◌}
use lib.ListN.{get_or}
use Rattle.interval_pruner.specs.Column.{Column}
use Rattle.column_search.specs.Search.{column_run}
use Rattle.column_search.proofs.Computes.{computes}

-- an evaluator from a list of the cuts' two errors
abbrev pub listed : List (ℕ × ℕ) → ℕ → ℕ × ℕ
listed errors k = get_or errors k (0, 0)

-- Cuts 0 to 7, gap 0, support at most 1, starting error 20. Cut 3 is tried: error 7. With d = 0 the parts are 4 to 7 and 0 to 3. Of the upper, cut 5
-- is tried: error 6, parts 6 to 7 and 4 to 5. The lower shrinks: a cut within 2 places of cut 3 cannot be below 6. So 0 to 2 are left and cut 1 is
-- tried: error 6, parts 2 and 0 to 1. Of 6 to 7, cut 6 is tried: error 5, parts 7 and 6. Then 4 to 5, 2 and 0 to 1 fall to step 1 (3 + 2, 1 + 4 and
-- 0 + 5 are not below 5), cut 7 is tried, error 6, and 6 falls to step 1.
abbrev wide : Column
wide =
    record {
      places = 1 ∷ 2 ∷ 4 ∷ 5 ∷ 7 ∷ 8 ∷ 9 ∷ 12 ∷ [];
      errors = listed ((0, 6) ∷ (1, 5) ∷ (2, 5) ∷ (3, 4) ∷ (4, 2) ∷ (4, 2) ∷ (4, 1) ∷ (5, 1) ∷ []);
      gap = 0;
      small = true;
    }

wide_run : column_run wide 1000000 0 7 20 ≡ record { queue = []; error = 5; best = some 6; tried = 7 ∷ 6 ∷ 1 ∷ 5 ∷ 3 ∷ [] }
unfolding computes
wide_run = refl

-- Support above 1 prunes nothing, and the part below cut number 0 is number 0 again ("which stays 0 at 0"): values 1, 1, 2, 3, 3 with labels
-- 0, 1, 0, 1, 0, support 2 and starting error 0 have two feasible cuts, and three tries are made.
abbrev twice : Column
twice = record { places = 2 ∷ 3 ∷ []; errors = listed ((1, 1) ∷ (1, 1) ∷ []); gap = 0; small = false }

twice_run : column_run twice 1000000 0 1 0 ≡ record { queue = []; error = 0; best = none; tried = 0 ∷ 1 ∷ 0 ∷ [] }
unfolding computes
twice_run = refl
