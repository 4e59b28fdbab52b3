-- Runs of columns drawn at random, and states on the way with the queue, against the answers of a transcription of the original, computed.
-- Assumes nothing.
use mathlib.Core.Path.{◌≡◌, refl}
use Prim.Native.Nat.{ℕ}
use mathlib.Core.Bool.{Bool, true, false}
use mathlib.Core.Option.{Option as Maybe, none, some}
use mathlib.Core.List.{List, [], ◌∷◌}
use Rattle.interval_pruner.specs.declared.Bound.{Bound}
use Rattle.std.specs.Prelude.{Option, Some, None}
use Rattle.column_search.specs.Search.{State, turns, start, column_run}
use Rattle.column_search.proofs.Computes.{computes}
use Rattle.column_search.proofs.Example.{listed}

-- a run, and what it comes to
record Case : Type 0 where
  run : State
  answer : State

abbrev drawn : (places : List ℕ) (errors : List (ℕ × ℕ)) (gap bound : ℕ) (small : Bool) (first last begin error : ℕ) (best : Maybe ℕ) (tried : List ℕ)
    → Case
drawn places errors gap bound small first last begin error best tried =
    record {
      run = column_run (record { places = places; errors = listed errors; gap = gap; small = small }) bound first last begin;
      answer = record { queue = []; error = error; best = best; tried = tried };
    }

-- A final state does not show where the parts of a try began and ended: states on the way, after n intervals.
abbrev span : ℕ → ℕ → Option ℕ → Option ℕ → Bound
span first last left right = record { first = first; last = last; left = left; right = right }

abbrev partway : (places : List ℕ) (errors : List (ℕ × ℕ)) (gap bound : ℕ) (small : Bool) (first last begin n : ℕ) (queue : List Bound) (error : ℕ)
    (best : Maybe ℕ) (tried : List ℕ) → Case
partway places errors gap bound small first last begin n queue error best tried =
    record {
      run = turns (record { places = places; errors = listed errors; gap = gap; small = small }) bound n (start first last begin);
      answer = record { queue = queue; error = error; best = best; tried = tried };
    }

abbrev runs_of : List Case → List State
runs_of [] = []
runs_of (x ∷ cases) = x.run ∷ runs_of cases

abbrev answers_of : List Case → List State
answers_of [] = []
answers_of (x ∷ cases) = x.answer ∷ answers_of cases

cases : List Case
cases =
    drawn (1 ∷ 2 ∷ 3 ∷ 4 ∷ 5 ∷ []) ((0, 3) ∷ (0, 3) ∷ (0, 3) ∷ (0, 2) ∷ (0, 2) ∷ []) 0 5 false 2 3 5 2 (some 3) (3 ∷ 2 ∷ [])
    ∷ drawn (1 ∷ 2 ∷ 3 ∷ 4 ∷ 5 ∷ 6 ∷ 9 ∷ 11 ∷ 12 ∷ []) ((1, 2) ∷ (2, 1) ∷ (0, 1) ∷ (1, 2) ∷ (2, 0) ∷ (2, 1) ∷ (2, 0) ∷ (0, 0) ∷ (0, 0) ∷ []) 1 3 true 0 8 3 2 (some 4) (1 ∷ 4 ∷ [])
    ∷ drawn (1 ∷ 2 ∷ 5 ∷ 8 ∷ 10 ∷ 11 ∷ 13 ∷ []) ((1, 1) ∷ (2, 1) ∷ (2, 1) ∷ (2, 1) ∷ (2, 1) ∷ (2, 1) ∷ (4, 0) ∷ []) 0 5 true 0 6 5 2 (some 0) (0 ∷ 6 ∷ 1 ∷ 5 ∷ 3 ∷ [])
    ∷ drawn (2 ∷ 5 ∷ 6 ∷ 9 ∷ 10 ∷ 12 ∷ 15 ∷ []) ((2, 0) ∷ (1, 0) ∷ (0, 2) ∷ (0, 0) ∷ (0, 2) ∷ (2, 0) ∷ (0, 2) ∷ []) 0 1000000 true 0 6 20 0 (some 3) (3 ∷ [])
    ∷ drawn (2 ∷ 3 ∷ []) ((2, 2) ∷ (3, 2) ∷ []) 0 3 false 0 1 5 4 (some 0) (0 ∷ 1 ∷ 0 ∷ [])
    ∷ drawn (2 ∷ 5 ∷ 7 ∷ 10 ∷ 13 ∷ 15 ∷ []) ((4, 5) ∷ (1, 0) ∷ (4, 3) ∷ (1, 8) ∷ (2, 0) ∷ (2, 8) ∷ []) 0 1000000 false 2 5 200 2 (some 4) (5 ∷ 2 ∷ 4 ∷ 3 ∷ [])
    ∷ drawn (1 ∷ 2 ∷ 3 ∷ []) ((2, 1) ∷ (1, 1) ∷ (0, 2) ∷ []) 2 1000000 true 0 2 3 2 (some 1) (1 ∷ [])
    ∷ drawn (1 ∷ 3 ∷ 5 ∷ 8 ∷ 9 ∷ 11 ∷ 12 ∷ 13 ∷ []) ((4, 3) ∷ (2, 4) ∷ (1, 0) ∷ (4, 1) ∷ (0, 3) ∷ (0, 1) ∷ (0, 4) ∷ (4, 4) ∷ []) 3 3 true 0 6 8 8 none []
    ∷ drawn (1 ∷ 2 ∷ 4 ∷ 7 ∷ 9 ∷ 12 ∷ 14 ∷ 17 ∷ []) ((4, 3) ∷ (5, 4) ∷ (5, 5) ∷ (6, 3) ∷ (3, 2) ∷ (8, 5) ∷ (8, 2) ∷ (5, 4) ∷ []) 2 3 true 0 7 20 9 (some 3) (3 ∷ [])
    ∷ drawn (2 ∷ 3 ∷ 4 ∷ 6 ∷ 9 ∷ []) ((6, 6) ∷ (6, 1) ∷ (8, 7) ∷ (8, 8) ∷ (6, 5) ∷ []) 1 5 false 0 4 20 7 (some 1) (0 ∷ 1 ∷ 4 ∷ 0 ∷ 3 ∷ 2 ∷ [])
    ∷ drawn (2 ∷ 4 ∷ 7 ∷ []) ((4, 0) ∷ (3, 4) ∷ (4, 0) ∷ []) 1 3 true 0 2 8 7 (some 1) (1 ∷ [])
    ∷ drawn (3 ∷ 4 ∷ 5 ∷ 6 ∷ 7 ∷ []) ((2, 0) ∷ (3, 0) ∷ (3, 0) ∷ (3, 0) ∷ (4, 0) ∷ []) 2 1000000 true 0 4 20 3 (some 2) (2 ∷ [])
    ∷ drawn (1 ∷ 2 ∷ []) ((0, 0) ∷ (0, 0) ∷ []) 2 3 true 0 1 5 0 (some 0) (0 ∷ [])
    ∷ drawn (1 ∷ 2 ∷ 5 ∷ 8 ∷ 9 ∷ 12 ∷ []) ((0, 9) ∷ (0, 9) ∷ (3, 7) ∷ (6, 5) ∷ (6, 4) ∷ (6, 3) ∷ []) 0 1000000 false 0 5 3 3 none (0 ∷ 1 ∷ 3 ∷ 5 ∷ 0 ∷ 4 ∷ 2 ∷ [])
    ∷ drawn (2 ∷ []) ((2, 3) ∷ []) 3 3 true 0 0 5 5 none []
    ∷ drawn (1 ∷ 2 ∷ 3 ∷ 5 ∷ 8 ∷ 11 ∷ []) ((0, 2) ∷ (0, 2) ∷ (0, 2) ∷ (0, 2) ∷ (3, 2) ∷ (3, 2) ∷ []) 2 3 true 3 3 8 2 (some 3) (3 ∷ [])
    ∷ drawn (1 ∷ 4 ∷ []) ((1, 0) ∷ (1, 0) ∷ []) 3 1000000 true 0 1 3 3 none []
    ∷ drawn (2 ∷ 3 ∷ 5 ∷ 6 ∷ 7 ∷ 8 ∷ 9 ∷ []) ((0, 3) ∷ (1, 3) ∷ (1, 2) ∷ (1, 2) ∷ (1, 2) ∷ (2, 2) ∷ (2, 2) ∷ []) 0 1000000 true 6 6 5 4 (some 6) (6 ∷ [])
    ∷ drawn (2 ∷ 4 ∷ 5 ∷ 6 ∷ []) ((2, 1) ∷ (2, 0) ∷ (2, 0) ∷ (2, 0) ∷ []) 0 1000000 false 1 3 5 2 (some 2) (1 ∷ 3 ∷ 2 ∷ [])
    ∷ drawn (1 ∷ 3 ∷ 5 ∷ 7 ∷ 9 ∷ 10 ∷ 11 ∷ 12 ∷ []) ((2, 0) ∷ (0, 2) ∷ (3, 3) ∷ (3, 2) ∷ (1, 2) ∷ (3, 2) ∷ (2, 0) ∷ (0, 2) ∷ []) 3 3 true 0 7 8 8 none []
    ∷ drawn (1 ∷ 2 ∷ []) ((0, 4) ∷ (6, 3) ∷ []) 3 1000000 false 0 1 200 4 (some 0) (0 ∷ 1 ∷ 0 ∷ [])
    ∷ drawn (1 ∷ 3 ∷ 5 ∷ 6 ∷ []) ((0, 8) ∷ (0, 6) ∷ (1, 4) ∷ (1, 3) ∷ []) 2 1000000 false 0 3 200 4 (some 3) (3 ∷ 0 ∷ 2 ∷ 1 ∷ [])
    ∷ drawn (3 ∷ 5 ∷ 7 ∷ 8 ∷ 9 ∷ 12 ∷ 13 ∷ []) ((2, 4) ∷ (2, 4) ∷ (2, 4) ∷ (2, 4) ∷ (3, 4) ∷ (3, 4) ∷ (3, 3) ∷ []) 0 1000000 true 0 0 5 5 none (0 ∷ [])
    ∷ drawn (1 ∷ 2 ∷ 4 ∷ 5 ∷ 6 ∷ 9 ∷ []) ((0, 2) ∷ (0, 2) ∷ (0, 2) ∷ (0, 2) ∷ (0, 2) ∷ (1, 0) ∷ []) 0 1000000 true 5 5 200 1 (some 5) (5 ∷ [])
    ∷ drawn (1 ∷ 3 ∷ 5 ∷ 6 ∷ 7 ∷ []) ((0, 6) ∷ (0, 6) ∷ (0, 4) ∷ (1, 3) ∷ (1, 3) ∷ []) 2 1000000 false 0 3 3 3 none (3 ∷ 0 ∷ 2 ∷ 1 ∷ [])
    ∷ drawn (1 ∷ 2 ∷ 5 ∷ []) ((0, 1) ∷ (1, 0) ∷ (2, 1) ∷ []) 0 3 false 0 2 20 1 (some 1) (0 ∷ 2 ∷ 1 ∷ [])
    ∷ drawn (1 ∷ 2 ∷ 5 ∷ 8 ∷ 11 ∷ 12 ∷ []) ((0, 0) ∷ (2, 0) ∷ (2, 1) ∷ (0, 4) ∷ (0, 2) ∷ (4, 0) ∷ []) 0 1000000 true 5 5 20 4 (some 5) (5 ∷ [])
    ∷ drawn (1 ∷ 2 ∷ 3 ∷ 4 ∷ 6 ∷ 7 ∷ 8 ∷ []) ((0, 7) ∷ (0, 6) ∷ (0, 6) ∷ (0, 6) ∷ (1, 4) ∷ (1, 3) ∷ (2, 3) ∷ []) 0 3 false 0 6 20 4 (some 5) (0 ∷ 2 ∷ 4 ∷ 6 ∷ 1 ∷ 5 ∷ 3 ∷ [])
    ∷ drawn (1 ∷ []) ((0, 3) ∷ []) 0 1000000 true 0 0 3 3 none (0 ∷ [])
    ∷ drawn (1 ∷ 2 ∷ 3 ∷ []) ((0, 3) ∷ (1, 2) ∷ (1, 2) ∷ []) 2 1000000 true 0 2 8 3 (some 1) (1 ∷ [])
    ∷ drawn (2 ∷ 3 ∷ 4 ∷ 5 ∷ 7 ∷ 8 ∷ 9 ∷ 12 ∷ []) ((1, 4) ∷ (0, 2) ∷ (3, 2) ∷ (4, 0) ∷ (0, 2) ∷ (3, 2) ∷ (0, 3) ∷ (1, 4) ∷ []) 0 3 true 6 6 200 3 (some 6) (6 ∷ [])
    ∷ drawn (1 ∷ 3 ∷ 6 ∷ 8 ∷ 9 ∷ 10 ∷ []) ((1, 8) ∷ (1, 8) ∷ (1, 5) ∷ (1, 5) ∷ (1, 4) ∷ (1, 3) ∷ []) 0 3 false 3 3 5 5 none (3 ∷ [])
    ∷ drawn (1 ∷ 2 ∷ 3 ∷ 6 ∷ []) ((1, 4) ∷ (4, 2) ∷ (3, 4) ∷ (1, 2) ∷ []) 0 3 true 3 3 200 3 (some 3) (3 ∷ [])
    ∷ drawn (1 ∷ []) ((0, 0) ∷ []) 3 1000000 true 0 0 5 0 (some 0) (0 ∷ [])
    ∷ drawn (1 ∷ []) ((0, 0) ∷ []) 1 1000000 true 0 0 8 0 (some 0) (0 ∷ [])
    ∷ drawn (1 ∷ 2 ∷ 3 ∷ 6 ∷ 7 ∷ 8 ∷ 9 ∷ 12 ∷ 13 ∷ []) ((3, 4) ∷ (8, 7) ∷ (4, 0) ∷ (5, 4) ∷ (1, 3) ∷ (7, 5) ∷ (4, 6) ∷ (1, 4) ∷ (1, 6) ∷ []) 3 1000000 false 0 8 20 4 (some 4) (3 ∷ 8 ∷ 0 ∷ 2 ∷ 5 ∷ 7 ∷ 1 ∷ 6 ∷ 4 ∷ [])
    ∷ drawn (1 ∷ 4 ∷ 7 ∷ 8 ∷ 10 ∷ 11 ∷ 13 ∷ 14 ∷ 15 ∷ []) ((0, 4) ∷ (0, 4) ∷ (0, 4) ∷ (0, 3) ∷ (1, 2) ∷ (2, 2) ∷ (2, 2) ∷ (2, 2) ∷ (2, 2) ∷ []) 0 1000000 true 0 8 5 3 (some 4) (8 ∷ 2 ∷ 6 ∷ 4 ∷ [])
    ∷ drawn (1 ∷ 3 ∷ 4 ∷ 5 ∷ 6 ∷ 9 ∷ 11 ∷ 13 ∷ 15 ∷ []) ((3, 4) ∷ (0, 0) ∷ (0, 2) ∷ (4, 2) ∷ (1, 4) ∷ (3, 2) ∷ (2, 2) ∷ (2, 3) ∷ (4, 1) ∷ []) 1 1000000 false 0 8 200 0 (some 1) (1 ∷ 6 ∷ 4 ∷ [])
    ∷ drawn (3 ∷ 4 ∷ 6 ∷ 9 ∷ 12 ∷ 14 ∷ []) ((3, 3) ∷ (3, 2) ∷ (3, 2) ∷ (3, 2) ∷ (5, 2) ∷ (6, 2) ∷ []) 0 5 true 0 5 5 5 none (0 ∷ 1 ∷ 4 ∷ 2 ∷ [])
    ∷ drawn (1 ∷ 2 ∷ 5 ∷ 6 ∷ 7 ∷ 9 ∷ 12 ∷ 15 ∷ 16 ∷ []) ((0, 6) ∷ (1, 6) ∷ (3, 6) ∷ (3, 5) ∷ (3, 5) ∷ (3, 4) ∷ (4, 2) ∷ (4, 2) ∷ (4, 2) ∷ []) 3 1000000 true 0 8 3 3 none []
    ∷ drawn (2 ∷ 3 ∷ 4 ∷ 5 ∷ []) ((5, 4) ∷ (8, 8) ∷ (7, 6) ∷ (5, 4) ∷ []) 0 5 false 0 3 20 9 (some 0) (3 ∷ 0 ∷ 2 ∷ 1 ∷ [])
    ∷ drawn (1 ∷ 4 ∷ 7 ∷ 8 ∷ []) ((0, 3) ∷ (0, 2) ∷ (0, 2) ∷ (1, 2) ∷ []) 0 5 true 2 3 20 2 (some 2) (3 ∷ 2 ∷ [])
    ∷ drawn (3 ∷ 4 ∷ 5 ∷ 7 ∷ 8 ∷ []) ((2, 3) ∷ (2, 3) ∷ (2, 3) ∷ (3, 1) ∷ (3, 0) ∷ []) 3 1000000 false 1 1 200 5 (some 1) (1 ∷ [])
    ∷ drawn (1 ∷ 4 ∷ 5 ∷ 6 ∷ 7 ∷ 8 ∷ []) ((0, 1) ∷ (0, 1) ∷ (0, 0) ∷ (1, 2) ∷ (1, 0) ∷ (1, 2) ∷ []) 2 1000000 false 0 5 8 0 (some 2) (2 ∷ [])
    ∷ drawn (1 ∷ 2 ∷ 3 ∷ 4 ∷ 5 ∷ 6 ∷ 8 ∷ []) ((0, 1) ∷ (0, 2) ∷ (0, 2) ∷ (2, 0) ∷ (0, 0) ∷ (1, 1) ∷ (1, 2) ∷ []) 2 1000000 true 0 6 8 2 (some 3) (3 ∷ [])
    ∷ drawn (1 ∷ 3 ∷ 4 ∷ 5 ∷ []) ((1, 5) ∷ (1, 3) ∷ (1, 2) ∷ (1, 1) ∷ []) 2 1000000 true 0 3 20 4 (some 1) (1 ∷ [])
    ∷ drawn (1 ∷ 2 ∷ 3 ∷ 4 ∷ 5 ∷ 6 ∷ []) ((0, 4) ∷ (0, 4) ∷ (0, 4) ∷ (1, 3) ∷ (1, 3) ∷ (1, 3) ∷ []) 0 1000000 true 0 2 3 3 none (1 ∷ [])
    ∷ drawn (3 ∷ 4 ∷ 6 ∷ 7 ∷ 8 ∷ 9 ∷ 11 ∷ []) ((0, 2) ∷ (1, 2) ∷ (0, 2) ∷ (0, 1) ∷ (1, 1) ∷ (0, 0) ∷ (2, 1) ∷ []) 0 5 false 1 6 20 0 (some 5) (5 ∷ 3 ∷ [])
    ∷ drawn (1 ∷ []) ((2, 1) ∷ []) 0 3 true 0 0 8 3 (some 0) (0 ∷ [])
    ∷ drawn (3 ∷ []) ((1, 1) ∷ []) 1 5 true 0 0 8 2 (some 0) (0 ∷ [])
    ∷ drawn (1 ∷ 2 ∷ 3 ∷ 6 ∷ 7 ∷ 10 ∷ 11 ∷ []) ((4, 4) ∷ (4, 0) ∷ (3, 2) ∷ (0, 4) ∷ (2, 1) ∷ (2, 3) ∷ (1, 0) ∷ []) 0 5 true 0 4 200 3 (some 4) (4 ∷ 3 ∷ 2 ∷ [])
    ∷ drawn (3 ∷ 5 ∷ 6 ∷ 7 ∷ 8 ∷ 9 ∷ 10 ∷ 11 ∷ []) ((0, 0) ∷ (2, 2) ∷ (1, 2) ∷ (2, 0) ∷ (0, 1) ∷ (0, 0) ∷ (0, 0) ∷ (1, 1) ∷ []) 0 5 false 0 7 3 0 (some 5) (5 ∷ 3 ∷ [])
    ∷ drawn (1 ∷ 2 ∷ 3 ∷ 6 ∷ 7 ∷ 8 ∷ 9 ∷ 10 ∷ []) ((1, 1) ∷ (1, 0) ∷ (0, 1) ∷ (1, 1) ∷ (2, 1) ∷ (1, 1) ∷ (2, 2) ∷ (0, 2) ∷ []) 0 1000000 true 3 7 8 2 (some 5) (4 ∷ 6 ∷ 5 ∷ [])
    ∷ drawn (1 ∷ 4 ∷ 7 ∷ 8 ∷ []) ((1, 5) ∷ (3, 2) ∷ (3, 1) ∷ (3, 1) ∷ []) 0 3 true 0 2 8 5 (some 1) (0 ∷ 1 ∷ [])
    ∷ drawn (1 ∷ 4 ∷ 6 ∷ 8 ∷ 9 ∷ 10 ∷ 11 ∷ []) ((1, 5) ∷ (3, 3) ∷ (4, 3) ∷ (4, 3) ∷ (5, 3) ∷ (6, 3) ∷ (6, 3) ∷ []) 0 3 true 1 1 5 5 none (1 ∷ [])
    ∷ drawn (3 ∷ 6 ∷ 8 ∷ 9 ∷ 10 ∷ 11 ∷ []) ((2, 5) ∷ (2, 5) ∷ (3, 3) ∷ (3, 2) ∷ (3, 2) ∷ (3, 2) ∷ []) 0 1000000 false 0 5 200 5 (some 4) (0 ∷ 1 ∷ 3 ∷ 5 ∷ 0 ∷ 4 ∷ 2 ∷ [])
    ∷ drawn (2 ∷ 4 ∷ 5 ∷ 7 ∷ 8 ∷ []) ((1, 2) ∷ (3, 2) ∷ (3, 2) ∷ (3, 2) ∷ (4, 2) ∷ []) 3 1000000 true 2 3 8 5 (some 2) (2 ∷ [])
    ∷ drawn (1 ∷ 2 ∷ []) ((6, 7) ∷ (1, 1) ∷ []) 1 3 true 0 1 5 5 none (0 ∷ [])
    ∷ drawn (1 ∷ 3 ∷ 4 ∷ 5 ∷ 7 ∷ 8 ∷ 9 ∷ []) ((2, 3) ∷ (2, 3) ∷ (2, 0) ∷ (3, 3) ∷ (2, 4) ∷ (1, 2) ∷ (0, 2) ∷ []) 0 1000000 false 0 6 200 2 (some 6) (0 ∷ 2 ∷ 4 ∷ 6 ∷ 1 ∷ 5 ∷ 3 ∷ [])
    ∷ drawn (1 ∷ 2 ∷ 3 ∷ 4 ∷ 6 ∷ 9 ∷ 10 ∷ 11 ∷ 14 ∷ []) ((1, 2) ∷ (0, 1) ∷ (1, 1) ∷ (2, 1) ∷ (0, 1) ∷ (1, 0) ∷ (2, 1) ∷ (0, 2) ∷ (1, 1) ∷ []) 0 1000000 true 7 7 20 2 (some 7) (7 ∷ [])
    ∷ partway (2 ∷ 4 ∷ 5 ∷ []) ((1, 0) ∷ (1, 1) ∷ (0, 1) ∷ []) 0 1000000 true 0 2 5 2 (span 0 1 None (Some 1) ∷ []) 1 (some 2) (2 ∷ 1 ∷ [])
    ∷ partway (1 ∷ 2 ∷ 5 ∷ 6 ∷ []) ((0, 1) ∷ (3, 2) ∷ (1, 0) ∷ (6, 3) ∷ []) 0 5 false 0 3 20 3 (span 3 3 (Some 2) None ∷ []) 1 (some 2) (0 ∷ 2 ∷ 1 ∷ [])
    ∷ partway (1 ∷ 4 ∷ 6 ∷ []) ((0, 2) ∷ (0, 2) ∷ (2, 0) ∷ []) 0 3 true 0 2 20 2 (span 0 1 None (Some 1) ∷ []) 2 (some 1) (2 ∷ 1 ∷ [])
    ∷ partway (1 ∷ 3 ∷ 5 ∷ 6 ∷ 8 ∷ 11 ∷ []) ((0, 0) ∷ (1, 0) ∷ (1, 1) ∷ (1, 1) ∷ (0, 1) ∷ (0, 1) ∷ []) 1 5 false 0 5 8 2 (span 0 1 None (Some 2) ∷ span 5 5 (Some 4) None ∷ span 3 3 (Some 2) (Some 4) ∷ []) 1 (some 4) (4 ∷ 2 ∷ [])
    ∷ partway (3 ∷ 5 ∷ 8 ∷ 11 ∷ 12 ∷ []) ((0, 1) ∷ (1, 1) ∷ (1, 0) ∷ (1, 1) ∷ (1, 0) ∷ []) 2 3 true 0 4 5 1 (span 3 4 (Some 2) None ∷ span 0 2 None (Some 2) ∷ []) 1 (some 2) (2 ∷ [])
    ∷ partway (1 ∷ 2 ∷ 4 ∷ 5 ∷ 6 ∷ 9 ∷ 11 ∷ []) ((1, 2) ∷ (2, 4) ∷ (2, 3) ∷ (3, 1) ∷ (2, 2) ∷ (3, 2) ∷ (4, 0) ∷ []) 0 3 true 0 6 3 1 (span 5 6 (Some 3) None ∷ span 0 2 None (Some 3) ∷ []) 3 none (3 ∷ [])
    ∷ partway (1 ∷ 2 ∷ 4 ∷ 5 ∷ 7 ∷ 8 ∷ 9 ∷ []) ((1, 1) ∷ (0, 0) ∷ (1, 1) ∷ (1, 1) ∷ (0, 0) ∷ (0, 0) ∷ (1, 0) ∷ []) 1 3 true 0 6 5 1 (span 4 6 (Some 3) None ∷ span 0 2 None (Some 3) ∷ []) 2 (some 3) (3 ∷ [])
    ∷ partway (1 ∷ 2 ∷ 3 ∷ 5 ∷ 6 ∷ 7 ∷ 8 ∷ []) ((1, 2) ∷ (3, 5) ∷ (5, 6) ∷ (6, 0) ∷ (4, 0) ∷ (2, 3) ∷ (2, 6) ∷ []) 0 3 true 0 6 8 1 (span 0 1 None (Some 3) ∷ []) 6 (some 3) (3 ∷ [])
    ∷ partway (2 ∷ 3 ∷ 4 ∷ 5 ∷ 8 ∷ 9 ∷ 11 ∷ []) ((0, 2) ∷ (3, 0) ∷ (1, 6) ∷ (1, 5) ∷ (3, 1) ∷ (5, 3) ∷ (4, 5) ∷ []) 1 5 true 0 6 8 2 (span 0 1 None (Some 3) ∷ []) 6 (some 3) (5 ∷ 3 ∷ [])
    ∷ partway (3 ∷ 4 ∷ 7 ∷ 10 ∷ 11 ∷ 14 ∷ []) ((4, 4) ∷ (3, 2) ∷ (0, 1) ∷ (1, 4) ∷ (3, 4) ∷ (2, 5) ∷ []) 0 5 true 0 5 8 2 (span 0 2 None (Some 2) ∷ []) 1 (some 2) (4 ∷ 2 ∷ [])
    ∷ partway (1 ∷ 2 ∷ 5 ∷ 7 ∷ 10 ∷ 11 ∷ []) ((2, 1) ∷ (2, 2) ∷ (1, 1) ∷ (1, 2) ∷ (2, 2) ∷ (1, 0) ∷ []) 2 5 true 0 5 5 1 (span 4 5 (Some 2) None ∷ span 0 2 None (Some 2) ∷ []) 2 (some 2) (2 ∷ [])
    ∷ []

agree : runs_of cases ≡ answers_of cases
unfolding computes cases
agree = refl
