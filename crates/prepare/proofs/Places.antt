-- The members of a run of rows that pass a test: they pass, they lie in the run, they rise, and none is left out. Assumes nothing.
use mathlib.Core.Path.{◌≡◌, sym, subst}
use Prim.Native.Nat.{ℕ, zero, suc, ◌+◌, ◌≤◌, ◌<◌}
use native.Mathlib.Omega.{arith}
use mathlib.Core.Bool.{Bool, not}
use mathlib.Core.List.{List, [], ◌∷◌}
use lib.ListN.{length, get_or}
use lib.Dec.{T}
use Rattle.basics.specs.Lists.{All, those}
use Rattle.basics.proofs.Choice.{by_test, pick_true, reach, bit_false}
use Rattle.basics.proofs.Lists.{all_at, all_map, all_those, length_those, tally_le}
use Rattle.row_sort.specs.Sorting.{rows_from}
use Rattle.row_sort.proofs.Rows.{Within, all_rows, length_rows}

-- each is below all that follow it
abbrev Rising : List ℕ → Type 0
Rising [] = Unit {0}
Rising (a ∷ rest) = All (λ b. a < b) rest × Rising rest

rising_at : (xs : List ℕ) (i : ℕ) → Rising xs → suc i < length xs → get_or xs i 0 < get_or xs (suc i) 0
rising_at [] i h l = absurd (omega arith)
rising_at (x ∷ xs) zero h l = all_at (λ b. x < b) xs 0 h.0 (omega arith)
rising_at (x ∷ xs) (suc i) h l = rising_at xs i h.1 (omega arith)

module _ (p : ℕ → Bool) where
  pass : (xs : List ℕ) → All (λ a. T (p a)) (those p xs)
  pass [] = tt
  pass (x ∷ xs) = by_test (All (λ a. T (p a))) (p x) (λ t. (t, pass xs)) (λ _. pass xs)

  rising_those : (xs : List ℕ) → Rising xs → Rising (those p xs)
  rising_those [] h = tt
  rising_those (x ∷ xs) h =
      by_test Rising (p x) (λ _. (all_those (λ b. x < b) p xs h.0, rising_those xs h.1)) (λ _. rising_those xs h.1)

  rising_rows : (a n : ℕ) → Rising (rows_from a n)
  unfolding rows_from
  rising_rows a zero = tt
  rising_rows a (suc n) =
      (all_map (Within (suc a) n) (λ b. a < b) (λ r w. omega (arith, w.low)) (rows_from (suc a) n) (all_rows (suc a) n), rising_rows (suc a) n)

  -- where a member stands
  abbrev Found : ℕ → List ℕ → Type 0
  Found i xs = (k : ℕ) × (k < length xs) × (get_or xs k 0 ≡ i)

  found_later : (i x : ℕ) (xs : List ℕ) → Found i xs → Found i (x ∷ xs)
  found_later i x xs f = (suc f.0, omega (arith, f.1), f.2)

  found_in : (i a n : ℕ) → a ≤ i → i < a + n → T (p i) → Found i (those p (rows_from a n))
  unfolding rows_from
  found_in i a zero l h t = absurd (omega arith)
  found_in i a (suc n) l h t =
      reach a i l
      (λ e. subst (Found i) (sym (pick_true (p a) (a ∷ those p (rows_from (suc a) n)) (those p (rows_from (suc a) n)) (subst (λ (x : ℕ). T (p x)) (sym e) t)))
      (0, omega arith, e))
      (λ g. let f = found_in i (suc a) n g (omega arith) t in
      by_test (Found i) (p a) (λ _. found_later i a (those p (rows_from (suc a) n)) f) (λ _. f))

  abbrev L : ℕ → List ℕ
  L n = those p (rows_from 0 n)

  pub place_passes : (n k : ℕ) → k < length (L n) → T (p (get_or (L n) k 0))
  place_passes n k h = all_at (λ a. T (p a)) (L n) k (pass (rows_from 0 n)) h

  pub place_below : (n k : ℕ) → k < length (L n) → get_or (L n) k 0 < n
  place_below n k h =
      let w : Within 0 n (get_or (L n) k 0) = all_at (Within 0 n) (L n) k (all_those (Within 0 n) p (rows_from 0 n) (all_rows 0 n)) h in
      omega (arith, w.high)

  pub places_rise : (n k : ℕ) → suc k < length (L n) → get_or (L n) k 0 < get_or (L n) (suc k) 0
  places_rise n k h = rising_at (L n) k (rising_those (rows_from 0 n) (rising_rows 0 n)) h

  pub place_found : (n i : ℕ) → i < n → T (p i) → (k : ℕ) × (k < length (L n)) × (get_or (L n) k 0 ≡ i)
  place_found n i h t = found_in i 0 n (omega arith) (omega arith) t

  -- fewer than the run has, if its first one fails
  pub places_fewer : (n : ℕ) → 1 ≤ n → T (not (p 0)) → length (L n) < n
  unfolding rows_from
  places_fewer zero h t = absurd (omega arith)
  places_fewer (suc n) h t =
      omega (arith, length_those p (0 ∷ rows_from 1 n), bit_false (p 0) t, tally_le p (rows_from 1 n), length_rows 1 n)
