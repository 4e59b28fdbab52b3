-- n rows below n, none of them twice, are all rows once: whatever is counted over them is counted over the rows. A list without repeats counts no more
-- than the rows do, for a test and for its opposite, and both lists are equally long. Assumes nothing.
use mathlib.Core.Path.{◌≡◌, refl, sym, ap, ◌∙◌}
use Prim.Native.Nat.{ℕ, zero, suc, ◌+◌, ◌≤◌, ◌<◌}
use native.Mathlib.Omega.{arith}
use mathlib.Core.Bool.{Bool, true, false, not, ◌&&◌}
use mathlib.Core.List.{List, [], ◌∷◌}
use lib.ListN.{length}
use lib.Dec.{T, not_T, eqb, eqb→eq, eqb_refl}
use Rattle.basics.specs.Choice.{bit}
use Rattle.basics.specs.Lists.{All, tally, table}
use Rattle.basics.proofs.Choice.{bit_true, bit_false, reach, bit_parts, nand_right}
use Rattle.basics.proofs.Lists.{tally_append, tally_parts, tally_same, tally_none, length_table, table_next}

-- what holds of each entry holds of all members
all_table {ℓ} : {A : Type ℓ} (P : A → Type 0) (f : ℕ → A) (n : ℕ) → ((i : ℕ) → i < n → P (f i)) → All P (table f n)
all_table P f zero h = tt
all_table P f (suc n) h = (h 0 (omega arith), all_table P (λ k. f (suc k)) n (λ i l. h (suc i) (omega arith)))

abbrev rows : ℕ → List ℕ
rows n = table (λ r. r) n

-- ---- one row taken out

abbrev but : (ℕ → Bool) → ℕ → ℕ → Bool
but p x y = p y && not (eqb y x)

abbrev only : (ℕ → Bool) → ℕ → ℕ → Bool
only p x y = p y && eqb y x

split : (p : ℕ → Bool) (x y : ℕ) → bit (p y) ≡ bit (only p x y) + bit (but p x y)
split p x y = bit_parts (p y) (eqb y x)

same_only : (p : ℕ → Bool) (x : ℕ) → bit (only p x x) ≡ bit (p x)
same_only p x = go (p x) (eqb x x) (eqb_refl x)
  where
    go : (a b : Bool) → T b → bit (a && b) ≡ bit a
    go true b t = bit_true b t
    go false b t = refl

none_only : (p : ℕ → Bool) (x y : ℕ) → (y ≡ x → ⊥) → T (not (only p x y))
none_only p x y f = nand_right (p y) (eqb y x) (not_T (eqb y x) (λ t. f (eqb→eq y x t)))

all_but : (p : ℕ → Bool) (x y : ℕ) → (y ≡ x → ⊥) → bit (p y) ≡ bit (but p x y)
all_but p x y f = omega (arith, split p x y, bit_false (only p x y) (none_only p x y f))

-- among the rows a row stands once
only_once : (p : ℕ → Bool) (x n : ℕ) → x < n → tally (only p x) (rows n) ≡ bit (p x)
only_once p x zero h = absurd (omega arith)
only_once p x (suc n) h =
    let e : tally (only p x) (rows (suc n)) ≡ tally (only p x) (rows n) + (bit (only p x n) + 0) =
    ap (λ l. tally (only p x) l) (table_next (λ r. r) n) ∙ tally_append (only p x) (rows n) (n ∷ []) in
    reach x n (omega arith)
    (λ q.
    let z : tally (only p x) (rows n) ≡ 0 =
    tally_none (only p x) (rows n)
    (all_table (λ y. T (not (only p x y))) (λ r. r) n (λ i l. none_only p x i (λ w. absurd (omega arith)))) in
    omega (arith, e, z, ap (λ (y : ℕ). bit (only p x y)) q, same_only p x))
    (λ l. omega (arith, e, only_once p x n l, bit_false (only p x n) (none_only p x n (λ w. absurd (omega arith)))))

taken_out : (p : ℕ → Bool) (x n : ℕ) → x < n → tally p (rows n) ≡ bit (p x) + tally (but p x) (rows n)
taken_out p x n h = omega (arith, tally_parts (only p x) (but p x) p (split p x) (rows n), only_once p x n h)

-- ---- no repeats

pub no_more : (n : ℕ) (f : ℕ → ℕ) (k : ℕ) → ((i : ℕ) → i < k → f i < n) → ((i j : ℕ) → j < i → i < k → f j ≡ f i → ⊥) → (p : ℕ → Bool)
    → tally p (table f k) ≤ tally p (rows n)
no_more n f zero below apart p = omega arith
no_more n f (suc k) below apart p =
    let g : ℕ → ℕ = λ i. f (suc i) in
    let e : tally p (table g k) ≡ tally (but p (f 0)) (table g k) =
    tally_same p (but p (f 0)) (table g k)
    (all_table (λ y. bit (p y) ≡ bit (but p (f 0) y)) g k
    (λ i l. all_but p (f 0) (g i) (λ w. apart (suc i) 0 (omega arith) (omega arith) (sym w)))) in
    let h : tally (but p (f 0)) (table g k) ≤ tally (but p (f 0)) (rows n) =
    no_more n g k (λ i l. below (suc i) (omega arith)) (λ i j a b. apart (suc i) (suc j) (omega arith) (omega arith)) (but p (f 0)) in
    omega (arith, e, h, taken_out p (f 0) n (below 0 (omega arith)))

pub each_once : (n : ℕ) (f : ℕ → ℕ) → ((i : ℕ) → i < n → f i < n) → ((i j : ℕ) → j < i → i < n → f j ≡ f i → ⊥) → (p : ℕ → Bool)
    → tally p (table f n) ≡ tally p (rows n)
each_once n f below apart p =
    let against : ℕ → Bool = λ x. not (p x) in
    omega (
      arith,
      no_more n f n below apart p,
      no_more n f n below apart against,
      whole p (table f n),
      whole p (rows n),
      length_table f n,
      length_table (λ r. r) n,
    )
  where
    parted : (b : Bool) → bit b + bit (not b) ≡ 1
    parted true = refl
    parted false = refl

    whole : (q : ℕ → Bool) (xs : List ℕ) → tally q xs + tally (λ x. not (q x)) xs ≡ length xs
    whole q [] = refl
    whole q (x ∷ xs) = omega (arith, whole q xs, parted (q x))
