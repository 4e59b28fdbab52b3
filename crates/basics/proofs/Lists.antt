-- Laws of members, sums and counts. Assumes nothing.
use mathlib.Core.Path.{◌≡◌, refl, ap, ap₂, ◌∙◌}
use Prim.Native.Nat.{ℕ, zero, suc, ◌+◌, ◌≤◌, ◌<◌}
use native.Mathlib.Omega.{arith}
use native.Mathlib.Numerals.{add-one}
use mathlib.Core.Bool.{Bool, true, false, not, ◌&&◌}
use mathlib.Core.List.{List, [], ◌∷◌, ◌++◌}
use lib.ListN.{length, get_or, take, drop}
use lib.Seq.{take-suc}
use lib.Dec.{T, eqb, eqb→eq, eqb_refl}
use Rattle.std.specs.Prelude.{count_by, cond}
use Rattle.std.proofs.lemmas.List.Recursion.{is_count_by}
use Rattle.basics.specs.Choice.{pick, bit}
use Rattle.basics.specs.Lists.{All, Any, here, there, total, tally, those, table}
use Rattle.basics.proofs.Choice.{by_test, decide, reach, bit_true, bit_false, bit_le, bit_and_true, bit_and_false, bit_halves}

-- ---- every member, some member

pub all_append {ℓ} : {A : Type ℓ} (P : A → Type 0) (xs ys : List A) → All P xs → All P ys → All P (xs ++ ys)
all_append P [] ys h g = g
all_append P (x ∷ xs) ys h g = (h.0, all_append P xs ys h.1 g)

pub all_map {ℓ} : {A : Type ℓ} (P Q : A → Type 0) → ((a : A) → P a → Q a) → (xs : List A) → All P xs → All Q xs
all_map P Q f [] h = tt
all_map P Q f (x ∷ xs) h = (f x h.0, all_map P Q f xs h.1)

pub all_at : (P : ℕ → Type 0) (xs : List ℕ) (i : ℕ) → All P xs → i < length xs → P (get_or xs i 0)
all_at P [] i h l = absurd (omega arith)
all_at P (x ∷ xs) zero h l = h.0
all_at P (x ∷ xs) (suc i) h l = all_at P xs i h.1 (omega arith)

pub all_drop : (P : ℕ → Type 0) (xs : List ℕ) (i : ℕ) → All P xs → All P (drop i xs)
all_drop P xs zero h = h
all_drop P [] (suc i) h = tt
all_drop P (x ∷ xs) (suc i) h = all_drop P xs i h.1

pub any_left {ℓ} : {A : Type ℓ} (P : A → Type 0) {xs : List A} (ys : List A) → Any P xs → Any P (xs ++ ys)
any_left P ys (here h) = here h
any_left P ys (there h) = there (any_left P ys h)

pub any_right {ℓ} : {A : Type ℓ} (P : A → Type 0) (xs : List A) {ys : List A} → Any P ys → Any P (xs ++ ys)
any_right P [] h = h
any_right P (x ∷ xs) h = there (any_right P xs h)

-- ---- sums

pub total_append {ℓ} : {A : Type ℓ} (W : A → ℕ) (xs ys : List A) → total W (xs ++ ys) ≡ total W xs + total W ys
total_append W [] ys = omega arith
total_append W (x ∷ xs) ys = omega (arith, total_append W xs ys)

-- ---- tables

pub get_d_table {ℓ} : {A : Type ℓ} (f : ℕ → A) (n l : ℕ) (d : A) → l < n → get_or (table f n) l d ≡ f l
get_d_table f zero l d h = absurd (omega arith)
get_d_table f (suc n) zero d h = refl
get_d_table f (suc n) (suc l) d h = get_d_table (λ k. f (suc k)) n l d (omega arith)

pub length_table {ℓ} : {A : Type ℓ} (f : ℕ → A) (n : ℕ) → length (table f n) ≡ n
length_table f zero = refl
length_table f (suc n) = ap suc (length_table (λ k. f (suc k)) n)

-- one more entry, at the end
pub table_next {ℓ} : {A : Type ℓ} (f : ℕ → A) (n : ℕ) → table f (suc n) ≡ table f n ++ (f n ∷ [])
table_next f zero = refl
table_next f (suc n) = ap (λ l. f 0 ∷ l) (table_next (λ k. f (suc k)) n)

pub table_more {ℓ} : {A : Type ℓ} (f : ℕ → A) (n : ℕ) → table f (n + 1) ≡ table f n ++ (f n ∷ [])
table_more f n = rw add-one (table_next f n)

-- a table up to its entry number n, that entry, and the rest
pub table_split {ℓ} : {A : Type ℓ} (f : ℕ → A) (n m : ℕ) → n < m → (rest : List A) × (table f m ≡ table f n ++ (f n ∷ rest))
table_split f zero zero h = absurd (omega arith)
table_split f zero (suc m) h = (table (λ k. f (suc k)) m, refl)
table_split f (suc n) zero h = absurd (omega arith)
table_split f (suc n) (suc m) h =
    let w = table_split (λ k. f (suc k)) n m (omega arith) in
    (w.0, ap (λ l. f 0 ∷ l) w.1)

-- entries that agree
pub table_same {ℓ} : {A : Type ℓ} (f g : ℕ → A) (n : ℕ) → ((k : ℕ) → k < n → f k ≡ g k) → table f n ≡ table g n
table_same f g zero h = refl
table_same f g (suc n) h = ap₂ (λ x l. x ∷ l) (h 0 (omega arith)) (table_same (λ k. f (suc k)) (λ k. g (suc k)) n (λ k l. h (suc k) (omega arith)))

-- ---- counts

pub tally_le {ℓ} : {A : Type ℓ} (p : A → Bool) (xs : List A) → tally p xs ≤ length xs
tally_le p [] = omega arith
tally_le p (x ∷ xs) = omega (arith, bit_le (p x), tally_le p xs)

pub tally_append {ℓ} : {A : Type ℓ} (p : A → Bool) (xs ys : List A) → tally p (xs ++ ys) ≡ tally p xs + tally p ys
tally_append p [] ys = omega arith
tally_append p (x ∷ xs) ys = omega (arith, tally_append p xs ys)

pub tally_mono {ℓ} : {A : Type ℓ} (p q : A → Bool) → ((a : A) → bit (p a) ≤ bit (q a)) → (xs : List A) → tally p xs ≤ tally q xs
tally_mono p q f [] = omega arith
tally_mono p q f (x ∷ xs) = omega (arith, f x, tally_mono p q f xs)

-- a count is the sum of the counts of its two parts
pub tally_parts {ℓ} : {A : Type ℓ} (p q w : A → Bool) → ((a : A) → bit (w a) ≡ bit (p a) + bit (q a)) → (xs : List A)
    → tally w xs ≡ tally p xs + tally q xs
tally_parts p q w f [] = omega arith
tally_parts p q w f (x ∷ xs) = omega (arith, f x, tally_parts p q w f xs)

-- two tests that agree on the members count alike
pub tally_same {ℓ} : {A : Type ℓ} (p q : A → Bool) (xs : List A) → All (λ a. bit (p a) ≡ bit (q a)) xs → tally p xs ≡ tally q xs
tally_same p q [] h = refl
tally_same p q (x ∷ xs) h = omega (arith, h.0, tally_same p q xs h.1)

pub tally_none {ℓ} : {A : Type ℓ} (p : A → Bool) (xs : List A) → All (λ a. T (not (p a))) xs → tally p xs ≡ 0
tally_none p [] h = refl
tally_none p (x ∷ xs) h = omega (arith, bit_false (p x) h.0, tally_none p xs h.1)

-- one member more of a list's front
pub tally_next {ℓ} : {A : Type ℓ} (p : A → Bool) (xs : List A) (d : A) (i : ℕ) → i < length xs
    → tally p (take (suc i) xs) ≡ tally p (take i xs) + bit (p (get_or xs i d))
tally_next p [] d i h = absurd (omega arith)
tally_next p (x ∷ xs) d zero h = omega arith
tally_next p (x ∷ xs) d (suc i) h = omega (arith, tally_next p xs d i (omega arith))

-- where just the first n members pass, n do
pub tally_front {ℓ} : {A : Type ℓ} (p : A → Bool) (xs : List A) (d : A) (n : ℕ) → n ≤ length xs
    → ((i : ℕ) → i < n → T (p (get_or xs i d))) → ((i : ℕ) → n ≤ i → i < length xs → T (not (p (get_or xs i d)))) → tally p xs ≡ n
tally_front p [] d n h f g = omega arith
tally_front p (x ∷ xs) d zero h f g =
    omega (arith, bit_false (p x) (g 0 (omega arith) (omega arith)), tally_front p xs d 0 (omega arith) (λ i k. absurd (omega arith)) (λ i k l. g (suc i) (omega arith) (omega arith)))
tally_front p (x ∷ xs) d (suc n) h f g =
    omega (arith, bit_true (p x) (f 0 (omega arith)), tally_front p xs d n (omega arith) (λ i k. f (suc i) (omega arith)) (λ i k l. g (suc i) (omega arith) (omega arith)))

-- the library's count is the same
pub tally_count : {A : Type 0} → (p : A → Bool) (xs : List A) → tally p xs ≡ count_by p xs
tally_count p xs = is_count_by (tally p) p refl (λ x xs. one_more (p x) (tally p xs)) xs
  where
    one_more : (b : Bool) (n : ℕ) → bit b + n ≡ cond b (1 + n) n
    one_more true n = refl
    one_more false n = omega arith

-- ---- the members that pass

-- what is counted in a list stands in it
table_has : (p : ℕ → Bool) (g : ℕ → ℕ) (n i : ℕ) → i < n → T (p (g i)) → 1 ≤ tally p (table g n)
table_has p g zero i h y = absurd (omega arith)
table_has p g (suc n) zero h y = omega (arith, bit_true (p (g 0)) y)
table_has p g (suc n) (suc i) h y = omega (arith, table_has p (λ k. g (suc k)) n i (omega arith) y)

table_find : (p : ℕ → Bool) (g : ℕ → ℕ) (n : ℕ) → 1 ≤ tally p (table g n) → (i : ℕ) × (i < n) × T (p (g i))
table_find p g zero h = absurd (omega arith)
table_find p g (suc n) h =
    decide (p (g 0)) (λ y. (0, omega arith, y))
    (λ m. let z = table_find p (λ k. g (suc k)) n (omega (arith, bit_false (p (g 0)) m)) in (suc z.0, omega (arith, z.1), z.2))

-- so a table that counts as the first n numbers do holds each of them
pub table_place : (g : ℕ → ℕ) (n : ℕ) → ((p : ℕ → Bool) → tally p (table g n) ≡ tally p (table (λ k. k) n)) → (r : ℕ) → r < n → (i : ℕ) × (i < n) × (g i ≡ r)
table_place g n same r h =
    let z = table_find (λ x. eqb x r) g n (omega (arith, same (λ x. eqb x r), table_has (λ x. eqb x r) (λ k. k) n r h (eqb_refl r))) in
    (z.0, z.1, eqb→eq (g z.0) r z.2)

-- what does not fall from one number to the next does not fall at all
pub never_falls : (f : ℕ → ℕ) (n : ℕ) → ((i : ℕ) → suc i < n → f i ≤ f (suc i)) → (i j : ℕ) → i ≤ j → j < n → f i ≤ f j
never_falls f n step i zero l h = reach i 0 l (λ e. rw e (omega arith)) (λ k. absurd (omega arith))
never_falls f n step i (suc j) l h =
    reach i (suc j) l (λ e. rw e (omega arith)) (λ k. omega (arith, never_falls f n step i j (omega arith) (omega arith), step j h))

pub length_those {ℓ} : {A : Type ℓ} (p : A → Bool) (xs : List A) → length (those p xs) ≡ tally p xs
length_those p [] = refl
length_those p (x ∷ xs) =
    by_test (λ l. length l ≡ bit (p x) + tally p xs) (p x)
    (λ t. omega (arith, bit_true (p x) t, length_those p xs)) (λ t. omega (arith, bit_false (p x) t, length_those p xs))

pub tally_those {ℓ} : {A : Type ℓ} (p q : A → Bool) (xs : List A) → tally q (those p xs) ≡ tally (λ x. p x && q x) xs
tally_those p q [] = refl
tally_those p q (x ∷ xs) =
    by_test (λ l. tally q l ≡ bit (p x && q x) + tally (λ x. p x && q x) xs) (p x)
    (λ t. omega (arith, bit_and_true (p x) (q x) t, tally_those p q xs)) (λ t. omega (arith, bit_and_false (p x) (q x) t, tally_those p q xs))

pub all_those {ℓ} : {A : Type ℓ} (P : A → Type 0) (p : A → Bool) (xs : List A) → All P xs → All P (those p xs)
all_those P p [] h = tt
all_those P p (x ∷ xs) h =
    by_test (All P) (p x) (λ _. (h.0, all_those P p xs h.1)) (λ _. all_those P p xs h.1)

after {ℓ} : {A : Type ℓ} (b : Bool) (x : A) (r q w : List A) → r ≡ q ++ w → pick b (x ∷ r) r ≡ pick b (x ∷ q) q ++ w
unfolding pick
after true x r q w e = ap (λ l. x ∷ l) e
after false x r q w e = e

pub those_append {ℓ} : {A : Type ℓ} (p : A → Bool) (xs ys : List A) → those p (xs ++ ys) ≡ those p xs ++ those p ys
those_append p [] ys = refl
those_append p (x ∷ xs) ys = after (p x) x (those p (xs ++ ys)) (those p xs) (those p ys) (those_append p xs ys)

-- one member more of a list's front
pub those_next : (p : ℕ → Bool) (xs : List ℕ) (i : ℕ) → i < length xs
    → those p (take (i + 1) xs) ≡ those p (take i xs) ++ those p (get_or xs i 0 ∷ [])
those_next p xs i h =
    ap (λ (n : ℕ). those p (take n xs)) (add-one i) ∙ ap (those p) (take-suc xs i 0 h) ∙ those_append p (take i xs) (get_or xs i 0 ∷ [])

-- what holds of the members that pass holds of all those
pub all_passed : (P : ℕ → Type 0) (p : ℕ → Bool) (xs : List ℕ) → All (λ r. T (p r) → P r) xs → All P (those p xs)
all_passed P p [] h = tt
all_passed P p (x ∷ xs) h = by_test (All P) (p x) (λ t. (h.0 t, all_passed P p xs h.1)) (λ _. all_passed P p xs h.1)

-- those that pass and the others are counted apart
pub tally_halves : (p q : ℕ → Bool) (xs : List ℕ) → tally p xs ≡ tally p (those q xs) + tally p (those (λ x. not (q x)) xs)
tally_halves p q xs =
    omega (
      arith,
      tally_those q p xs,
      tally_those (λ x. not (q x)) p xs,
      tally_parts (λ x. q x && p x) (λ x. not (q x) && p x) p (λ x. bit_halves (q x) (p x)) xs,
    )
