-- What a loop has to show that looks for the first place that fails a test: none before it does. Assumes nothing.
use mathlib.Core.Path.{◌≡◌, refl, sym, ap, ◌∙◌, subst}
use Prim.Native.Nat.{ℕ, ◌+◌, ◌≤◌, ◌<◌}
use native.Mathlib.Omega.{arith}
use mathlib.Core.Bool.{Bool, true, false, not}
use lib.Dec.{T, ltb}
use mathlib.Core.List.{List}
use lib.ListN.{length, get_or}
use Rattle.std.specs.Prelude.{Some, None, cond, position}
use Rattle.std.specs.List.{position_or_len}
use Rattle.std.proofs.lemmas.List.Sums.{position_or_len_is}
use borrow.Author.Count.{below_more}
use Rattle.basics.specs.Choice.{pick}
use Rattle.basics.specs.Walk.{walk, place_among}
use Rattle.basics.proofs.Walk.{walked, walk_unique, place_found, place_missed}

-- no place before the n-th is bad
pub record Clean (bad : ℕ → Bool) (n : ℕ) : Type 0 where
  pub none : (j : ℕ) → j < n → T (not (bad j))

pub truth : {b : Bool} → b ≡ true → T b
truth e = subst (λ x. T x) (sym e) tt

pub untruth : {b : Bool} → b ≡ false → T (not b)
untruth e = subst (λ x. T (not x)) (sym e) tt

pub falsity : (b : Bool) → T (not b) → b ≡ false
falsity true t = absurd t
falsity false t = refl

pub clean_none : {bad : ℕ → Bool} → Clean bad 0
clean_none = record { none = λ j h. absurd (omega arith) }

pub clean_more : {bad : ℕ → Bool} {i : ℕ} → Clean bad i → T (not (bad i)) → Clean bad (i + 1)
clean_more {bad} {i} h t = record { none = below_more _ i h.none t }

pub clean_stop : {bad : ℕ → Bool} {n i : ℕ} → Clean bad i → i < n → T (bad i) → i ≡ walk bad n 0
clean_stop {bad} {n} {i} h l t =
    sym (walk_unique bad n 0 i (record { low = omega arith; high = omega arith; before = λ j _ g. h.none j g; found = λ _. t }))

pub clean_all : {bad : ℕ → Bool} {n i : ℕ} → Clean bad i → i ≡ n → i ≡ walk bad n 0
clean_all {bad} {n} {i} h e =
    sym
    (walk_unique bad n 0 i
    (record { low = omega arith; high = omega arith; before = λ j _ g. h.none j g; found = λ l. absurd (omega arith) }))

-- the same of a place among the first n
pub clean_found : {bad : ℕ → Bool} {n i : ℕ} → Clean bad i → i < n → T (bad i) → Some i ≡ place_among n (walk bad n 0)
clean_found {bad} {n} {i} h l t = sym (place_found n i l) ∙ ap (place_among n) (clean_stop h l t)

pub clean_missed : {bad : ℕ → Bool} {n : ℕ} → Clean bad n → None ≡ place_among n (walk bad n 0)
clean_missed {bad} {n} h = sym (place_missed n n (omega arith)) ∙ ap (place_among n) (clean_all h refl)

-- what a walk tells of the places before its answer, and of its answer
pub clean_walk : (bad : ℕ → Bool) (n : ℕ) → Clean bad (walk bad n 0)
clean_walk bad n = record { none = λ j h. (walked bad n 0).before j (omega arith) h }

pub walk_most : (bad : ℕ → Bool) (n : ℕ) → walk bad n 0 ≤ n
walk_most bad n = omega (arith, (walked bad n 0).high)

pub walk_bad : (bad : ℕ → Bool) (n : ℕ) → walk bad n 0 < n → T (bad (walk bad n 0))
walk_bad bad n h = (walked bad n 0).found (omega arith)

-- ---- a search by the library's `position` is a walk's

yes : {b : Bool} → T b → b ≡ true
yes {b} t = go b t
  where
    go : (b : Bool) → T b → b ≡ true
    go true t = refl
    go false t = absurd t

chosen : {X : Type 0} (b : Bool) (x y : X) → cond b x y ≡ pick b x y
unfolding pick
chosen true x y = refl
chosen false x y = refl

pub position_place : {X : Type 0} (test : X → Bool) (xs : List X) (d : X)
    → position test xs ≡ place_among (length xs) (walk (λ i. test (get_or xs i d)) (length xs) 0)
position_place test xs d =
    let n : ℕ = length xs in
    let bad : ℕ → Bool = λ i. test (get_or xs i d) in
    let e : position_or_len test xs ≡ walk bad n 0 =
    position_or_len_is test xs (walk bad n 0) d (walk_most bad n) (λ k h. falsity (bad k) ((clean_walk bad n).none k h)) (λ h. yes (walk_bad bad n h)) in
    ap (λ (p : ℕ). cond (ltb p n) (Some p) None) e ∙ chosen (ltb (walk bad n 0) n) (Some (walk bad n 0)) None
