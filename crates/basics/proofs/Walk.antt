-- A walk stops at the first number that passes, and nothing else does. Assumes nothing.
use mathlib.Core.Path.{◌≡◌, refl, subst}
use Prim.Native.Nat.{ℕ, zero, suc, ◌+◌, ◌≤◌, ◌<◌, min}
use native.Mathlib.Omega.{arith}
use mathlib.Core.Bool.{Bool, not}
use lib.Dec.{T, T_not}
use Rattle.std.specs.Prelude.{Option, Some, None}
use Rattle.basics.specs.Walk.{walk, Walked, place_among}
use Rattle.basics.proofs.Choice.{by_test, by_ltb, order, reach}

later : (ok : ℕ → Bool) (n k r : ℕ) → T (not (ok k)) → Walked ok n (suc k) r → Walked ok (suc n) k r
later ok n k r f w =
    record {
      low = omega arith;
      high = omega arith;
      before = λ j h g. reach k j h (λ e. subst (λ x. T (not (ok x))) e f) (λ l. w.before j l g);
      found = λ h. w.found (omega arith);
    }

pub walked : (ok : ℕ → Bool) (n k : ℕ) → Walked ok n k (walk ok n k)
unfolding walk
walked ok zero k =
    record { low = omega arith; high = omega arith; before = λ j h g. absurd (omega arith); found = λ h. absurd (omega arith) }
walked ok (suc n) k =
    by_test (Walked ok (suc n) k) (ok k)
    (λ t. record { low = omega arith; high = omega arith; before = λ j h g. absurd (omega arith); found = λ h. t })
    (λ f. later ok n k _ f (walked ok n (suc k)))

-- what any other way of looking has to show: such an answer is the walk's
pub walk_unique : (ok : ℕ → Bool) (n k r : ℕ) → Walked ok n k r → walk ok n k ≡ r
walk_unique ok n k r w =
    let v = walked ok n k in
    order (walk ok n k) r
    (λ l. reach (walk ok n k) r l (λ e. e) (λ g. absurd (T_not (ok (walk ok n k)) (w.before (walk ok n k) v.low g) (v.found (omega arith)))))
    (λ g. absurd (T_not (ok r) (v.before r w.low g) (w.found (omega arith))))

-- a shorter walk stops at its end
pub walk_short : (ok : ℕ → Bool) (n m k : ℕ) → n ≤ m → walk ok n k ≡ min (walk ok m k) (k + n)
walk_short ok n m k h =
    let v : Walked ok m k (walk ok m k) = walked ok m k in
    walk_unique ok n k (min (walk ok m k) (k + n))
    (record {
      low = omega arith;
      high = omega arith;
      before = λ j x y. v.before j x (omega arith);
      found = λ x. rw (min_left (walk ok m k) (k + n) x) (v.found (omega arith));
    })
  where
    min_left : (a b : ℕ) → min a b < b → min a b ≡ a
    min_left a b x = omega arith

-- what a place among the first n says, and how it is come by
pub place_some : (n place p : ℕ) → place_among n place ≡ Some p → (place ≡ p) × (place < n)
place_some n place p = by_ltb (λ (o : Option ℕ). o ≡ Some p → (place ≡ p) × (place < n)) place n (λ low e. (cc, low)) (λ high e. absurd cc)

pub place_none : (n place : ℕ) → place_among n place ≡ None → n ≤ place
place_none n place = by_ltb (λ (o : Option ℕ). o ≡ None → n ≤ place) place n (λ low e. absurd cc) (λ high e. high)

pub place_found : (n place : ℕ) → place < n → place_among n place ≡ Some place
place_found n place h = by_ltb (λ (o : Option ℕ). o ≡ Some place) place n (λ low. refl) (λ high. absurd (omega arith))

pub place_missed : (n place : ℕ) → n ≤ place → place_among n place ≡ None
place_missed n place h = by_ltb (λ (o : Option ℕ). o ≡ None) place n (λ low. absurd (omega arith)) (λ high. refl)
