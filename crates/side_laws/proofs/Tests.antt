-- Tests joined and negated, and choices by them: laws that `basics` has no use for by itself. Assumes nothing.
use mathlib.Core.Path.{◌≡◌, refl}
use Prim.Native.Nat.{◌≤◌}
use native.Mathlib.Omega.{arith}
use mathlib.Core.Bool.{Bool, true, false, not, ◌&&◌}
use lib.Dec.{T}
use Rattle.basics.specs.Choice.{pick, bit}

pub not_not→ : (b : Bool) → T (not (not b)) → T b
not_not→ true y = tt
not_not→ false y = y

-- ---- choices

pub pick_and {ℓ} : {X : Type ℓ} (a b : Bool) (x y : X) → pick (a && b) x y ≡ pick a (pick b x y) y
unfolding pick
pick_and true b x y = refl
pick_and false b x y = refl

pub pick_and_true {ℓ} : {X : Type ℓ} (a b : Bool) (x y : X) → T a → pick (a && b) x y ≡ pick b x y
pick_and_true true b x y t = refl
pick_and_true false b x y t = absurd t

pub pick_same {ℓ} : {X : Type ℓ} (q : Bool) (x y : X) → x ≡ y → pick q x y ≡ y
unfolding pick
pick_same true x y e = e
pick_same false x y e = refl

-- ---- bits

-- a test that passes less often fails more often
pub bit_not : (a b : Bool) → bit a ≤ bit b → bit (not b) ≤ bit (not a)
bit_not true true l = omega arith
bit_not true false l = absurd (omega arith)
bit_not false true l = omega arith
bit_not false false l = omega arith
