-- Tests by cases: what holds in both cases holds of the choice. Assumes nothing.
use mathlib.Core.Path.{◌≡◌, refl, sym, ◌∙◌, subst}
use Prim.Native.Nat.{ℕ, ◌+◌, ◌≤◌, ◌<◌}
use native.Mathlib.Omega.{arith}
use native.Mathlib.Decide.{dec_le}
use native.Mathlib.Nat.{lt_of_not-le}
use mathlib.Core.Bool.{Bool, true, false, not, ◌&&◌, ◌||◌}
use mathlib.Core.Option.{Option, none, some}
use mir.Val.{bool_byte}
use lib.Dec.{T, T_not, not_T, leb, ltb, eqb, leb→le, nleb→lt, ltb→lt, nltb→le, eqb→eq, eqb_refl}
use Rattle.basics.specs.Choice.{pick, bit, Given}

-- ---- a choice, by its test

pub by_test {ℓ κ} : {X : Type ℓ} (P : X → Type κ) (b : Bool) {x y : X} → (T b → P x) → (T (not b) → P y) → P (pick b x y)
unfolding pick
by_test P true f g = f tt
by_test P false f g = g tt

pub by_leb {ℓ κ} : {X : Type ℓ} (P : X → Type κ) (a b : ℕ) {x y : X} → (a ≤ b → P x) → (b < a → P y) → P (pick (leb a b) x y)
by_leb P a b f g = by_test P (leb a b) (λ t. f (leb→le a b t)) (λ t. g (nleb→lt a b t))

pub by_ltb {ℓ κ} : {X : Type ℓ} (P : X → Type κ) (a b : ℕ) {x y : X} → (a < b → P x) → (b ≤ a → P y) → P (pick (ltb a b) x y)
by_ltb P a b f g = by_test P (ltb a b) (λ t. f (ltb→lt a b t)) (λ t. g (nltb→le a b t))

pub pick_true {ℓ} : {X : Type ℓ} (b : Bool) (x y : X) → T b → pick b x y ≡ x
unfolding pick
pick_true true x y t = refl
pick_true false x y t = absurd t

pub pick_false {ℓ} : {X : Type ℓ} (b : Bool) (x y : X) → T (not b) → pick b x y ≡ y
unfolding pick
pick_false true x y t = absurd t
pick_false false x y t = refl

-- what a branch chose is what the test picks
pub picked_then {ℓ} : {X : Type ℓ} (b : Bool) (x y v : X) → b ≡ true → v ≡ x → v ≡ pick b x y
picked_then b x y v t e = e ∙ sym (pick_true b x y (subst T (sym t) tt))

pub picked_else {ℓ} : {X : Type ℓ} (b : Bool) (x y v : X) → b ≡ false → v ≡ y → v ≡ pick b x y
picked_else b x y v t e = e ∙ sym (pick_false b x y (subst (λ (c : Bool). T (not c)) (sym t) tt))

-- ---- a proof, by a test

pub decide {ℓ} : {X : Type ℓ} (b : Bool) → (T b → X) → (T (not b) → X) → X
decide true f g = f tt
decide false f g = g tt

pub either {ℓ} : {X : Type ℓ} (a b : Bool) → T (a || b) → (T a → X) → (T b → X) → X
either true b t f g = f tt
either false b t f g = g t

-- one order or the other
pub order {ℓ} : {X : Type ℓ} (a b : ℕ) → (a ≤ b → X) → (b < a → X) → X
order a b f g = elim (dec_le a b) [ yes h ↦ f h | no h ↦ g (lt_of_not-le h) ]

-- from a ≤ b: equal or below
pub reach {ℓ} : {X : Type ℓ} (a b : ℕ) → a ≤ b → (a ≡ b → X) → (a < b → X) → X
reach a b h f g = order b a (λ k. f (omega arith)) g

-- ---- tests joined

-- two tests that pass together are equal
pub same_bool : (p q : Bool) → (T p → T q) → (T q → T p) → p ≡ q
same_bool true true f g = refl
same_bool true false f g = absurd (f tt)
same_bool false true f g = absurd (g tt)
same_bool false false f g = refl

pub and_left : (a b : Bool) → T (a && b) → T a
and_left true b t = tt
and_left false b t = absurd t

pub and_right : (a b : Bool) → T (a && b) → T b
and_right true b t = t
and_right false b t = absurd t

pub and_both : (a b : Bool) → T a → T b → T (a && b)
and_both true b t u = u
and_both false b t u = absurd t

pub or_left : (a b : Bool) → T a → T (a || b)
or_left true b t = tt
or_left false b t = absurd t

pub or_right : (a b : Bool) → T b → T (a || b)
or_right true b t = tt
or_right false b t = t

pub nand_left : (a b : Bool) → T (not a) → T (not (a && b))
nand_left true b t = absurd t
nand_left false b t = tt

pub nand_right : (a b : Bool) → T (not b) → T (not (a && b))
nand_right true b t = t
nand_right false b t = tt

pub not_not : (b : Bool) → T b → T (not (not b))
not_not true t = tt
not_not false t = absurd t

pub nor_both : (a b : Bool) → T (not a) → T (not b) → T (not (a || b))
nor_both true b t u = absurd t
nor_both false b t u = u

pub nor_left : (a b : Bool) → T (not (a || b)) → T (not a)
nor_left true b t = absurd t
nor_left false b t = tt

pub nor_right : (a b : Bool) → T (not (a || b)) → T (not b)
nor_right true b t = absurd t
nor_right false b t = t

-- tests of numbers that fail
pub nleb : (a b : ℕ) → b < a → T (not (leb a b))
nleb a b h = not_T (leb a b) (λ t. omega (arith, leb→le a b t))

pub nltb : (a b : ℕ) → b ≤ a → T (not (ltb a b))
nltb a b h = not_T (ltb a b) (λ t. omega (arith, ltb→lt a b t))

pub eqb_no : (a b : ℕ) → (a ≡ b → ⊥) → T (not (eqb a b))
eqb_no a b h = not_T (eqb a b) (λ t. h (eqb→eq a b t))

pub eqb_yes : (a b : ℕ) → a ≡ b → T (eqb a b)
eqb_yes a b e = subst (λ x. T (eqb a x)) e (eqb_refl a)

pub neqb : (a b : ℕ) → T (not (eqb a b)) → a ≡ b → ⊥
neqb a b t e = T_not (eqb a b) t (subst (λ x. T (eqb a x)) e (eqb_refl a))

-- ---- bits

pub bit_true : (b : Bool) → T b → bit b ≡ 1
bit_true true t = refl
bit_true false t = absurd t

pub bit_false : (b : Bool) → T (not b) → bit b ≡ 0
bit_false true t = absurd t
bit_false false t = refl

-- a test as the library makes a number of it
pub byte_bit : (b : Bool) → bool_byte b ≡ bit b
byte_bit true = refl
byte_bit false = refl

pub bit_le : (b : Bool) → bit b ≤ 1
bit_le true = omega arith
bit_le false = omega arith

pub bit_and : (a b : Bool) → bit (a && b) ≤ bit a
bit_and true b = bit_le b
bit_and false b = omega arith

pub bit_and_true : (a b : Bool) → T a → bit (a && b) ≡ bit b
bit_and_true true b t = refl
bit_and_true false b t = absurd t

pub bit_and_false : (a b : Bool) → T (not a) → bit (a && b) ≡ 0
bit_and_false true b t = absurd t
bit_and_false false b t = refl

-- a test, by another one
pub bit_halves : (a b : Bool) → bit b ≡ bit (a && b) + bit (not a && b)
bit_halves true true = refl
bit_halves true false = refl
bit_halves false true = refl
bit_halves false false = refl

pub bit_parts : (a b : Bool) → bit a ≡ bit (a && b) + bit (a && not b)
bit_parts true true = refl
bit_parts true false = refl
bit_parts false b = refl

-- ---- what may be missing

pub given_map {ℓ} : {A : Type ℓ} (P Q : A → Type 0) → ((a : A) → P a → Q a) → (o : Option A) → Given P o → Given Q o
given_map P Q f none h = tt
given_map P Q f (some x) h = f x h
