-- Half of the rounded sum of two finite values, in units of the format's smallest value. Assumes nothing.
use mathlib.Core.Path.{◌≡◌, refl, sym, ap, ap₂, ◌∙◌, subst}
use Prim.Native.Nat.{ℕ, ◌+◌, ◌-◌, ◌*◌, ◌^◌, ◌≤◌, ◌<◌}
use native.Mathlib.Nat.{le_refl, mul-one, add-mul, mul-sub, mul_comm, mul_left_comm, mul-pos}
use native.Mathlib.Omega.{arith}
use mathlib.Core.Bool.{Bool, true, false, ◌&&◌, beq, cond}
use lib.Dec.{ltb}
use lib.Pow.{pow_pos}
use lib.Ieee.{Float, nan, inf, fin, Format, low, up, down, unlike, round, sum, add, div}
use lib.Ieee.Fits.{down_pos}
use lib.Ieee.Exact.{HasValue}
use lib.Ieee.Scale.{overflow, round_same}
use Rattle.threshold.proofs.Compare.{ltb_same, left_cross, right_cross}
use Rattle.threshold.proofs.Rounding.{round_signed, whole, half}
use Rattle.threshold.specs.Threshold as spec

sub_mul : (m n k : ℕ) → (m - n) * k ≡ m * k - n * k
sub_mul m n k = mul_comm (m - n) k ∙ mul-sub k m n ∙ ap₂ (λ (x y : ℕ). x - y) (mul_comm k m) (mul_comm k n)

-- ---- a sum by its operands' sizes in a common unit
module _ (f : Format) (X Y a b c K : ℕ) (C : 0 < c) (P : 0 < K) (p : X * c ≡ a * K) (q : Y * c ≡ b * K) where
  plus : (s : Bool) → round f s (X + Y) K ≡ round f s (a + b) c
  plus s = round_same f s (X + Y) K (a + b) c P C (add-mul X Y c ∙ ap₂ (λ (x y : ℕ). x + y) p q ∙ sym (add-mul a b K))

  less : (s : Bool) → round f s (X - Y) K ≡ round f s (a - b) c
  less s = round_same f s (X - Y) K (a - b) c P C (sub_mul X Y c ∙ ap₂ (λ (x y : ℕ). x - y) p q ∙ sym (sub_mul a b K))

module _ (f : Format) (X Y a b c K : ℕ) (C : 0 < c) (P : 0 < K) (p : X * c ≡ a * K) (q : Y * c ≡ b * K) where
  sum_same : (s t : Bool) → sum f s X t Y K ≡ sum f s a t b c
  unfolding sum
  sum_same s t =
      ap₂ (λ (i j : Float). cond (beq s t) i j) (plus f X Y a b c K C P p q s)
      (ap (λ (z : Bool). cond z (round f t (Y - X) K) (round f (s && ltb Y X) (X - Y) K)) (ltb_same X Y a b c K C P p q)
      ∙ ap₂ (λ (i j : Float). cond (ltb a b) i j) (less f Y X b a c K C P q p t)
      (ap (λ (z : Bool). round f (s && z) (X - Y) K) (ltb_same Y X b a c K C P q p) ∙ less f X Y a b c K C P p q (s && ltb b a)))

pub add_is : (f : Format) (x y : Float) (s t : Bool) (a b c : ℕ) → 0 < c → HasValue x s a c → HasValue y t b c → add f x y ≡ sum f s a t b c
unfolding add
add_is f nan y s t a b c C h k = absurd h
add_is f (inf u) y s t a b c C h k = absurd h
add_is f (fin u m e) nan s t a b c C h k = absurd k
add_is f (fin u m e) (inf v) s t a b c C h k = absurd k
add_is f (fin u m e) (fin v n d) s t a b c C h k =
    ap₂ (λ (i j : Bool). sum f i (m * up e * down d) j (n * up d * down e) (down e * down d)) h.0 k.0
    ∙ sum_same f (m * up e * down d) (n * up d * down e) a b c (down e * down d) C (mul-pos (down_pos e) (down_pos d))
    (left_cross (m * up e) c (down d) a (down e) h.1) (right_cross (n * up d) c (down e) b (down d) k.1) s t

-- a sum's sign, and its size before it is rounded
abbrev pub sign_of : Bool → ℕ → Bool → ℕ → Bool
sign_of s a t b = cond (beq s t) s (cond (ltb a b) t (s && ltb b a))

abbrev pub size_of : Bool → ℕ → Bool → ℕ → ℕ
size_of s a t b = cond (beq s t) (a + b) (cond (ltb a b) (b - a) (a - b))

pub sum_is : (f : Format) (s t : Bool) (a b c : ℕ) → sum f s a t b c ≡ round f (sign_of s a t b) (size_of s a t b) c
unfolding sum
sum_is f s t a b c = go (beq s t) (ltb a b)
  where
    go : (i j : Bool) → cond i (round f s (a + b) c) (cond j (round f t (b - a) c) (round f (s && ltb b a) (a - b) c))
        ≡ round f (cond i s (cond j t (s && ltb b a))) (cond i (a + b) (cond j (b - a) (a - b))) c
    go true j = refl
    go false true = refl
    go false false = refl

pub size_le : (s t : Bool) (a b : ℕ) → size_of s a t b ≤ a + b
size_le s t a b = go (beq s t) (ltb a b)
  where
    go : (i j : Bool) → cond i (a + b) (cond j (b - a) (a - b)) ≤ a + b
    go true j = le_refl (a + b)
    go false true = omega arith
    go false false = omega arith

-- ---- half of a value
unlike_false : (u : Bool) → unlike u false ≡ u
unlike_false true = refl
unlike_false false = refl

pub half_is : (f : Format) (x : Float) (s : Bool) (a c : ℕ) → 0 < c → HasValue x s a c → div f x spec.two ≡ round f s a (2 * c)
unfolding div
half_is f nan s a c C h = absurd h
half_is f (inf u) s a c C h = absurd h
half_is f (fin u m e) s a c C h =
    ap (λ (z : Bool). round f z (m * up e * 1) (2 * down e)) (unlike_false u ∙ h.0)
    ∙ round_same f s (m * up e * 1) (2 * down e) a (2 * c) (mul-pos (pow_pos 1) (down_pos e)) (mul-pos (pow_pos 1) C)
    (ap (λ (z : ℕ). z * (2 * c)) (mul-one (m * up e)) ∙ mul_left_comm (m * up e) 2 c ∙ ap (λ (z : ℕ). 2 * z) h.1 ∙ mul_left_comm 2 a (down e))

-- ---- half of the rounded sum
pub midpoint_is : (f : Format) (x y : Float) (s t : Bool) (a b : ℕ) → HasValue x s a (2 ^ low f) → HasValue y t b (2 ^ low f)
    → whole f (size_of s a t b) < overflow f → half f (size_of s a t b) < overflow f
    → HasValue (div f (add f x y) spec.two) (sign_of s a t b) (half f (size_of s a t b)) (2 ^ low f)
midpoint_is f x y s t a b h k o o' =
    let L = 2 ^ low f in
    let g = sign_of s a t b in
    let w = size_of s a t b in
    let added : add f x y ≡ round f g w L = add_is f x y s t a b L (pow_pos (low f)) h k ∙ sum_is f s t a b L in
    let v : HasValue (add f x y) g (whole f w) L = subst (λ (z : Float). HasValue z g (whole f w) L) (sym added) (round_signed f g w L o) in
    subst (λ (z : Float). HasValue z g (half f w) L) (sym (half_is f (add f x y) g (whole f w) L (pow_pos (low f)) v)) (round_signed f g (whole f w) (2 * L) o')
