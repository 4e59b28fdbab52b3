-- The order of signed finite values, by their sizes in a common unit: `HasValue x s a c` says that x is ±a / c. Assumes nothing.
use mathlib.Core.Path.{◌≡◌, refl, sym, ap, ap₂, ◌∙◌, subst₂}
use Prim.Native.Nat.{ℕ, ◌+◌, ◌-◌, ◌*◌, ◌≤◌, ◌<◌}
use native.Mathlib.Nat.{zero-mul, add-mul, mul_assoc, mul_comm, mul_right_comm, mul-lt-mul_of_pos_right, lt_of_mul-lt-mul_right, eq_of_mul-eq-mul_right, mul-pos}
use native.Mathlib.Omega.{arith}
use mathlib.Core.Bool.{Bool, true, false, not, ◌&&◌, ◌||◌, beq}
use lib.Dec.{T, leb, ltb, eqb, leb→le, le→leb, ltb→lt, lt→ltb, nltb→le, eqb→eq}
use lib.Ieee.{Float, nan, inf, fin, up, down, below, level, lt, eq, le}
use lib.Ieee.Fits.{and_i, and_l, and_r, eq→eqb, down_pos}
use lib.Ieee.Exact.{HasValue}
use Rattle.basics.proofs.Choice.{same_bool, either}
use Rattle.threshold.specs.Order.{rank_at}

-- ---- X / K is a / c, and Y / K is b / c: X and Y are ordered as a and b
module _ (X Y a b c K : ℕ) (C : 0 < c) (P : 0 < K) (p : X * c ≡ a * K) (q : Y * c ≡ b * K) where
  pub ltb_same : ltb X Y ≡ ltb a b
  ltb_same =
      same_bool (ltb X Y) (ltb a b)
      (λ t. lt→ltb a b (lt_of_mul-lt-mul_right K (subst₂ (λ (x y : ℕ). x < y) p q (mul-lt-mul_of_pos_right (ltb→lt X Y t) C))))
      (λ t. lt→ltb X Y (lt_of_mul-lt-mul_right c (subst₂ (λ (x y : ℕ). x < y) (sym p) (sym q) (mul-lt-mul_of_pos_right (ltb→lt a b t) P))))

  pub eqb_same : eqb X Y ≡ eqb a b
  eqb_same =
      same_bool (eqb X Y) (eqb a b)
      (λ t. eq→eqb (eq_of_mul-eq-mul_right K P a b (sym p ∙ ap (λ (z : ℕ). z * c) (eqb→eq X Y t) ∙ q)))
      (λ t. eq→eqb (eq_of_mul-eq-mul_right c C X Y (p ∙ ap (λ (z : ℕ). z * K) (eqb→eq a b t) ∙ sym q)))

module _ (X Y a b c K : ℕ) (C : 0 < c) (P : 0 < K) (p : X * c ≡ a * K) (q : Y * c ≡ b * K) where
  below_same : (s t : Bool) → below s X t Y ≡ below s a t b
  below_same false false = ltb_same X Y a b c K C P p q
  below_same false true = refl
  below_same true false = ltb_same 0 (X + Y) 0 (a + b) c K C P (zero-mul c ∙ sym (zero-mul K)) (add-mul X Y c ∙ ap₂ (λ (x y : ℕ). x + y) p q ∙ sym (add-mul a b K))
  below_same true true = ltb_same Y X b a c K C P q p

  level_same : (s t : Bool) → level s X t Y ≡ level s a t b
  level_same s t =
      ap₂ (λ (x y : Bool). x && (beq s t || y)) (eqb_same X Y a b c K C P p q) (eqb_same X 0 a 0 c K C P p (zero-mul c ∙ sym (zero-mul K)))

pub left_cross : (x c d a e : ℕ) → x * c ≡ a * e → x * d * c ≡ a * (e * d)
left_cross x c d a e p = mul_right_comm x d c ∙ ap (λ (z : ℕ). z * d) p ∙ mul_assoc a e d

pub right_cross : (x c e b d : ℕ) → x * c ≡ b * d → x * e * c ≡ b * (e * d)
right_cross x c e b d p = left_cross x c e b d p ∙ ap (λ (z : ℕ). b * z) (mul_comm d e)

-- ---- the comparisons of two values, by their sizes in units of 1 / c
module _ (c : ℕ) (C : 0 < c) where
  pub lt_is : (x y : Float) (s t : Bool) (a b : ℕ) → HasValue x s a c → HasValue y t b c → lt x y ≡ below s a t b
  unfolding lt
  lt_is nan y s t a b h k = absurd h
  lt_is (inf u) y s t a b h k = absurd h
  lt_is (fin u m e) nan s t a b h k = absurd k
  lt_is (fin u m e) (inf v) s t a b h k = absurd k
  lt_is (fin u m e) (fin v n d) s t a b h k =
      ap₂ (λ (i j : Bool). below i (m * up e * down d) j (n * up d * down e)) h.0 k.0
      ∙ below_same (m * up e * down d) (n * up d * down e) a b c (down e * down d) C (mul-pos (down_pos e) (down_pos d))
      (left_cross (m * up e) c (down d) a (down e) h.1) (right_cross (n * up d) c (down e) b (down d) k.1) s t

  pub eq_is : (x y : Float) (s t : Bool) (a b : ℕ) → HasValue x s a c → HasValue y t b c → eq x y ≡ level s a t b
  unfolding eq
  eq_is nan y s t a b h k = absurd h
  eq_is (inf u) y s t a b h k = absurd h
  eq_is (fin u m e) nan s t a b h k = absurd k
  eq_is (fin u m e) (inf v) s t a b h k = absurd k
  eq_is (fin u m e) (fin v n d) s t a b h k =
      ap₂ (λ (i j : Bool). level i (m * up e * down d) j (n * up d * down e)) h.0 k.0
      ∙ level_same (m * up e * down d) (n * up d * down e) a b c (down e * down d) C (mul-pos (down_pos e) (down_pos d))
      (left_cross (m * up e) c (down d) a (down e) h.1) (right_cross (n * up d) c (down e) b (down d) k.1) s t

pub le_or : (x y : Float) → le x y ≡ (lt x y || eq x y)
unfolding le
le_or x y = refl

-- with the numbers written: `eqb` unfolds, so nothing shows them
pub is_eqb : (a b : ℕ) → a ≡ b → T (eqb a b)
is_eqb a b p = eq→eqb p

-- ---- a signed size as one number, for sizes up to Z

module _ (Z : ℕ) where
  pub below_place : (s t : Bool) (a b : ℕ) → a ≤ Z → b ≤ Z → below s a t b ≡ ltb (rank_at Z s a) (rank_at Z t b)
  below_place false false a b A B = same_bool (ltb a b) (ltb (Z + a) (Z + b)) (λ t. lt→ltb (Z + a) (Z + b) (omega (arith, ltb→lt a b t))) (λ t. lt→ltb a b (omega (arith, ltb→lt (Z + a) (Z + b) t)))
  below_place false true a b A B = same_bool false (ltb (Z + a) (Z - b)) (λ t. absurd t) (λ t. no (ltb→lt (Z + a) (Z - b) t))
    where
      no : Z + a < Z - b → ⊥
      no h = omega arith
  below_place true false a b A B = same_bool (ltb 0 (a + b)) (ltb (Z - a) (Z + b)) (λ t. lt→ltb (Z - a) (Z + b) (omega (arith, ltb→lt 0 (a + b) t))) (λ t. lt→ltb 0 (a + b) (omega (arith, ltb→lt (Z - a) (Z + b) t)))
  below_place true true a b A B = same_bool (ltb b a) (ltb (Z - a) (Z - b)) (λ t. lt→ltb (Z - a) (Z - b) (omega (arith, ltb→lt b a t))) (λ t. lt→ltb b a (omega (arith, ltb→lt (Z - a) (Z - b) t)))

  pub level_place : (s t : Bool) (a b : ℕ) → a ≤ Z → b ≤ Z → level s a t b ≡ eqb (rank_at Z s a) (rank_at Z t b)
  level_place false false a b A B = same_bool (eqb a b && true) (eqb (Z + a) (Z + b)) (λ t. is_eqb (Z + a) (Z + b) (omega (arith, eqb→eq a b (and_l (eqb a b) true t)))) (λ t. and_i (eqb a b) true (is_eqb a b (omega (arith, eqb→eq (Z + a) (Z + b) t))) tt)
  level_place true true a b A B = same_bool (eqb a b && true) (eqb (Z - a) (Z - b)) (λ t. is_eqb (Z - a) (Z - b) (omega (arith, eqb→eq a b (and_l (eqb a b) true t)))) (λ t. and_i (eqb a b) true (is_eqb a b (omega (arith, eqb→eq (Z - a) (Z - b) t))) tt)
  level_place false true a b A B =
      same_bool (eqb a b && eqb a 0) (eqb (Z + a) (Z - b))
      (λ t. is_eqb (Z + a) (Z - b) (omega (arith, eqb→eq a b (and_l (eqb a b) (eqb a 0) t), eqb→eq a 0 (and_r (eqb a b) (eqb a 0) t))))
      (λ t. and_i (eqb a b) (eqb a 0) (is_eqb a b (omega (arith, eqb→eq (Z + a) (Z - b) t))) (is_eqb a 0 (omega (arith, eqb→eq (Z + a) (Z - b) t))))
  level_place true false a b A B =
      same_bool (eqb a b && eqb a 0) (eqb (Z - a) (Z + b))
      (λ t. is_eqb (Z - a) (Z + b) (omega (arith, eqb→eq a b (and_l (eqb a b) (eqb a 0) t), eqb→eq a 0 (and_r (eqb a b) (eqb a 0) t))))
      (λ t. and_i (eqb a b) (eqb a 0) (is_eqb a b (omega (arith, eqb→eq (Z - a) (Z + b) t))) (is_eqb a 0 (omega (arith, eqb→eq (Z - a) (Z + b) t))))

-- ---- `<` or `=` is `≤`
or_if_not : (p q : Bool) → (T (not p) → T q) → T (p || q)
or_if_not true q f = tt
or_if_not false q f = f tt

pub lt_or_eq : (a b : ℕ) → (ltb a b || eqb a b) ≡ leb a b
lt_or_eq a b =
    same_bool (ltb a b || eqb a b) (leb a b)
    (λ t. either (ltb a b) (eqb a b) t (λ u. le→leb a b (omega (arith, ltb→lt a b u))) (λ u. le→leb a b (omega (arith, eqb→eq a b u))))
    (λ t. or_if_not (ltb a b) (eqb a b) (λ n. is_eqb a b (omega (arith, nltb→le a b n, leb→le a b t))))

module _ (c : ℕ) (C : 0 < c) (x y : Float) (s t : Bool) (a b : ℕ) (h : HasValue x s a c) (k : HasValue y t b c) (Z : ℕ) (A : a ≤ Z) (B : b ≤ Z) where
  pub lt_places : lt x y ≡ ltb (rank_at Z s a) (rank_at Z t b)
  lt_places = lt_is c C x y s t a b h k ∙ below_place Z s t a b A B

  pub eq_places : eq x y ≡ eqb (rank_at Z s a) (rank_at Z t b)
  eq_places = eq_is c C x y s t a b h k ∙ level_place Z s t a b A B

  pub le_places : le x y ≡ leb (rank_at Z s a) (rank_at Z t b)
  le_places = le_or x y ∙ ap₂ (λ (i j : Bool). i || j) lt_places eq_places ∙ lt_or_eq (rank_at Z s a) (rank_at Z t b)
