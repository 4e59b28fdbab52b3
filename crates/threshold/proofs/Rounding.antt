-- Rounding in units of the format's smallest value, as a function on numbers (`grid`): it keeps the order, and it changes no number that the format holds.
-- The sign of what is rounded plays no part. Assumes nothing.
use mathlib.Core.Path.{◌≡◌, refl, sym, ap, ◌∙◌, subst}
use Prim.Native.Nat.{ℕ, suc, ◌+◌, ◌*◌, ◌^◌, ◌≤◌, ◌<◌}
use native.Mathlib.Nat.{le_trans, le_of_eq, mul_assoc, mul_comm, mul_left_comm, mul_right_comm, mul-le-mul_right, eq_of_mul-eq-mul_right, mul-pos, pow-succ'}
use native.Mathlib.Omega.{arith}
use mathlib.Core.Bool.{Bool, true, false, cond, true≢false}
use lib.Dec.{T, ltb, leb→le}
use lib.Pow.{pow_pos}
use lib.Ieee.{Float, nan, inf, fin, Format, prec, low, up, down, odd, units, round, le}
use lib.Ieee.Fits.{down_pos, round_is}
use lib.Ieee.Exact.{HasValue, odd_sign, units_val, round_exact}
use lib.Ieee.Order.{drop, kept, round_mono}
use lib.Ieee.Scale.{grid, overflow, finite, round_under, round_val}
use Rattle.threshold.proofs.Compare.{le_places}

-- what is rounded, with either sign
pub round_signed : (f : Format) (s : Bool) (a c : ℕ) → grid f a c < overflow f → HasValue (round f s a c) s (grid f a c) (2 ^ low f)
round_signed f s a c h =
    subst (λ (z : Float). HasValue z s (grid f a c) (2 ^ low f)) (sym (round_is f s a c))
    (units_val f s (kept (prec f) (a * 2 ^ low f) c) (drop (prec f) (a * 2 ^ low f) c) h)

pub finite_of_value : (x : Float) (s : Bool) (a c : ℕ) → HasValue x s a c → T (finite x)
finite_of_value nan s a c h = absurd h
finite_of_value (inf u) s a c h = absurd h
finite_of_value (fin u m e) s a c h = tt

-- a value is one fraction
pub one_value : (x : Float) (s : Bool) (a c b d : ℕ) → HasValue x s a c → HasValue x s b d → a * d ≡ b * c
one_value nan s a c b d h k = absurd h
one_value (inf u) s a c b d h k = absurd h
one_value (fin u m e) s a c b d h k =
    eq_of_mul-eq-mul_right (down e) (down_pos e) (a * d) (b * c)
    (mul_right_comm a d (down e) ∙ ap (λ (z : ℕ). z * d) (sym h.1) ∙ mul_right_comm (m * up e) c d ∙ ap (λ (z : ℕ). z * c) k.1 ∙ mul_right_comm b (down e) c)

-- a fraction that is q * 2 ^ j units stays as it is
pub grid_exact : (f : Format) (a c q j : ℕ) → 0 < c → q < 2 ^ prec f → q * 2 ^ j < overflow f → a * 2 ^ low f ≡ q * 2 ^ j * c → grid f a c ≡ q * 2 ^ j
grid_exact f a c q j C small fine e =
    let v : HasValue (round f false a c) false a c = round_exact f false a c q j C small fine e in
    let g : HasValue (round f false a c) false (grid f a c) (2 ^ low f) = round_val f a c (round_under f a c (finite_of_value (round f false a c) false a c v)) in
    eq_of_mul-eq-mul_right c C (grid f a c) (q * 2 ^ j) (sym (one_value (round f false a c) false a c (grid f a c) (2 ^ low f) v g) ∙ e)

-- ---- the order
-- what is no larger than a finite value is finite, if it is no -∞
under_finite : (x y : Float) → (x ≡ inf true → ⊥) → T (finite y) → T (le x y) → T (finite x)
unfolding le
under_finite nan y n h t = absurd t
under_finite (inf true) y n h t = absurd (n refl)
under_finite (inf false) nan n h t = absurd h
under_finite (inf false) (inf v) n h t = absurd h
under_finite (inf false) (fin v m e) n h t = absurd t
under_finite (fin u m e) y n h t = tt

abbrev bottom : Float → Bool
bottom nan = false
bottom (inf s) = s
bottom (fin s m e) = false

bottom_of_value : (x : Float) (s : Bool) (a c : ℕ) → HasValue x s a c → bottom x ≡ false
bottom_of_value nan s a c h = absurd h
bottom_of_value (inf u) s a c h = absurd h
bottom_of_value (fin u m e) s a c h = refl

units_not_bottom : (f : Format) (q k : ℕ) → bottom (units f false q k) ≡ false
unfolding units
units_not_bottom f q k = go (ltb (q * 2 ^ k) (overflow f))
  where
    go : (b : Bool) → bottom (cond b (odd (suc (prec f)) false q k (low f)) (inf false)) ≡ false
    go true = bottom_of_value (odd (suc (prec f)) false q k (low f)) false (q * 2 ^ k) (2 ^ low f) (odd_sign (suc (prec f)) false q k (low f))
    go false = refl

never_below : (f : Format) (a c : ℕ) → round f false a c ≡ inf true → ⊥
never_below f a c p =
    true≢false (ap bottom (sym p ∙ round_is f false a c) ∙ units_not_bottom f (kept (prec f) (a * 2 ^ low f) c) (drop (prec f) (a * 2 ^ low f) c))

le_sizes : (x y : Float) (a b c : ℕ) → 0 < c → HasValue x false a c → HasValue y false b c → T (le x y) → a ≤ b
le_sizes x y a b c C h k t =
    omega (arith, leb→le (a + b + a) (a + b + b) (subst T (le_places c C x y false false a b h k (a + b) (omega arith) (omega arith)) t))

pub grid_mono : (f : Format) (a c b d : ℕ) → 0 < c → 0 < d → a * d ≤ b * c → grid f b d < overflow f → grid f a c ≤ grid f b d
grid_mono f a c b d C D h o =
    let t : T (le (round f false a c) (round f false b d)) = round_mono f a c b d C D h in
    let y : HasValue (round f false b d) false (grid f b d) (2 ^ low f) = round_val f b d o in
    let n : T (finite (round f false a c)) = under_finite (round f false a c) (round f false b d) (never_below f a c) (finite_of_value (round f false b d) false (grid f b d) (2 ^ low f) y) t in
    le_sizes (round f false a c) (round f false b d) (grid f a c) (grid f b d) (2 ^ low f) (pow_pos (low f)) (round_val f a c (round_under f a c n)) y t

-- ---- half of the rounded number of units
abbrev pub whole : Format → ℕ → ℕ
whole f w = grid f w (2 ^ low f)

abbrev pub half : Format → ℕ → ℕ
half f w = grid f (whole f w) (2 * 2 ^ low f)

two_pos : (l : ℕ) → 0 < 2 * 2 ^ l
two_pos l = mul-pos (pow_pos 1) (pow_pos l)

pub twice : (q j : ℕ) → q * 2 ^ suc j ≡ 2 * (q * 2 ^ j)
twice q j = ap (λ (z : ℕ). q * z) (pow-succ' 2 j) ∙ mul_left_comm q 2 (2 ^ j)

module _ (f : Format) (q j : ℕ) (small : q < 2 ^ prec f) (fine : q * 2 ^ suc j < overflow f) where
  whole_exact : whole f (q * 2 ^ suc j) ≡ q * 2 ^ suc j
  whole_exact = grid_exact f (q * 2 ^ suc j) (2 ^ low f) q (suc j) (pow_pos (low f)) small fine refl

  less : (x y : ℕ) → x ≡ 2 * y → x < overflow f → y < overflow f
  less x y e h = omega arith

  fine' : q * 2 ^ j < overflow f
  fine' = less (q * 2 ^ suc j) (q * 2 ^ j) (twice q j) fine

  pub half_exact : grid f (q * 2 ^ suc j) (2 * 2 ^ low f) ≡ q * 2 ^ j
  half_exact = grid_exact f (q * 2 ^ suc j) (2 * 2 ^ low f) q j (two_pos (low f)) small fine' (ap (λ (z : ℕ). z * 2 ^ low f) (twice q j) ∙ ap (λ (z : ℕ). z * 2 ^ low f) (mul_comm 2 (q * 2 ^ j)) ∙ mul_assoc (q * 2 ^ j) 2 (2 ^ low f))

  -- w ≤ 2 a
  pub whole_le : (w : ℕ) → w ≤ q * 2 ^ suc j → whole f w ≤ q * 2 ^ suc j
  whole_le w h =
      le_trans (grid_mono f w (2 ^ low f) (q * 2 ^ suc j) (2 ^ low f) (pow_pos (low f)) (pow_pos (low f)) (mul-le-mul_right (2 ^ low f) h) (subst (λ (z : ℕ). z < overflow f) (sym whole_exact) fine))
      (le_of_eq whole_exact)

  pub half_le : (w : ℕ) → w ≤ q * 2 ^ suc j → half f w ≤ q * 2 ^ j
  half_le w h =
      le_trans
      (grid_mono f (whole f w) (2 * 2 ^ low f) (q * 2 ^ suc j) (2 * 2 ^ low f) (two_pos (low f)) (two_pos (low f)) (mul-le-mul_right (2 * 2 ^ low f) (whole_le w h)) (subst (λ (z : ℕ). z < overflow f) (sym half_exact) fine'))
      (le_of_eq half_exact)

  pub half_ge : (w : ℕ) → q * 2 ^ suc j ≤ w → whole f w < overflow f → half f w < overflow f → q * 2 ^ j ≤ half f w
  half_ge w h o o' =
      le_trans (le_of_eq (sym half_exact))
      (grid_mono f (q * 2 ^ suc j) (2 * 2 ^ low f) (whole f w) (2 * 2 ^ low f) (two_pos (low f)) (two_pos (low f))
      (mul-le-mul_right (2 * 2 ^ low f)
      (le_trans (le_of_eq (sym whole_exact)) (grid_mono f (q * 2 ^ suc j) (2 ^ low f) w (2 ^ low f) (pow_pos (low f)) (pow_pos (low f)) (mul-le-mul_right (2 ^ low f) h) o)))
      o')
