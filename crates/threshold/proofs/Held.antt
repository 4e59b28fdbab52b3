-- What a format holds: every finite value is ±q * 2 ^ j of the format's smallest values, with q of no more digits than the format keeps.
-- So its rank is a plain number of such units, and the comparisons of finite values are those of their ranks. Assumes nothing.
use mathlib.Core.Path.{◌≡◌, refl, sym, ap, ap₂, ◌∙◌, subst, subst₂}
use Prim.Native.Nat.{ℕ, zero, suc, ◌+◌, ◌-◌, ◌*◌, ◌/◌, ◌%◌, ◌^◌, ◌≤◌, ◌<◌}
use native.Mathlib.Nat.{le_of_lt, lt_of_lt_of_le, le_of_suc-le-suc, lt_of_not-le, not-le_of_lt, zero-mul, mul-one, mul_assoc, mul_comm, mul-lt-mul_of_pos_right, mul-div_cancel}
use native.Mathlib.Omega.{arith}
use mathlib.Core.Bool.{Bool, ◌&&◌}
use lib.IntN.{ℤ, pos, negsuc}
use lib.Dec.{T, leb, ltb, eqb, leb→le, ltb→lt}
use lib.Pow.{pow-add, pow_pos, pow_mono, pow-lt, shl_lt}
use lib.Ieee.{Float, nan, inf, fin, Format, prec, emax, low, up, down, lt, eq, fits}
use lib.Ieee.Digits.{back}
use lib.Ieee.Fits.{and_l, and_r, down_pos, reach}
use lib.Ieee.Exact.{HasValue}
use lib.Ieee.Scale.{overflow, finite}
use Rattle.threshold.specs.Order.{rank_at, rank}
use Rattle.threshold.proofs.Compare.{lt_is, eq_is, below_place, level_place}

pub record Held (f : Format) (x : Float) : Type 0 where
  pub sign : Bool
  pub digits : ℕ
  pub shift : ℕ
  pub small : digits < 2 ^ prec f
  pub fine : digits * 2 ^ shift < overflow f
  pub value : HasValue x sign (digits * 2 ^ shift) (2 ^ low f)

-- the four parts of `fits`
module _ (f : Format) (s : Bool) (m : ℕ) (e : ℤ) (t : T (fits f (fin s (suc m) e))) where
  parts : T (eqb (suc m % 2) 1 && ltb (suc m) (2 ^ prec f) && leb (down e) (2 ^ low f) && ltb (suc m * up e) (2 ^ suc (emax f) * down e))
  unfolding fits
  parts = t

  few : suc m < 2 ^ prec f
  few = ltb→lt (suc m) (2 ^ prec f) (and_r (eqb (suc m % 2) 1) (ltb (suc m) (2 ^ prec f)) (and_l (eqb (suc m % 2) 1 && ltb (suc m) (2 ^ prec f)) (leb (down e) (2 ^ low f)) (and_l (eqb (suc m % 2) 1 && ltb (suc m) (2 ^ prec f) && leb (down e) (2 ^ low f)) (ltb (suc m * up e) (2 ^ suc (emax f) * down e)) parts)))

  not_too_low : down e ≤ 2 ^ low f
  not_too_low = leb→le (down e) (2 ^ low f) (and_r (eqb (suc m % 2) 1 && ltb (suc m) (2 ^ prec f)) (leb (down e) (2 ^ low f)) (and_l (eqb (suc m % 2) 1 && ltb (suc m) (2 ^ prec f) && leb (down e) (2 ^ low f)) (ltb (suc m * up e) (2 ^ suc (emax f) * down e)) parts))

  not_too_high : suc m * up e < 2 ^ suc (emax f) * down e
  not_too_high = ltb→lt (suc m * up e) (2 ^ suc (emax f) * down e) (and_r (eqb (suc m % 2) 1 && ltb (suc m) (2 ^ prec f) && leb (down e) (2 ^ low f)) (ltb (suc m * up e) (2 ^ suc (emax f) * down e)) parts)

exponent_le : (i j : ℕ) → 2 ^ i ≤ 2 ^ j → i ≤ j
exponent_le i j h = le_of_suc-le-suc (lt_of_not-le (λ (g : suc j ≤ i). not-le_of_lt (pow-lt g) h))

up_fine : (m k l E : ℕ) → m * 2 ^ k < 2 ^ E * 1 → m * 2 ^ (k + l) < 2 ^ (l + E)
up_fine m k l E h =
    subst₂ (λ (x y : ℕ). x < y) (mul_assoc m (2 ^ k) (2 ^ l) ∙ ap (λ (z : ℕ). m * z) (sym (pow-add 2 k l))) (mul_comm (2 ^ E) (2 ^ l) ∙ sym (pow-add 2 l E))
    (mul-lt-mul_of_pos_right (subst (λ (z : ℕ). m * 2 ^ k < z) (mul-one (2 ^ E)) h) (pow_pos l))

down_room : (p l k E : ℕ) → p ≤ E → k ≤ l → p + (l - k) ≤ l + E
down_room p l k E h g = omega arith

pub held : (f : Format) (x : Float) → T (finite x) → T (fits f x) → Held f x
held f nan n t = absurd n
held f (inf s) n t = absurd n
held f (fin s zero e) n t =
    record { sign = s; digits = 0; shift = 0; small = pow_pos (prec f); fine = pow_pos (low f + suc (emax f)); value = (refl, ap (λ (z : ℕ). z * 2 ^ low f) (zero-mul (up e)) ∙ zero-mul (2 ^ low f) ∙ sym (zero-mul (down e))) }
held f (fin s (suc m) (pos k)) n t =
    record {
      sign = s;
      digits = suc m;
      shift = k + low f;
      small = few f s m (pos k) t;
      fine = up_fine (suc m) k (low f) (suc (emax f)) (not_too_high f s m (pos k) t);
      value = (refl, mul_assoc (suc m) (2 ^ k) (2 ^ low f) ∙ ap (λ (z : ℕ). suc m * z) (sym (pow-add 2 k (low f))) ∙ sym (mul-one (suc m * 2 ^ (k + low f))));
    }
held f (fin s (suc m) (negsuc k)) n t =
    let h : suc k ≤ low f = exponent_le (suc k) (low f) (not_too_low f s m (negsuc k) t) in
    record {
      sign = s;
      digits = suc m;
      shift = low f - suc k;
      small = few f s m (negsuc k) t;
      fine = lt_of_lt_of_le (shl_lt (prec f) (low f - suc k) (few f s m (negsuc k) t)) (pow_mono (down_room (prec f) (low f) (suc k) (suc (emax f)) (reach f) h));
      value = (refl, ap (λ (z : ℕ). z * 2 ^ low f) (mul-one (suc m)) ∙ ap (λ (z : ℕ). suc m * z) (ap (λ (z : ℕ). 2 ^ z) (sym (back (low f) (suc k) h)) ∙ pow-add 2 (low f - suc k) (suc k)) ∙ sym (mul_assoc (suc m) (2 ^ (low f - suc k)) (2 ^ suc k)));
    }

-- ---- the rank of a value, by its size

pub rank_is : (f : Format) (x : Float) (s : Bool) (a : ℕ) → HasValue x s a (2 ^ low f) → rank f x ≡ rank_at (overflow f) s a
unfolding rank
rank_is f nan s a h = absurd h
rank_is f (inf u) s a h = absurd h
rank_is f (fin u m e) s a h = ap₂ (λ (i : Bool) (z : ℕ). rank_at (overflow f) i z) h.0 (ap (λ (z : ℕ). z / down e) h.1 ∙ mul-div_cancel a (down_pos e))

pub rank_of : (f : Format) (x : Float) (h : Held f x) → rank f x ≡ rank_at (overflow f) h.sign (h.digits * 2 ^ h.shift)
rank_of f x h = rank_is f x h.sign (h.digits * 2 ^ h.shift) h.value

module _ (f : Format) (x y : Float) (h : Held f x) (k : Held f y) where
  lt_held : lt x y ≡ ltb (rank f x) (rank f y)
  lt_held =
      lt_is (2 ^ low f) (pow_pos (low f)) x y h.sign k.sign (h.digits * 2 ^ h.shift) (k.digits * 2 ^ k.shift) h.value k.value
      ∙ below_place (overflow f) h.sign k.sign (h.digits * 2 ^ h.shift) (k.digits * 2 ^ k.shift) (le_of_lt h.fine) (le_of_lt k.fine)
      ∙ sym (ap₂ (λ (i j : ℕ). ltb i j) (rank_of f x h) (rank_of f y k))

  eq_held : eq x y ≡ eqb (rank f x) (rank f y)
  eq_held =
      eq_is (2 ^ low f) (pow_pos (low f)) x y h.sign k.sign (h.digits * 2 ^ h.shift) (k.digits * 2 ^ k.shift) h.value k.value
      ∙ level_place (overflow f) h.sign k.sign (h.digits * 2 ^ h.shift) (k.digits * 2 ^ k.shift) (le_of_lt h.fine) (le_of_lt k.fine)
      ∙ sym (ap₂ (λ (i j : ℕ). eqb i j) (rank_of f x h) (rank_of f y k))

-- ---- the comparisons of finite values of a format are those of their ranks
module _ (f : Format) (x y : Float) (X : T (finite x)) (Y : T (finite y)) (i : T (fits f x)) (j : T (fits f y)) where
  pub lt_rank : lt x y ≡ ltb (rank f x) (rank f y)
  lt_rank = lt_held f x y (held f x X i) (held f y Y j)

  pub eq_rank : eq x y ≡ eqb (rank f x) (rank f y)
  eq_rank = eq_held f x y (held f x X i) (held f y Y j)
