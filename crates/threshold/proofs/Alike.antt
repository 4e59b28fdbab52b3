-- Two values of a format that are equal are the same value, or both zeros: a value is told by its sign and its size. Assumes nothing.
use mathlib.Core.Path.{◌≡◌, refl, sym, ap, ap₂, ◌∙◌, subst}
use Prim.Native.Nat.{ℕ, ◌+◌, ◌-◌, ◌*◌, ◌/◌, ◌^◌}
use native.Mathlib.Nat.{zero-mul, mul-div_cancel}
use mathlib.Core.Bool.{Bool, true, false, cond}
use lib.IntN.{pos}
use lib.Dec.{T, eqb, eqb→eq}
use lib.Pow.{pow_pos}
use lib.Ieee.{Float, nan, inf, fin, Format, prec, low, down, level, size, eq, fits, top, hid, to_bits, of_bits}
use lib.Ieee.Bits.{of_bits-to_bits}
use lib.Ieee.Fits.{and_l, and_r, down_pos}
use lib.Ieee.Exact.{HasValue}
use Rattle.threshold.proofs.Compare.{eq_is}
use Rattle.threshold.proofs.Held.{held}

-- ---- a value of a format is told by its sign and its size in units, as its bit pattern is
abbrev pattern : Format → Bool → ℕ → ℕ
pattern f s n = cond s (top f) 0 + (size n - prec f) * hid f + n / 2 ^ (size n - prec f)

to_bits_is : (f : Format) (x : Float) (s : Bool) (a : ℕ) → HasValue x s a (2 ^ low f) → to_bits f x ≡ pattern f s a
unfolding to_bits
to_bits_is f nan s a h = absurd h
to_bits_is f (inf u) s a h = absurd h
to_bits_is f (fin u m e) s a h = ap₂ (λ (i : Bool) (n : ℕ). pattern f i n) h.0 (ap (λ (z : ℕ). z / down e) h.1 ∙ mul-div_cancel a (down_pos e))

pub same_value : (f : Format) (x y : Float) (s : Bool) (a : ℕ) → T (fits f x) → T (fits f y) → HasValue x s a (2 ^ low f) → HasValue y s a (2 ^ low f) → x ≡ y
same_value f x y s a i j h k = sym (of_bits-to_bits f x i) ∙ ap (of_bits f) (to_bits_is f x s a h ∙ sym (to_bits_is f y s a k)) ∙ of_bits-to_bits f y j

-- ---- equal values: the same one, or two zeros
abbrev pub null : Bool → Float
null s = fin s 0 (pos 0)

pub data Alike (x y : Float) : Type 0 where
  same : x ≡ y → Alike x y
  zeros : (s t : Bool) → x ≡ null s → y ≡ null t → Alike x y

pub null_value : (f : Format) (s : Bool) → HasValue (null s) s 0 (2 ^ low f)
null_value f s = (refl, zero-mul (2 ^ low f))

pub null_fits : (f : Format) (s : Bool) → T (fits f (null s))
unfolding fits
null_fits f s = tt

alike_sizes : (f : Format) (x y : Float) → T (fits f x) → T (fits f y) → (s t : Bool) (a b : ℕ) → HasValue x s a (2 ^ low f) → HasValue y t b (2 ^ low f) → T (level s a t b) → Alike x y
alike_sizes f x y i j s t a b h k l = go s t h k l
  where
    two_zeros : (s t : Bool) → HasValue x s a (2 ^ low f) → HasValue y t b (2 ^ low f) → a ≡ b → a ≡ 0 → Alike x y
    two_zeros s t h k e z =
        zeros s t (same_value f x (null s) s 0 i (null_fits f s) (subst (λ (n : ℕ). HasValue x s n (2 ^ low f)) z h) (null_value f s))
        (same_value f y (null t) t 0 j (null_fits f t) (subst (λ (n : ℕ). HasValue y t n (2 ^ low f)) (sym e ∙ z) k) (null_value f t))

    go : (s t : Bool) → HasValue x s a (2 ^ low f) → HasValue y t b (2 ^ low f) → T (level s a t b) → Alike x y
    go true true h k l = same (same_value f x y true a i j h (rw (eqb→eq a b (and_l (eqb a b) true l)) k))
    go false false h k l = same (same_value f x y false a i j h (rw (eqb→eq a b (and_l (eqb a b) true l)) k))
    go true false h k l = two_zeros true false h k (eqb→eq a b (and_l (eqb a b) (eqb a 0) l)) (eqb→eq a 0 (and_r (eqb a b) (eqb a 0) l))
    go false true h k l = two_zeros false true h k (eqb→eq a b (and_l (eqb a b) (eqb a 0) l)) (eqb→eq a 0 (and_r (eqb a b) (eqb a 0) l))

pub alike : (f : Format) (x y : Float) → T (fits f x) → T (fits f y) → T (eq x y) → Alike x y
alike f nan y i j t = absurd (unfold eq in t)
alike f (inf s) nan i j t = absurd (unfold eq in t)
alike f (inf true) (inf true) i j t = same refl
alike f (inf true) (inf false) i j t = absurd (unfold eq in t)
alike f (inf false) (inf true) i j t = absurd (unfold eq in t)
alike f (inf false) (inf false) i j t = same refl
alike f (inf s) (fin u n d) i j t = absurd (unfold eq in t)
alike f (fin s m e) nan i j t = absurd (unfold eq in t)
alike f (fin s m e) (inf u) i j t = absurd (unfold eq in t)
alike f (fin s m e) (fin u n d) i j t =
    let h = held f (fin s m e) tt i in
    let k = held f (fin u n d) tt j in
    let a = h.digits * 2 ^ h.shift in
    let b = k.digits * 2 ^ k.shift in
    alike_sizes f (fin s m e) (fin u n d) i j h.sign k.sign a b h.value k.value
    (subst T (eq_is (2 ^ low f) (pow_pos (low f)) (fin s m e) (fin u n d) h.sign k.sign a b h.value k.value) t)
