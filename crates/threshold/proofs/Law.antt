-- A threshold lies from its lower value on and below its upper one. Assumes nothing.
use mathlib.Core.Path.{refl, sym, ap, ◌∙◌, subst}
use Prim.Native.Nat.{ℕ, suc, ◌+◌, ◌-◌, ◌*◌, ◌^◌, ◌≤◌, ◌<◌}
use native.Mathlib.Nat.{le_refl, le_trans, le_of_eq, le_of_lt, lt_of_le_of_lt, one-mul, pow-succ'}
use native.Mathlib.Omega.{arith}
use mathlib.Core.Bool.{Bool, true, false, ◌&&◌, cond}
use lib.Dec.{T, ltb, leb→le, le→leb, ltb→lt, lit<, lit≤}
use lib.Pow.{pow_pos, pow-lt}
use lib.Ieee.{Float, nan, inf, fin, Format, binary64, prec, emax, low, below, add, div, lt, le}
use lib.Ieee.Fits.{and_l, and_r, two, two-le_pos}
use lib.Ieee.Exact.{HasValue}
use lib.Ieee.Scale.{overflow, finite}
use Rattle.threshold.specs.Order.{comparable, rank_at, key}
use Rattle.threshold.proofs.Compare.{lt_is, le_places}
use Rattle.threshold.proofs.Held.{Held, held}
use Rattle.threshold.proofs.Keys.{finite_comparable, →le}
use Rattle.threshold.proofs.Rounding.{whole, half, twice, whole_le, half_le, half_ge}
use Rattle.threshold.proofs.Midpoint.{sign_of, size_of, size_le, midpoint_is}
use Rattle.threshold.specs.Threshold as spec
use Rattle.threshold.specs.Threshold.{midpoint_of, threshold_of, lowest_value, largest_value, within}
use Rattle.threshold.specs.Laws.{Measured, Between}

-- ---- nothing overflows up to 2 ^ J units in each operand
module _ (f : Format) (J : ℕ) (room : suc J < low f + suc (emax f)) where
  one_small : 1 < 2 ^ prec f
  one_small = pow-lt {i = 0} (two-le_pos (prec f) (two f))

  one_fine : 1 * 2 ^ suc J < overflow f
  one_fine = subst (λ (z : ℕ). z < overflow f) (sym (one-mul (2 ^ suc J))) (pow-lt room)

  within_double : (w : ℕ) → w ≤ 2 * 2 ^ J → w ≤ 1 * 2 ^ suc J
  within_double w h = le_trans h (le_of_eq (sym (one-mul (2 ^ suc J) ∙ pow-succ' 2 J)))

  whole_fine : (w : ℕ) → w ≤ 2 * 2 ^ J → whole f w < overflow f
  whole_fine w h = lt_of_le_of_lt (whole_le f 1 J one_small one_fine w (within_double w h)) one_fine

  half_fine : (w : ℕ) → w ≤ 2 * 2 ^ J → half f w < overflow f
  half_fine w h = lt_of_le_of_lt (half_le f 1 J one_small one_fine w (within_double w h)) (smaller (2 ^ J) (subst (λ (z : ℕ). z < overflow f) (twice 1 J ∙ ap (λ (z : ℕ). 2 * z) (one-mul (2 ^ J))) one_fine))
    where
      smaller : (z : ℕ) → 2 * z < overflow f → 1 * z < overflow f
      smaller z h = omega arith

  digits_fine : (q j : ℕ) → q * 2 ^ j ≤ 2 ^ J → q * 2 ^ suc j < overflow f
  digits_fine q j h = lt_of_le_of_lt (le_trans (le_of_eq (twice q j)) (doubled (q * 2 ^ j) (2 ^ J) h)) (subst (λ (z : ℕ). z < overflow f) (pow-succ' 2 J) (pow-lt room))
    where
      doubled : (x y : ℕ) → x ≤ y → 2 * x ≤ 2 * y
      doubled x y h = omega arith

-- ---- on signed sizes
module _ (f : Format) (q j b Z : ℕ) (small : q < 2 ^ prec f) (fine : q * 2 ^ suc j < overflow f) (A : q * 2 ^ j ≤ Z) where
  double : (w : ℕ) → 2 * (q * 2 ^ j) ≤ w → q * 2 ^ suc j ≤ w
  double w h = le_trans (le_of_eq (twice q j)) h

  double' : (w : ℕ) → w ≤ 2 * (q * 2 ^ j) → w ≤ q * 2 ^ suc j
  double' w h = le_trans h (le_of_eq (sym (twice q j)))

  lower_first : (s t : Bool) → T (below s (q * 2 ^ j) t b) → whole f (size_of s (q * 2 ^ j) t b) < overflow f → half f (size_of s (q * 2 ^ j) t b) < overflow f
      → rank_at Z s (q * 2 ^ j) ≤ rank_at Z (sign_of s (q * 2 ^ j) t b) (half f (size_of s (q * 2 ^ j) t b))
  lower_first false false d o o' =
      let a = q * 2 ^ j in
      let l : a < b = ltb→lt a b d in
      omega (arith, half_ge f q j small fine (a + b) (double (a + b) (omega arith)) o o')
  lower_first false true d o o' = absurd d
  lower_first true false d o o' = go (ltb (q * 2 ^ j) b) (ltb b (q * 2 ^ j))
    where
      go : (i k : Bool) → rank_at Z true (q * 2 ^ j) ≤ rank_at Z (cond i false (true && k)) (half f (cond i (b - q * 2 ^ j) (q * 2 ^ j - b)))
      go true k = omega arith
      go false true = omega (arith, half_le f q j small fine (q * 2 ^ j - b) (double' (q * 2 ^ j - b) (omega arith)))
      go false false = omega arith
  lower_first true true d o o' =
      let a = q * 2 ^ j in
      let l : b < a = ltb→lt b a d in
      omega (arith, half_le f q j small fine (a + b) (double' (a + b) (omega arith)))

-- ---- on values
module _ (f : Format) (J : ℕ) (room : suc J < low f + suc (emax f)) where
  pub le_midpoint : (x y : Float) (h : Held f x) (t : Bool) (b : ℕ) → HasValue y t b (2 ^ low f) → h.digits * 2 ^ h.shift ≤ 2 ^ J → b ≤ 2 ^ J → T (lt x y)
      → T (le x (div f (add f x y) spec.two))
  le_midpoint x y h t b k A B l =
      let s = h.sign in
      let a = h.digits * 2 ^ h.shift in
      let w = size_of s a t b in
      let L = 2 ^ low f in
      let W : w ≤ 2 * 2 ^ J = omega (arith, size_le s t a b) in
      let o : whole f w < overflow f = whole_fine f J room w W in
      let o' : half f w < overflow f = half_fine f J room w W in
      let v : HasValue (div f (add f x y) spec.two) (sign_of s a t b) (half f w) L = midpoint_is f x y s t a b h.value k o o' in
      let d : T (below s a t b) = subst T (lt_is L (pow_pos (low f)) x y s t a b h.value k) l in
      subst T (sym (le_places L (pow_pos (low f)) x (div f (add f x y) spec.two) s (sign_of s a t b) a (half f w) h.value v (overflow f) (le_of_lt h.fine) (le_of_lt o')))
      (le→leb (rank_at (overflow f) s a) (rank_at (overflow f) (sign_of s a t b) (half f w))
      (lower_first f h.digits h.shift b (overflow f) h.small (digits_fine f J room h.digits h.shift A) (le_of_lt h.fine) s t d o o'))

-- ---- magnitudes up to 10 ^ 12
-- x lies from -m / c to m / c
size_within : (c : ℕ) → 0 < c → (x lo hi : Float) (s : Bool) (a m : ℕ) → HasValue x s a c → HasValue lo true m c → HasValue hi false m c → T (le lo x) → T (le x hi) → a ≤ m
size_within c C x lo hi s a m h k l below above = go s h
  where
    go : (u : Bool) → HasValue x u a c → a ≤ m
    go true v = omega (arith, leb→le (a + m - m) (a + m - a) (subst T (le_places c C lo x true true m a k v (a + m) (omega arith) (omega arith)) below))
    go false v = omega (arith, leb→le (a + m + a) (a + m + m) (subst T (le_places c C x hi false false a m v l (a + m) (omega arith) (omega arith)) above))

-- 10 ^ 12 in units of 2 ^ -1074
abbrev most : ℕ
most = 1000000000000 * 2 ^ 1074

lo_value : HasValue lowest_value true most (2 ^ 1074)
lo_value = (refl, refl)

hi_value : HasValue largest_value false most (2 ^ 1074)
hi_value = (refl, refl)

pub within_finite : (x : Float) → T (within x) → T (finite x)
unfolding within le
within_finite nan t = absurd t
within_finite (inf true) t = absurd t
within_finite (inf false) t = absurd t
within_finite (fin s m e) t = tt

within_size : (x : Float) (s : Bool) (a : ℕ) → HasValue x s a (2 ^ 1074) → T (within x) → a ≤ 2 ^ 1114
unfolding within
within_size x s a h t =
    le_trans
    (size_within (2 ^ 1074) (pow_pos 1074) x lowest_value largest_value s a most h lo_value hi_value (and_l (le lowest_value x) (le x largest_value) t) (and_r (le lowest_value x) (le x largest_value) t))
    (lit≤ tt)

lower_le_midpoint : (x y : Float) → Measured x → Measured y → T (lt x y) → T (le x (midpoint_of x y))
unfolding midpoint_of
lower_le_midpoint x y X Y l =
    let h = held binary64 x (within_finite x X.limited) X.double in
    let k = held binary64 y (within_finite y Y.limited) Y.double in
    le_midpoint binary64 1114 (lit< tt) x y h k.sign (k.digits * 2 ^ k.shift) k.value
    (within_size x h.sign (h.digits * 2 ^ h.shift) h.value X.limited) (within_size y k.sign (k.digits * 2 ^ k.shift) k.value Y.limited) l

-- ---- the law

-- a value of a sheet has a place in the order
pub measured_comparable : (x : Float) → Measured x → T (comparable x)
measured_comparable x m = finite_comparable x (within_finite x m.limited) m.double

picked : (b : Bool) (lower upper mid : Float) → (T b → T (lt mid upper)) → T (le lower mid) → T (le lower lower) → T (lt lower upper)
    → T (le lower (cond b mid lower)) × T (lt (cond b mid lower) upper)
picked true lower upper mid h a r l = (a, h tt)
picked false lower upper mid h a r l = (r, l)

pub between : Between
unfolding threshold_of
between lower upper X Y l =
    let i : T (comparable lower) = measured_comparable lower X in
    picked (lt (midpoint_of lower upper) upper) lower upper (midpoint_of lower upper) (λ t. t) (lower_le_midpoint lower upper X Y l)
    (→le lower lower i i (le_refl (key lower))) l
