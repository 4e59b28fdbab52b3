-- `threshold_of` does not tell 0.0 from -0.0: an upper value may be replaced by an equal one, and so may a lower value that is below a finite upper one.
-- Assumes nothing.
use mathlib.Core.Path.{◌≡◌, refl, sym, ap, ◌∙◌, subst}
use Prim.Native.Nat.{ℕ, zero, suc, ◌+◌, ◌*◌, ◌^◌, ◌≤◌, ◌<◌}
use native.Mathlib.Nat.{le_of_lt, lt_of_lt_of_le, lt_of_le_of_lt, zero-lt-suc, lt_irrefl, le-suc, zero-mul, add-zero, zero-add, sub-zero, mul-pos}
use native.Mathlib.Omega.{arith}
use mathlib.Core.Bool.{Bool, true, false, cond}
use lib.IntN.{ℤ, pos}
use lib.Dec.{T, ltb, ltb→lt, lt→ltb, lit<, lit≤}
use lib.Pow.{pow_pos, shl_lt}
use lib.Ieee.{Float, nan, inf, fin, Format, binary64, low, up, down, below, size, round, sum, add, div, lt, fits}
use lib.Ieee.Bits.{is_true}
use lib.Ieee.Positive.{first_pos, value_pos}
use lib.Ieee.Fits.{up_pos, down_pos}
use lib.Ieee.Exact.{HasValue}
use lib.Ieee.Scale.{grid, overflow, finite}
use Rattle.basics.proofs.Choice.{same_bool}
use Rattle.threshold.proofs.Compare.{lt_is}
use Rattle.threshold.proofs.Held.{held}
use Rattle.threshold.proofs.Alike.{Alike, alike, same, zeros, null, null_value, null_fits, same_value}
use Rattle.threshold.proofs.Rounding.{whole, half, grid_exact, half_exact, half_le, twice}
use Rattle.threshold.proofs.Midpoint.{add_is, midpoint_is}
use Rattle.threshold.specs.Threshold as spec
use Rattle.threshold.specs.Threshold.{threshold_of}
use Rattle.threshold.specs.Laws.{EitherZeroUpper, EitherZeroLower}
use Rattle.threshold.proofs.Law.{within_finite}

-- ---- a zero added to another number, on either side
own : (s : Bool) (m : ℕ) (e : ℤ) → HasValue (fin s m e) s (m * up e) (down e)
own s m e = (refl, refl)

null_own : (u : Bool) (c : ℕ) → HasValue (null u) u 0 c
null_own u c = (refl, zero-mul c)

none_under : (a : ℕ) → ltb a 0 ≡ false
none_under a = same_bool (ltb a 0) false (λ t. no (ltb→lt a 0 t)) (λ t. absurd t)
  where
    no : a < 0 → ⊥
    no h = omega arith

some_over : (a : ℕ) → 0 < a → ltb 0 a ≡ true
some_over a h = same_bool (ltb 0 a) true (λ t. tt) (λ t. lt→ltb 0 a h)

sum_null : (f : Format) (s u : Bool) (a c : ℕ) → 0 < a → sum f s a u 0 c ≡ round f s a c
unfolding sum
sum_null f true true a c h = ap (λ (z : ℕ). round f true z c) (add-zero a)
sum_null f false false a c h = ap (λ (z : ℕ). round f false z c) (add-zero a)
sum_null f true false a c h = simp (none_under, some_over, sub-zero)
sum_null f false true a c h = simp (none_under, sub-zero)

null_sum : (f : Format) (s u : Bool) (a c : ℕ) → 0 < a → sum f u 0 s a c ≡ round f s a c
unfolding sum
null_sum f true true a c h = ap (λ (z : ℕ). round f true z c) (zero-add a)
null_sum f false false a c h = ap (λ (z : ℕ). round f false z c) (zero-add a)
null_sum f true false a c h = simp (some_over, sub-zero)
null_sum f false true a c h = simp (some_over, sub-zero)

add_null : (s u : Bool) (m : ℕ) (e : ℤ) → add binary64 (fin s (suc m) e) (null u) ≡ round binary64 s (suc m * up e) (down e)
add_null s u m e =
    add_is binary64 (fin s (suc m) e) (null u) s u (suc m * up e) 0 (down e) (down_pos e) (own s (suc m) e) (null_own u (down e))
    ∙ sum_null binary64 s u (suc m * up e) (down e) (mul-pos (zero-lt-suc m) (up_pos e))

null_add : (s u : Bool) (m : ℕ) (e : ℤ) → add binary64 (null u) (fin s (suc m) e) ≡ round binary64 s (suc m * up e) (down e)
null_add s u m e =
    add_is binary64 (null u) (fin s (suc m) e) u s 0 (suc m * up e) (down e) (down_pos e) (null_own u (down e)) (own s (suc m) e)
    ∙ null_sum binary64 s u (suc m * up e) (down e) (mul-pos (zero-lt-suc m) (up_pos e))

-- ---- the upper value
lt_null : (x : Float) (u v : Bool) → lt x (null u) ≡ lt x (null v)
lt_null nan u v = unfold lt in refl
lt_null (inf s) u v = unfold lt in refl
lt_null (fin s m e) u v =
    let r : (w : Bool) → lt (fin s m e) (null w) ≡ below s (m * up e) w 0 = λ w. lt_is (down e) (down_pos e) (fin s m e) (null w) s w (m * up e) 0 (own s m e) (null_own w (down e)) in
    r u ∙ either s u v (m * up e) ∙ sym (r v)
  where
    either : (s u v : Bool) (a : ℕ) → below s a u 0 ≡ below s a v 0
    either true true true a = refl
    either true true false a = ap (λ (z : ℕ). ltb 0 z) (sym (add-zero a))
    either true false true a = ap (λ (z : ℕ). ltb 0 z) (add-zero a)
    either true false false a = refl
    either false true true a = refl
    either false true false a = sym (none_under a)
    either false false true a = none_under a
    either false false false a = refl

abbrev from_sum : Float → Float → Float → Float
from_sum lower upper s = cond (lt (div binary64 s spec.two) upper) (div binary64 s spec.two) lower

threshold_is : (lower upper : Float) → threshold_of lower upper ≡ from_sum lower upper (add binary64 lower upper)
unfolding threshold_of
threshold_is lower upper = refl

nulls : (s u : Bool) → threshold_of (null s) (null u) ≡ null s
unfolding threshold_of add div lt
nulls true true = refl
nulls true false = refl
nulls false true = refl
nulls false false = refl

zero_value : (f : Format) (s : Bool) (e : ℤ) → HasValue (fin s 0 e) s 0 (2 ^ low f)
zero_value f s e = (refl, ap (λ (z : ℕ). z * 2 ^ low f) (zero-mul (up e)) ∙ zero-mul (2 ^ low f) ∙ sym (zero-mul (down e)))

upper_null : (lower : Float) (u v : Bool) → T (fits binary64 lower) → threshold_of lower (null u) ≡ threshold_of lower (null v)
upper_null nan u v i = unfold threshold_of add div lt in refl
upper_null (inf s) u v i = unfold threshold_of add div lt in refl
upper_null (fin s zero e) u v i =
    let z : fin s 0 e ≡ null s = same_value binary64 (fin s 0 e) (null s) s 0 i (null_fits binary64 s) (zero_value binary64 s e) (null_value binary64 s) in
    ap (λ (x : Float). threshold_of x (null u)) z ∙ nulls s u ∙ sym (nulls s v) ∙ ap (λ (x : Float). threshold_of x (null v)) (sym z)
upper_null (fin s (suc m) e) u v i =
    let lower = fin s (suc m) e in
    let r = round binary64 s (suc m * up e) (down e) in
    threshold_is lower (null u)
    ∙ ap (from_sum lower (null u)) (add_null s u m e)
    ∙ ap (λ (b : Bool). cond b (div binary64 r spec.two) lower) (lt_null (div binary64 r spec.two) u v)
    ∙ ap (from_sum lower (null v)) (sym (add_null s v m e))
    ∙ sym (threshold_is lower (null v))

pub upper_alike : (lower x y : Float) → T (fits binary64 lower) → Alike x y → threshold_of lower x ≡ threshold_of lower y
upper_alike lower x y i (same p) = ap (threshold_of lower) p
upper_alike lower x y i (zeros s t p q) = ap (threshold_of lower) p ∙ upper_null lower s t i ∙ ap (threshold_of lower) (sym q)

-- ---- the lower value: half of a value above zero is below it
exact : (q j : ℕ) → q < 2 ^ 53 → q * 2 ^ j < overflow binary64 → whole binary64 (q * 2 ^ j) ≡ q * 2 ^ j
exact q j small fine = grid_exact binary64 (q * 2 ^ j) (2 ^ 1074) q j (pow_pos 1074) small fine refl

least : half binary64 1 ≡ 0
unfolding size
least = refl

positive : (q j : ℕ) → 0 < q → q * 2 ^ j < q * 2 ^ suc j
positive q j h = doubled (q * 2 ^ j) (q * 2 ^ suc j) (mul-pos h (pow_pos j)) (twice q j)
  where
    doubled : (x y : ℕ) → 0 < x → y ≡ 2 * x → x < y
    doubled x y h e = omega arith

small_fine : (q : ℕ) → q < 2 ^ 53 → q * 2 ^ 1 < overflow binary64
small_fine q h = lt_of_lt_of_le (shl_lt 53 1 h) (lit≤ tt)

half_lt : (q j : ℕ) → 0 < q → q < 2 ^ 53 → q * 2 ^ j < overflow binary64 → half binary64 (q * 2 ^ j) < q * 2 ^ j
half_lt q (suc j) h small fine =
    subst (λ (z : ℕ). z < q * 2 ^ suc j)
    (sym (ap (λ (w : ℕ). grid binary64 w (2 * 2 ^ 1074)) (exact q (suc j) small fine) ∙ half_exact binary64 q j small fine)) (positive q j h)
half_lt zero zero h small fine = absurd (lt_irrefl 0 h)
half_lt (suc zero) zero h small fine = subst (λ (z : ℕ). z < 1) (sym least) (lit< tt)
half_lt (suc (suc p)) zero h small fine =
    let s' : suc p < 2 ^ 53 = lt_of_le_of_lt (le-suc (suc p)) small in
    let w : suc (suc p) * 1 ≤ suc p * 2 = omega arith in
    lt_of_le_of_lt (half_le binary64 (suc p) 0 s' (small_fine (suc p) s') (suc (suc p) * 1) w) (next p)
  where
    next : (p : ℕ) → suc p * 1 < suc (suc p) * 1
    next p = omega arith

-- in units, a value above zero is q * 2 ^ j with q above zero
mid_below : (n : ℕ) (d : ℤ) → T (fits binary64 (fin false (suc n) d)) → T (lt (div binary64 (add binary64 (null false) (fin false (suc n) d)) spec.two) (fin false (suc n) d))
mid_below n d i =
    let upper = fin false (suc n) d in
    let h = held binary64 upper tt i in
    let q = h.digits in
    let j = h.shift in
    let b = q * 2 ^ j in
    let v : HasValue upper false b (2 ^ 1074) = subst (λ (s : Bool). HasValue upper s b (2 ^ 1074)) (sym h.value.0) h.value in
    let Q : 0 < q = first_pos q (2 ^ j) (value_pos upper b (2 ^ 1074) (lt→ltb 0 (suc n) (zero-lt-suc n)) (pow_pos 1074) v) in
    let l : half binary64 b < b = half_lt q j Q h.small h.fine in
    let mid = div binary64 (add binary64 (null false) upper) spec.two in
    let m : HasValue mid false (half binary64 (0 + b)) (2 ^ 1074) =
    midpoint_is binary64 (null false) upper false false 0 b (null_value binary64 false) v
    (rw zero-add (subst (λ (z : ℕ). z < overflow binary64) (sym (exact q j h.small h.fine)) h.fine))
    (rw zero-add (lt_of_le_of_lt (le_of_lt l) h.fine)) in
    let m' : HasValue mid false (half binary64 b) (2 ^ 1074) = subst (λ (z : ℕ). HasValue mid false (half binary64 z) (2 ^ 1074)) (zero-add b) m in
    subst T (sym (lt_is (2 ^ 1074) (pow_pos 1074) mid upper false false (half binary64 b) b m' v)) (lt→ltb (half binary64 b) b l)

lower_above : (n : ℕ) (d : ℤ) (u : Bool) → T (fits binary64 (fin false (suc n) d)) → threshold_of (null u) (fin false (suc n) d) ≡ div binary64 (round binary64 false (suc n * up d) (down d)) spec.two
lower_above n d u i =
    let upper = fin false (suc n) d in
    let r = round binary64 false (suc n * up d) (down d) in
    threshold_is (null u) upper
    ∙ ap (from_sum (null u) upper) (null_add false u n d)
    ∙ ap (λ (b : Bool). cond b (div binary64 r spec.two) (null u))
    (is_true (lt (div binary64 r spec.two) upper) (subst (λ (z : Float). T (lt (div binary64 z spec.two) upper)) (null_add false false n d) (mid_below n d i)))

no_less : (u : Bool) (a : ℕ) → T (below u 0 true a) → ⊥
no_less true a t = subst T (none_under a) t
no_less false a t = t

no_more : (u : Bool) (a : ℕ) → a ≡ 0 → T (below u 0 false a) → ⊥
no_more true a e t = lt_irrefl 0 (subst (λ (z : ℕ). 0 < z) (zero-add a ∙ e) (ltb→lt 0 (0 + a) t))
no_more false a e t = lt_irrefl 0 (subst (λ (z : ℕ). 0 < z) e (ltb→lt 0 a t))

lower_null : (upper : Float) (u v : Bool) → T (finite upper) → T (fits binary64 upper) → T (lt (null u) upper) → threshold_of (null u) upper ≡ threshold_of (null v) upper
lower_null nan u v X i t = absurd X
lower_null (inf s) u v X i t = absurd X
lower_null (fin true m e) u v X i t =
    absurd (no_less u (m * up e) (subst T (lt_is (down e) (down_pos e) (null u) (fin true m e) u true 0 (m * up e) (null_own u (down e)) (own true m e)) t))
lower_null (fin false zero e) u v X i t =
    absurd (no_more u (0 * up e) (zero-mul (up e)) (subst T (lt_is (down e) (down_pos e) (null u) (fin false 0 e) u false 0 (0 * up e) (null_own u (down e)) (own false 0 e)) t))
lower_null (fin false (suc n) e) u v X i t = lower_above n e u i ∙ sym (lower_above n e v i)

pub lower_alike : (x y upper : Float) → Alike x y → T (finite upper) → T (fits binary64 upper) → T (lt x upper) → threshold_of x upper ≡ threshold_of y upper
lower_alike x y upper (same p) X i t = ap (λ (z : Float). threshold_of z upper) p
lower_alike x y upper (zeros s u p q) X i t =
    ap (λ (z : Float). threshold_of z upper) p
    ∙ lower_null upper s u X i (subst (λ (z : Float). T (lt z upper)) p t)
    ∙ ap (λ (z : Float). threshold_of z upper) (sym q)

-- ---- the two laws

pub either_zero_upper : EitherZeroUpper
either_zero_upper lower upper other h i j t = upper_alike lower upper other h (alike binary64 upper other i j t)

pub either_zero_lower : EitherZeroLower
either_zero_lower lower other upper i j m t l =
    lower_alike lower other upper (alike binary64 lower other i j t) (within_finite upper m.limited) m.double l

-- what `EitherZeroLower` asks of the upper value is needed: below an infinity, or a value that is not above it, a zero comes back with its
-- own sign
below_infinity : (s : Bool) → threshold_of (null s) (inf false) ≡ null s
unfolding threshold_of add div lt
below_infinity true = refl
below_infinity false = refl

not_above : (s : Bool) → threshold_of (null s) (fin true 1 (pos 0)) ≡ null s
unfolding threshold_of add div lt
not_above true = refl
not_above false = refl
