-- A threshold parts a sorted column at its cut: what is at most the lower value goes left, what is at least the upper one right. All of it is
-- arithmetic on keys, from `between`. Assumes nothing.
use Prim.Native.Nat.{◌≤◌, ◌<◌}
use native.Mathlib.Nat.{le_trans, le_of_lt}
use native.Mathlib.Omega.{arith}
use mathlib.Core.Bool.{Bool, not, ◌&&◌}
use lib.Dec.{T, T_not, not_T}
use lib.Ieee.{Float, nan, inf, fin, binary64, add, lt, le, fits, is_nan}
use lib.Ieee.Fits.{div-fits, cond-fits, and_i, and_l, and_r}
use Rattle.basics.proofs.Choice.{same_bool, order}
use Rattle.threshold.specs.Order.{comparable, key}
use Rattle.threshold.proofs.Keys.{lt→, →lt, le→, →le}
use Rattle.threshold.specs.Threshold.{two, midpoint_of, threshold_of, goes_left, lowest_value, largest_value, within}
use Rattle.threshold.specs.Laws.{Measured, Parts, InRange}
use Rattle.threshold.proofs.Law.{between, measured_comparable}

-- a threshold is a double, whatever it lies between
pub threshold_fits : (lower upper : Float) → T (fits binary64 lower) → T (fits binary64 (threshold_of lower upper))
unfolding threshold_of midpoint_of
threshold_fits lower upper i =
    cond-fits binary64 (lt (midpoint_of lower upper) upper) (midpoint_of lower upper) lower (div-fits binary64 (add binary64 lower upper) two) i

-- what something is at most is no NaN
at_most_number : (x y : Float) → T (le x y) → T (not (is_nan y))
unfolding le is_nan
at_most_number nan nan t = absurd t
at_most_number (inf s) nan t = absurd t
at_most_number (fin s m e) nan t = absurd t
at_most_number x (inf s) t = tt
at_most_number x (fin s m e) t = tt

module _ (lower upper : Float) (X : Measured lower) (Y : Measured upper) (l : T (lt lower upper)) where
  pub threshold_comparable : T (comparable (threshold_of lower upper))
  threshold_comparable =
      and_i (fits binary64 (threshold_of lower upper)) (not (is_nan (threshold_of lower upper))) (threshold_fits lower upper X.double)
      (at_most_number lower (threshold_of lower upper) (between lower upper X Y l).0)

  -- the law in keys
  pub from_lower : key lower ≤ key (threshold_of lower upper)
  from_lower = le→ lower (threshold_of lower upper) (measured_comparable lower X) threshold_comparable (between lower upper X Y l).0

  pub below_upper : key (threshold_of lower upper) < key upper
  below_upper = lt→ (threshold_of lower upper) upper threshold_comparable (measured_comparable upper Y) (between lower upper X Y l).1

-- ---- the threshold is in range

ends_comparable : T (comparable lowest_value) × T (comparable largest_value)
unfolding fits is_nan
ends_comparable = (tt, tt)

pub in_range : InRange
unfolding within
in_range lower upper X Y l =
    let t : Float = threshold_of lower upper in
    let i : T (comparable lower) = measured_comparable lower X in
    let j : T (comparable upper) = measured_comparable upper Y in
    let k : T (comparable t) = threshold_comparable lower upper X Y l in
    let low : key lowest_value ≤ key lower = le→ lowest_value lower ends_comparable.0 i (and_l (le lowest_value lower) (le lower largest_value) X.limited) in
    let high : key upper ≤ key largest_value = le→ upper largest_value j ends_comparable.1 (and_r (le lowest_value upper) (le upper largest_value) Y.limited) in
    record {
      double = threshold_fits lower upper X.double;
      limited =
          and_i (le lowest_value t) (le t largest_value)
          (→le lowest_value t ends_comparable.0 k (le_trans low (from_lower lower upper X Y l)))
          (→le t largest_value k ends_comparable.1 (le_trans (le_of_lt (below_upper lower upper X Y l)) high));
    }

-- ---- a value that does not lie strictly between the two

abbrev strictly : Float → Float → Float → Bool
strictly lower value upper = lt lower value && lt value upper

-- it is at most the lower one, or at least the upper one
apart : {P : Type 0} (lower upper value : Float) → T (comparable lower) → T (comparable upper) → T (comparable value)
    → T (not (strictly lower value upper)) → (key value ≤ key lower → P) → (key upper ≤ key value → P) → P
apart lower upper value i j k out f g =
    order (key value) (key lower) f
    (λ a. order (key upper) (key value) g
    (λ b. absurd (T_not (strictly lower value upper) out (and_i (lt lower value) (lt value upper) (→lt lower value i k a) (→lt value upper k j b)))))

pub parts : Parts
unfolding goes_left
parts lower upper value X Y W l out =
    let t : Float = threshold_of lower upper in
    let i : T (comparable lower) = measured_comparable lower X in
    let j : T (comparable upper) = measured_comparable upper Y in
    let k : T (comparable value) = measured_comparable value W in
    let h : T (comparable t) = threshold_comparable lower upper X Y l in
    let from : key lower ≤ key t = from_lower lower upper X Y l in
    let below : key t < key upper = below_upper lower upper X Y l in
    record {
      left =
          same_bool (le value t) (le value lower)
          (λ a. →le value lower k i (apart lower upper value i j k out (λ b. b) (λ b. absurd (omega (arith, le→ value t k h a)))))
          (λ a. →le value t k h (omega (arith, le→ value lower k i a)));
      right =
          same_bool (not (le value t)) (le upper value)
          (λ a. →le upper value j k (apart lower upper value i j k out (λ b. absurd (T_not (le value t) a (→le value t k h (omega arith)))) (λ b. b)))
          (λ a. not_T (le value t) (λ b. omega (arith, le→ value t k h b, le→ upper value j k a)));
    }
