-- For a signer. What holds of a threshold, as statements; `proofs/` proves each.
use Rattle.std.specs.Prelude.{◌≡◌, not, ◌&&◌, T, Float}
use Rattle.std.specs.Float.{binary64}
use Rattle.std.specs.Float.Ieee.{fits}
use Rattle.threshold.specs.Order.{same_value, is_below, is_at_most}
use Rattle.threshold.specs.Threshold.{threshold_of, goes_left, within}

-- a value of a sheet: a double of magnitude at most 10 ^ 12
pub record Measured (x : Float) : Type 0 where
  pub double : T (fits binary64 x)
  pub limited : T (within x)

-- "For lower < upper in range the threshold is at least lower and below upper."
abbrev pub Between : Type 0
Between =
    (lower upper : Float) → Measured lower → Measured upper → T (is_below lower upper)
    → T (is_at_most lower (threshold_of lower upper)) × T (is_below (threshold_of lower upper) upper)

-- so it is again a value that a sheet may hold
abbrev pub InRange : Type 0
InRange = (lower upper : Float) → Measured lower → Measured upper → T (is_below lower upper) → Measured (threshold_of lower upper)

-- a value that does not lie strictly between the two goes left exactly if it is at most the lower one, and right exactly if it is at
-- least the upper one
pub record Parted (lower upper value : Float) : Type 0 where
  pub left : goes_left value (threshold_of lower upper) ≡ is_at_most value lower
  pub right : not (goes_left value (threshold_of lower upper)) ≡ is_at_most upper value

abbrev pub Parts : Type 0
Parts =
    (lower upper value : Float) → Measured lower → Measured upper → Measured value → T (is_below lower upper)
    → T (not (is_below lower value && is_below value upper)) → Parted lower upper value

-- the threshold has the same bits whichever zero stands for a zero value, as the upper one ..
abbrev pub EitherZeroUpper : Type 0
EitherZeroUpper =
    (lower upper other : Float) → T (fits binary64 lower) → T (fits binary64 upper) → T (fits binary64 other) → T (same_value upper other)
    → threshold_of lower upper ≡ threshold_of lower other

-- .. and as the lower one, below a finite upper value. Both hypotheses are needed: between a zero and infinity, or a zero and a value that
-- is not above it, as -1.0, the threshold is the lower value with its own sign
abbrev pub EitherZeroLower : Type 0
EitherZeroLower =
    (lower other upper : Float) → T (fits binary64 lower) → T (fits binary64 other) → Measured upper → T (same_value lower other) → T (is_below lower upper)
    → threshold_of lower upper ≡ threshold_of other upper
