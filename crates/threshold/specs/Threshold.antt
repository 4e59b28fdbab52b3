-- For a signer. The threshold between two values (document 01, "Threshold"), by IEEE 754's operations on binary64. Definitions only.
use Rattle.std.specs.Prelude.{Bool, true, false, ◌&&◌, cond, pos, Float}
use Rattle.std.specs.Float.{fin, binary64}
use Rattle.std.specs.Float.Ieee.{add, div, lt, le}

-- 2.0
abbrev pub two : Float
two = fin false 1 (pos 1)

-- "Half of the rounded sum": the sum and the halving are rounded once each
unfoldable pub midpoint_of : Float → Float → Float
midpoint_of lower upper = div binary64 (add binary64 lower upper) two

-- "if that is not below the upper value, the lower value"
unfoldable pub threshold_of : Float → Float → Float
unfolding midpoint_of
threshold_of lower upper = cond (lt (midpoint_of lower upper) upper) (midpoint_of lower upper) lower

-- "Rows with value ≤ threshold go left."
unfoldable pub goes_left : Float → Float → Bool
goes_left value threshold = le value threshold

-- 1,000,000,000,000 = 5 ^ 12 * 2 ^ 12, and its negative
abbrev pub largest_value : Float
largest_value = fin false 244140625 (pos 12)

abbrev pub lowest_value : Float
lowest_value = fin true 244140625 (pos 12)

-- "finite, magnitude at most 1,000,000,000,000": neither a NaN nor an infinity is
unfoldable pub within : Float → Bool
within x = le lowest_value x && le x largest_value
