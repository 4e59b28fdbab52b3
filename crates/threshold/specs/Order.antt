-- For a signer. The order of f64. Zero and minus zero are one value. Definitions, and the laws as statements; `proofs/Keys.antt` proves each.
use Rattle.std.specs.Prelude.{◌≡◌, ◌⊎◌, ℕ, ◌+◌, ◌-◌, ◌*◌, ◌/◌, ◌^◌, Bool, true, false, not, ◌&&◌, ◌||◌, List, get_or, T, leb, ltb, eqb, pos, Float}
use Rattle.std.specs.Float.{nan, inf, fin, Format, binary64}
use Rattle.std.specs.Float.Ieee.{low, up, down, lt, le, eq, fits, is_nan}
use Rattle.std.specs.Float.Ieee.Scale.{overflow}

-- ---- what comparing two values of a sheet means: the specs of the other crates compare them by these names only

-- the two are one value
abbrev pub same_value : Float → Float → Bool
same_value x y = eq x y

-- the first is below the second, and so the second above the first
abbrev pub is_below : Float → Float → Bool
is_below x y = lt x y

abbrev pub is_at_most : Float → Float → Bool
is_at_most x y = le x y

-- "A cut is a place i ≥ 1 whose value is above that at i−1.", by the value at each place
abbrev pub cut_at : (ℕ → Float) → ℕ → Bool
cut_at value_at i = leb 1 i && is_below (value_at (i - 1)) (value_at i)

-- "ascending", "ties go by row number": the lower one of two rows precedes the other, and where they tie the one with the lower number
abbrev pub precedes_by : (ℕ → ℕ → Bool) → (ℕ → ℕ → Bool) → ℕ → ℕ → Bool
precedes_by lower tie a b = lower a b || (tie a b && ltb a b)

-- ---- the key of a value

-- a double that is a number or an infinity, and no NaN
abbrev pub comparable : Float → Bool
comparable x = fits binary64 x && not (is_nan x)

-- a size of that many units, below or above a middle
abbrev pub rank_at : ℕ → Bool → ℕ → ℕ
rank_at middle true units = middle - units
rank_at middle false units = middle + units

-- a number stands as many units of the format's smallest value from the middle as its size is, both zeros in the middle, the infinities at the
-- two ends; `overflow` is one past the largest size
unfoldable pub rank : Format → Float → ℕ
rank f nan = 0
rank f (inf true) = 0
rank f (inf false) = overflow f + overflow f
rank f (fin s m e) = rank_at (overflow f) s (m * up e * 2 ^ low f / down e)

-- of an f64, in units of 2 ^ -1074
abbrev pub key : Float → ℕ
key x = rank binary64 x

-- whether the value at index a is below that at index b
abbrev pub row_below : List Float → ℕ → ℕ → Bool
row_below values a b = is_below (get_or values a nan) (get_or values b nan)

-- ---- the laws of one or two values

pub record OfTwo (x y : Float) : Type 0 where
  -- the comparisons are those of the keys
  pub lt_key : lt x y ≡ ltb (key x) (key y)
  pub le_key : le x y ≡ leb (key x) (key y)
  pub eq_key : eq x y ≡ eqb (key x) (key y)
  pub irreflexive : T (not (lt x x))
  pub le_itself : T (le x x)
  pub eq_itself : T (eq x x)
  -- one of the three holds, and no two do
  pub total : T (lt x y) ⊎ (T (eq x y) ⊎ T (lt y x))
  pub lt_not_eq : T (lt x y) → T (not (eq x y))
  pub lt_not_gt : T (lt x y) → T (not (lt y x))
  pub eq_not_lt : T (eq x y) → T (not (lt x y))
  -- "at most" is "not above"
  pub le_not_gt : le x y ≡ not (lt y x)
  pub eq_symmetric : T (eq x y) → T (eq y x)
  pub both_ways : T (le x y) → T (le y x) → T (eq x y)

-- ---- the laws of three values

pub record OfThree (x y z : Float) : Type 0 where
  pub lt_lt : T (lt x y) → T (lt y z) → T (lt x z)
  pub le_le : T (le x y) → T (le y z) → T (le x z)
  pub le_lt : T (le x y) → T (lt y z) → T (lt x z)
  pub lt_le : T (lt x y) → T (le y z) → T (lt x z)
  pub eq_eq : T (eq x y) → T (eq y z) → T (eq x z)
  -- an equal value may stand on either side of a comparison
  pub eq_lt : T (eq x y) → lt x z ≡ lt y z
  pub lt_eq : T (eq x y) → lt z x ≡ lt z y
  pub eq_le : T (eq x y) → le x z ≡ le y z
  pub le_eq : T (eq x y) → le z x ≡ le z y

-- ---- the laws

abbrev pub Ordered : Type 0
Ordered = (x y : Float) → T (comparable x) → T (comparable y) → OfTwo x y

abbrev pub Transitive : Type 0
Transitive = (x y z : Float) → T (comparable x) → T (comparable y) → T (comparable z) → OfThree x y z

abbrev pub is_zero : Float → Type 0
is_zero x = (x ≡ fin true 0 (pos 0)) ⊎ (x ≡ fin false 0 (pos 0))

-- two equal values are the same value or both zeros
abbrev pub SameOrZeros : Type 0
SameOrZeros = (x y : Float) → T (fits binary64 x) → T (fits binary64 y) → T (eq x y) → (x ≡ y) ⊎ (is_zero x × is_zero y)
