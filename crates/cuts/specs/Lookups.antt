-- For a signer. Lookups in one column's cut list, by a plain walk: the first cut placed at or above a value, the first cut placed above it. A
-- cut is named by its number, from 0; `places` has the cuts' places, each as many as the rows before the cut. Definitions only.
use Rattle.std.specs.Prelude.{◌≡◌, ℕ, suc, ◌-◌, ◌≤◌, ◌<◌, ◌^◌, min, max, Bool, List, length, get_or, leb, ltb}
use Rattle.basics.specs.Choice.{pick}
use Rattle.basics.specs.Walk.{walk}

-- where cut number k stands
unfoldable pub place : List ℕ → ℕ → ℕ
place places k = get_or places k 0

-- what an accepted sheet's cut lists are
abbrev pub Ascending : List ℕ → Type 0
Ascending places = (k : ℕ) → suc k < length places → place places k < place places (suc k)

-- a cut placed at v or above; a cut placed above v
abbrev pub at_least : List ℕ → ℕ → ℕ → Bool
at_least places v k = leb v (place places k)

abbrev pub above : List ℕ → ℕ → ℕ → Bool
above places v k = ltb v (place places k)

-- the first cut from number `first` on that passes; the list's length if none does
unfoldable pub first_from : (ℕ → Bool) → List ℕ → ℕ → ℕ
first_from ok places first = walk ok (length places - first) first

-- one past the last cut that is looked at, of those from `first` to `last`: "if that end isn't above the first cut, sought to the list's end"
unfoldable pub end_of : List ℕ → ℕ → ℕ → ℕ
end_of places first last = pick (ltb first last) (min (suc last) (length places)) (length places)

-- the first cut from `first` to `last` that passes, "or one past that end if none"
unfoldable pub sought_from : (ℕ → Bool) → List ℕ → ℕ → ℕ → ℕ
sought_from ok places first last = walk ok (end_of places first last - first) first

-- the two lookups
unfoldable pub lower_bound_of : List ℕ → ℕ → ℕ → ℕ → ℕ
lower_bound_of places first last value = sought_from (at_least places value) places first last

unfoldable pub upper_bound_of : List ℕ → ℕ → ℕ → ℕ → ℕ
upper_bound_of places first last value = sought_from (above places value) places first last

-- a lookup's answer r: from `first` to one past the last cut that is looked at, whatever the list; on an ascending list the cut that is sought
abbrev pub Sought : List ℕ → ℕ → ℕ → ℕ → ℕ → Type 0
Sought places first last sought r = ((first ≤ r) × (r ≤ max first (end_of places first last))) × (Ascending places → r ≡ sought)

-- a place read from a list of 16-bit entries
abbrev pub PlaceRead : List ℕ → ℕ → ℕ → Type 0
PlaceRead places k r = (r ≡ place places k) × (r < 2 ^ 16)
