-- For a signer. Steps 1, 2 and 5 of document 01's search. `b` is the document's B, the smaller of the current error and the upper bound.
-- Definitions only.
use Rattle.std.specs.Prelude.{ℕ, suc, ◌+◌, ◌-◌, ◌*◌, ◌<◌, min, max, Bool, ◌&&◌, List, length, set, leb, ltb, eqb, Option, Some, None, IfSome}
use Rattle.basics.specs.Choice.{pick}
use Rattle.cuts.specs.Lookups.{Ascending, at_least, above, first_from, sought_from}
use Rattle.interval_pruner.specs.declared.Bound.{Bound}
use Rattle.interval_pruner.specs.declared.Zeros.{Zeros}
use Rattle.interval_pruner.specs.declared.Parts.{Parts}
use Rattle.interval_pruner.specs.Column.{Column, place_in, left_error, right_error, error_of}

-- ---- what was tried

-- if there is one, it is such
abbrev pub Held : {T : Type 0} → (T → Type 0) → Option T → Type 0
Held P o = IfSome o P

-- "the highest tried cut with left error 0", "the lowest with right error 0": after one more cut that is such
unfoldable pub highest_zero : ℕ → Option ℕ → Option ℕ
highest_zero k None = Some k
highest_zero k (Some z) = Some (max z k)

unfoldable pub lowest_zero : ℕ → Option ℕ → Option ℕ
lowest_zero k None = Some k
lowest_zero k (Some z) = Some (min z k)

-- after a try of cut k with these two errors
unfoldable pub zeros_after : Zeros → ℕ → ℕ → ℕ → Zeros
zeros_after z k left right =
    record { left = pick (eqb left 0) (highest_zero k z.left) z.left; right = pick (eqb right 0) (lowest_zero k z.right) z.right }

-- the table of errors after it
unfoldable pub recorded_after : List ℕ → ℕ → ℕ → ℕ → List ℕ
recorded_after table k left right = set (set table (2 * k) left) (2 * k + 1) right

-- ---- step 1

-- "left error at its remembered left cut, or 0", and so of the right one
unfoldable pub held_error : (ℕ → ℕ) → Option ℕ → ℕ
held_error error None = 0
held_error error (Some k) = error k

-- "With support ≤ 1, drop it if (..) + (..) + gap ≥ B."
unfoldable pub hopeless : Column → ℕ → Bound → Bool
hopeless c b i = c.small && leb b (held_error (left_error c) i.left + held_error (right_error c) i.right + c.gap)

-- ---- step 2

-- "past the highest tried cut with left error 0"
unfoldable pub past : Option ℕ → ℕ → ℕ
past None first = first
past (Some z) first = max first (suc z)

-- "short of the lowest with right error 0 (never below number 0)"
unfoldable pub short : Option ℕ → ℕ → ℕ
short None last = last
short (Some z) last = min last (z - 1)

-- "with s a remembered cut's error plus gap"
abbrev pub sum_of : Column → ℕ → ℕ
sum_of c k = error_of c k + c.gap

-- "and s ≥ B: from the left one, start at the first cut whose place is at least its place + s − B + 1"
unfoldable pub start_after : Column → ℕ → Option ℕ → ℕ → ℕ
start_after c b None first = first
start_after c b (Some k) first =
    pick (leb b (sum_of c k)) (first_from (at_least c.places (place_in c k + (sum_of c k - b) + 1)) c.places first) first

-- the interval from `first` to `last` with the cuts that i remembers; "An empty interval is dropped."
unfoldable pub interval_within : Bound → ℕ → ℕ → Option Bound
interval_within i first last = pick (leb first last) (Some (record { first = first; last = last; left = i.left; right = i.right })) None

-- "drop the interval if x is below its first cut's place, else end at the first cut placed above x, if that lies inside"
unfoldable pub end_above : Column → Bound → ℕ → ℕ → ℕ → Option Bound
end_above c i x first last =
    pick (ltb x (place_in c first)) None (interval_within i first (min last (first_from (above c.places x) c.places first)))

-- "from the right one, let x be its place − (s − B + 1), not below 0"
unfoldable pub end_before : Column → ℕ → Option ℕ → Bound → ℕ → ℕ → Option Bound
end_before c b None i first last = interval_within i first last
end_before c b (Some k) i first last =
    pick (leb b (sum_of c k)) (end_above c i (place_in c k - (sum_of c k - b + 1)) first last) (interval_within i first last)

-- "With support ≤ 1, shrink as `interval_shrinking`"; "No end moves outwards."
unfoldable pub shrunk_of : Column → Zeros → ℕ → Bound → Option Bound
shrunk_of c z b i =
    let first : ℕ = start_after c b i.left (past z.left i.first) in
    pick c.small (end_before c b i.right i first (short z.right i.last)) (interval_within i i.first i.last)

-- ---- step 5: the two parts round the tried cut m of an interval that begins at `first`

-- "With support ≤ 1 and d = 0, the upper part starts at number+1"; "With support ≤ 1 and d > 0, the upper part starts at the first cut past the
-- tried one and past the highest with left error 0 whose place is at least the tried place + d + 1"; "With support above 1 .. number+1 up"
unfoldable pub upper_from : Column → Zeros → ℕ → ℕ → ℕ
upper_from c z d m =
    pick (c.small && ltb 0 d) (first_from (at_least c.places (place_in c m + d + 1)) c.places (past z.left (suc m))) (suc m)

-- "For the lower, let x be the tried place − (d + 1), not below 0. If x is below the interval's first place, it ends at first number − 1, not
-- below 0. Else it ends at the first cut placed above x, sought from the interval's first cut to the smaller of number−1 and (lowest with
-- right error 0)−1, each not below 0, or one past that end if none"
unfoldable pub lower_near : Column → Zeros → ℕ → ℕ → ℕ → ℕ
lower_near c z d m first =
    let x : ℕ = place_in c m - (d + 1) in
    pick (ltb x (place_in c first)) (first - 1) (sought_from (above c.places x) c.places first (short z.right (m - 1)))

-- "and the lower keeps the tried cut" at d = 0; "With support above 1 .. number−1 down, which stays 0 at 0"
unfoldable pub lower_to : Column → Zeros → ℕ → ℕ → ℕ → ℕ
lower_to c z d m first = pick c.small (pick (ltb 0 d) (lower_near c z d m first) m) (m - 1)

-- "Let d be the tried error − B (B after step 4, difference not below 0) plus gap."
unfoldable pub parts_of : Column → Zeros → ℕ → ℕ → ℕ → Parts
parts_of c z excess m first =
    record { upper = upper_from c z (excess + c.gap) m; lower = lower_to c z (excess + c.gap) m first }

-- What the search has when it asks for the parts: the list ascends, and the tried cut and the one that the left zero mark names are in it. (A number
-- past every list has no next one that a machine holds.)
pub record PartsListed (places : List ℕ) (z : Zeros) (m : ℕ) : Type 0 where
  pub ascending : Ascending places
  pub cut : m < length places
  pub zero : Held (λ k. k < length places) z.left
