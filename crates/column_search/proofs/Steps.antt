-- Laws of the steps that hold for every evaluator: no end moves outwards, since a lookup starts at the end that it moves, and the parts lie on the
-- two sides of the tried cut, since a place is at least 1. Assumes nothing.
use mathlib.Core.Path.{◌≡◌, refl}
use Prim.Native.Nat.{ℕ, suc, ◌+◌, ◌-◌, ◌≤◌, ◌<◌, min}
use native.Mathlib.Omega.{arith}
use mathlib.Core.Bool.{◌&&◌}
use mathlib.Core.List.{List, ◌∷◌}
use lib.Dec.{T, ltb, eqb, lt→ltb}
use Rattle.basics.specs.Lists.{All, total}
use Rattle.basics.proofs.Choice.{by_test, by_leb, by_ltb, reach, neqb}
use Rattle.basics.proofs.Lists.{all_append, total_append}
use Rattle.cuts.specs.Lookups.{at_least, above, first_from}
use Rattle.cuts.proofs.Lookups.{first_low, sought_le}
use Rattle.std.specs.Prelude.{Option, Some, None}
use Rattle.interval_pruner.specs.declared.Bound.{Bound}
use Rattle.interval_pruner.specs.declared.Zeros.{Zeros}
use Rattle.interval_pruner.specs.Column.{Column, place_in, error_of}
use Rattle.interval_pruner.specs.Pruner.{past, short, sum_of, start_after, interval_within, end_above, end_before, shrunk_of, upper_from, lower_near, lower_to, parts_of, hopeless, Held}
use Rattle.interval_pruner.proofs.Shrinking.{start_low}
use Rattle.column_search.specs.Search.{State, limit, zeros_of, middle, part, upper_part, lower_part, queued, try_cut, dropped, after_shrink, turn_on}
use Rattle.column_search.specs.Laws.{Inside, Shrinks, Sides}

-- ---- step 2

pub past_ge : (z : Option ℕ) (first : ℕ) → first ≤ past z first
unfolding past
past_ge None first = omega arith
past_ge (Some z) first = omega arith

pub short_le : (z : Option ℕ) (last : ℕ) → short z last ≤ last
unfolding short
short_le None last = omega arith
short_le (Some z) last = omega arith

within_in : (i : Bound) (first last : ℕ) → i.first ≤ first → last ≤ i.last → Held (Inside i) (interval_within i first last)
unfolding interval_within
within_in i first last h g =
    by_leb (Held (Inside i)) first last (λ l. record { low = h; full = l; high = g; left = refl; right = refl }) (λ _. tt)

end_before_in : (c : Column) (b : ℕ) (o : Option ℕ) (i : Bound) (first last : ℕ) → i.first ≤ first → last ≤ i.last
    → Held (Inside i) (end_before c b o i first last)
unfolding end_before end_above
end_before_in c b None i first last h g = within_in i first last h g
end_before_in c b (Some k) i first last h g =
    let x : ℕ = place_in c k - (sum_of c k - b + 1) in
    by_leb (Held (Inside i)) b (sum_of c k)
    (λ _. by_ltb (Held (Inside i)) x (place_in c first) (λ _. tt)
    (λ _. within_in i first (min last (first_from (above c.places x) c.places first)) h (omega arith)))
    (λ _. within_in i first last h g)

pub shrunk_in_lem : Shrinks
unfolding shrunk_of
shrunk_in_lem c z b i =
    let from : ℕ = past z.left i.first in
    by_test (Held (Inside i)) c.small
    (λ _. end_before_in c b i.right i (start_after c b i.left from) (short z.right i.last)
    (omega (arith, past_ge z.left i.first, start_low c b i.left from)) (short_le z.right i.last))
    (λ _. within_in i i.first i.last (omega arith) (omega arith))

-- ---- step 5

pub upper_from_gt : (c : Column) (z : Zeros) (d m : ℕ) → m < upper_from c z d m
unfolding upper_from
upper_from_gt c z d m =
    by_test (λ x. m < x) (c.small && ltb 0 d)
    (λ _. omega (
      arith,
      past_ge z.left (suc m),
      first_low (at_least c.places (place_in c m + d + 1)) c.places (past z.left (suc m)),
    ))
    (λ _. omega arith)

pub lower_to_le : (c : Column) (z : Zeros) (d m first : ℕ) → first ≤ m → 1 ≤ place_in c m → lower_to c z d m first ≤ m
unfolding lower_to lower_near
lower_to_le c z d m first h g =
    let x : ℕ = place_in c m - (d + 1) in
    by_test (λ y. y ≤ m) c.small
    (λ _. by_ltb (λ y. y ≤ m) 0 d
    (λ _. by_ltb (λ y. y ≤ m) x (place_in c first) (λ _. omega arith)
    (λ _. sought_le (above c.places x) c.places first (short z.right (m - 1)) m h (lt→ltb x (place_in c m) (omega arith))))
    (λ _. omega arith))
    (λ _. omega arith)

pub sides : Sides
unfolding parts_of
sides c z excess m first h p = (upper_from_gt c z (excess + c.gap) m, lower_to_le c z (excess + c.gap) m first h p)

-- a sum over a part, and over both, is at most n, if what it can come to on either side is
part_total : (W : Bound → ℕ) (i : Bound) (n : ℕ) → (i.first ≤ i.last → W i ≤ n) → total W (part i) ≤ n
unfolding part
part_total W i n f = by_leb (λ p. total W p ≤ n) i.first i.last (λ h. omega (arith, f h)) (λ _. omega arith)

pub parts_total : (W : Bound → ℕ) (c : Column) (z : Zeros) (b m : ℕ) (i : Bound) (nu nl n : ℕ) → i.first ≤ m → i.first ≤ i.last
    → 1 ≤ place_in c m
    → ((u : ℕ) → m < u → u ≤ i.last → W (upper_part i m u) ≤ nu)
    → ((l : ℕ) → i.first ≤ l → l ≤ m → W (lower_part i m l) ≤ nl)
    → (i.first < i.last → nu + nl ≤ n)
    → total W (queued c z b m i) ≤ n
unfolding queued parts_of
parts_total W c z b m i nu nl n h full p fu fl fn =
    let d : ℕ = error_of c m - b + c.gap in
    let u : ℕ = upper_from c z d m in
    let l : ℕ = lower_to c z d m i.first in
    by_test (λ q. total W q ≤ n) (eqb i.first i.last) (λ _. omega arith)
    (λ ne.
    omega (
      arith,
      fn (below i.first i.last full (neqb i.first i.last ne)),
      total_append W (part (upper_part i m u)) (part (lower_part i m l)),
      part_total W (upper_part i m u) nu (fu u (upper_from_gt c z d m)),
      part_total W (lower_part i m l) nl (λ k. fl l k (lower_to_le c z d m i.first h p)),
    ))
  where
    below : (x y : ℕ) → x ≤ y → (x ≡ y → ⊥) → x < y
    below x y g f = reach x y g (λ e. absurd (f e)) (λ l. l)

-- what holds on either side holds of every part
part_all : (P : Bound → Type 0) (i : Bound) → (i.first ≤ i.last → P i) → All P (part i)
unfolding part
part_all P i f = by_leb (All P) i.first i.last (λ h. (f h, tt)) (λ _. tt)

pub parts_all : (P : Bound → Type 0) (c : Column) (z : Zeros) (b m : ℕ) (i : Bound) → i.first ≤ m → 1 ≤ place_in c m
    → ((u : ℕ) → m < u → u ≤ i.last → P (upper_part i m u))
    → ((l : ℕ) → i.first ≤ l → l ≤ m → P (lower_part i m l))
    → All P (queued c z b m i)
unfolding queued parts_of
parts_all P c z b m i h p fu fl =
    let d : ℕ = error_of c m - b + c.gap in
    let u : ℕ = upper_from c z d m in
    let l : ℕ = lower_to c z d m i.first in
    by_test (All P) (eqb i.first i.last) (λ _. tt)
    (λ _. all_append P (part (upper_part i m u)) (part (lower_part i m l))
    (part_all P (upper_part i m u) (fu u (upper_from_gt c z d m)))
    (part_all P (lower_part i m l) (λ k. fl l k (lower_to_le c z d m i.first h p))))

-- ---- a try

-- the parts that a try of j's middle queues, unless the column ends
abbrev pub new_parts : Column → ℕ → State → Bound → List Bound
new_parts c bound s j =
    queued c (zeros_of c (middle j ∷ s.tried)) (limit bound (min (error_of c (middle j)) s.error)) (middle j) j

pub try_all : (P : Bound → Type 0) (c : Column) (bound : ℕ) (s : State) (rest : List Bound) (j : Bound)
    → All P rest → All P (new_parts c bound s j) → All P (try_cut c bound s rest j).queue
unfolding try_cut
try_all P c bound s rest j h g =
    by_test (All P) (ltb (error_of c (middle j)) s.error && eqb (error_of c (middle j)) 0) (λ _. tt)
    (λ _. all_append P rest (new_parts c bound s j) h g)

pub try_total : (W : Bound → ℕ) (c : Column) (bound : ℕ) (s : State) (rest : List Bound) (j : Bound)
    → total W (try_cut c bound s rest j).queue ≤ total W rest + total W (new_parts c bound s j)
unfolding try_cut
try_total W c bound s rest j =
    by_test (λ q. total W q ≤ total W rest + total W (new_parts c bound s j))
    (ltb (error_of c (middle j)) s.error && eqb (error_of c (middle j)) 0)
    (λ _. omega arith) (λ _. omega (arith, total_append W rest (new_parts c bound s j)))

-- ---- a turn

-- what shrinking answers in a state
abbrev pub shrunk_in : Column → ℕ → State → Bound → Option Bound
shrunk_in c bound s i = shrunk_of c (zeros_of c s.tried) (limit bound s.error) i

-- what holds after a drop, for either reason, and after each try holds after the turn
pub turn_cases : (P : State → Type 0) (c : Column) (bound : ℕ) (s : State) (i : Bound) (rest : List Bound)
    → (T (hopeless c (limit bound s.error) i) → P (dropped s rest))
    → (shrunk_in c bound s i ≡ None → P (dropped s rest))
    → ((j : Bound) → shrunk_in c bound s i ≡ Some j → Inside i j → P (try_cut c bound s rest j))
    → P (turn_on c bound s (i ∷ rest))
unfolding turn_on after_shrink
turn_cases P c bound s i rest f g k =
    by_test P (hopeless c (limit bound s.error) i) f
    (λ _. go (shrunk_in c bound s i) refl (shrunk_in_lem c (zeros_of c s.tried) (limit bound s.error) i))
  where
    go : (o : Option Bound) → shrunk_in c bound s i ≡ o → Held (Inside i) o → P (after_shrink c bound s rest o)
    go None e n = g e
    go (Some j) e n = k j e n

-- the same where the reason does not matter
pub turn_case : (P : State → Type 0) (c : Column) (bound : ℕ) (s : State) (i : Bound) (rest : List Bound)
    → P (dropped s rest) → ((j : Bound) → Inside i j → P (try_cut c bound s rest j)) → P (turn_on c bound s (i ∷ rest))
turn_case P c bound s i rest f k = turn_cases P c bound s i rest (λ _. f) (λ _. f) (λ j _ n. k j n)
