-- For a signer. What holds of the search of one column, for every evaluator, as statements; `proofs/` proves each.
use Rattle.std.specs.Prelude.{◌≡◌, ℕ, suc, ◌+◌, ◌-◌, ◌*◌, ◌≤◌, ◌<◌, min, Bool, ◌&&◌, List, [], length, leb, Option, Some, None}
use Rattle.std.proofs.Math.Option.{none}
use Rattle.basics.specs.Choice.{Hit}
use Rattle.basics.specs.Lists.{All, Any, tally}
use Rattle.interval_pruner.specs.declared.Bound.{Bound}
use Rattle.interval_pruner.specs.declared.Zeros.{Zeros}
use Rattle.interval_pruner.specs.Column.{Column, place_in, left_error, right_error, error_of}
use Rattle.interval_pruner.specs.Pruner.{shrunk_of, parts_of, Held}
use Rattle.column_search.specs.Search.{State, zeros_of, try_cut, dropped, turns, start, column_run, tries_of}

-- ---- what is asked of the column

-- The cuts numbered from first to last, at least one, stand in the list; "A cut is a place i ≥ 1".
pub record Feasible (c : Column) (first last : ℕ) : Type 0 where
  pub full : first ≤ last
  pub listed : last < length c.places
  pub placed : (k : ℕ) → first ≤ k → k ≤ last → 1 ≤ place_in c k

-- f, the number of feasible cuts
abbrev pub count : ℕ → ℕ → ℕ
count first last = suc last - first

-- the state after n intervals
abbrev pub state_after : Column → (bound first last error n : ℕ) → State
state_after c bound first last error n = turns c bound n (start first last error)

-- ---- the steps

-- "No end moves outwards. An empty interval is dropped."
pub record Inside (i j : Bound) : Type 0 where
  pub low : i.first ≤ j.first
  pub full : j.first ≤ j.last
  pub high : j.last ≤ i.last
  pub left : j.left ≡ i.left
  pub right : j.right ≡ i.right

abbrev pub Shrinks : Type 0
Shrinks = (c : Column) (z : Zeros) (b : ℕ) (i : Bound) → Held (Inside i) (shrunk_of c z b i)

-- the upper part starts past the tried cut, and the lower part ends at it or before
abbrev pub Sides : Type 0
Sides =
    (c : Column) (z : Zeros) (excess m first : ℕ) → first ≤ m → 1 ≤ place_in c m
    → (m < (parts_of c z excess m first).upper) × ((parts_of c z excess m first).lower ≤ m)

-- ---- the queue

-- a non-empty run of feasible cuts
pub record RunOf (first last : ℕ) (i : Bound) : Type 0 where
  pub from : first ≤ i.first
  pub full : i.first ≤ i.last
  pub till : i.last ≤ last

-- cut number k lies in the interval
abbrev pub holds : ℕ → Bound → Bool
holds k i = leb i.first k && leb k i.last

-- The queued intervals are non-empty runs of feasible cuts, and no cut lies in two of them.
pub record Apart (first last : ℕ) (queue : List Bound) : Type 0 where
  pub runs : All (RunOf first last) queue
  pub once : (k : ℕ) → tally (holds k) queue ≤ 1

abbrev pub Disjoint : Type 0
Disjoint =
    (c : Column) (bound first last error n : ℕ) → Feasible c first last → Apart first last (state_after c bound first last error n).queue

-- "With f feasible cuts, f ≥ 1, at most f intervals wait in the queue at one time"
abbrev pub Waits : Type 0
Waits =
    (c : Column) (bound first last error n : ℕ) → Feasible c first last
    → length (state_after c bound first last error n).queue ≤ count first last

-- "and at most 2f−1 tries are made."
abbrev pub Tries : Type 0
Tries =
    (c : Column) (bound first last error n : ℕ) → Feasible c first last
    → tries_of (state_after c bound first last error n) ≤ 2 * count first last - 1

-- ---- the end

-- The run ends: no interval is left, and 2f − 1 intervals or more come to the same.
abbrev pub Ends : Type 0
Ends =
    (c : Column) (bound first last error : ℕ) → Feasible c first last
    → ((column_run c bound first last error).queue ≡ [])
    × ((n : ℕ) → 2 * count first last - 1 ≤ n → state_after c bound first last error n ≡ column_run c bound first last error)

-- ---- what was tried

-- "tried rises by 1" with each try, and stays where an interval is dropped
abbrev pub TriesCounted : Type 0
TriesCounted =
    (c : Column) (bound : ℕ) (s : State) (rest : List Bound) (i : Bound)
    → (tries_of (try_cut c bound s rest i) ≡ suc (tries_of s)) × (tries_of (dropped s rest) ≡ tries_of s)

-- every tried cut is feasible
abbrev pub TriesFeasible : Type 0
TriesFeasible =
    (c : Column) (bound first last error n : ℕ) → Feasible c first last
    → All (λ k. (first ≤ k) × (k ≤ last)) (state_after c bound first last error n).tried

-- cut number k is among those tried
abbrev pub Among : ℕ → List ℕ → Type 0
Among k tried = Any (λ t. t ≡ k) tried

-- every cut that a queued interval remembers has been tried
abbrev pub Remembers : Type 0
Remembers =
    (c : Column) (bound first last error n : ℕ) → Feasible c first last
    → let s : State = state_after c bound first last error n in
    All (λ i. Held (λ k. Among k s.tried) i.left × Held (λ k. Among k s.tried) i.right) s.queue

-- A tried cut that is such, and of all such the extreme one by the order; none if no tried cut is such.
abbrev pub Extreme : (ℕ → Type 0) → (ℕ → ℕ → Type 0) → List ℕ → Option ℕ → Type 0
Extreme P below tried None = (k : ℕ) → Among k tried → P k → ⊥
Extreme P below tried (Some z) = Among z tried × P z × ((k : ℕ) → Among k tried → P k → below k z)

-- "the highest tried cut with left error 0", "the lowest with right error 0"
abbrev pub Marks : Type 0
Marks =
    (c : Column) (tried : List ℕ)
    → Extreme (λ k. left_error c k ≡ 0) (λ k z. k ≤ z) tried (zeros_of c tried).left
    × Extreme (λ k. right_error c k ≡ 0) (λ k z. z ≤ k) tried (zeros_of c tried).right

-- ---- the error

-- The final error is not above the starting one. Where it is lower it is the error of the feasible cut named best; where it is not, no cut is.
pub record Lowered (c : Column) (first last error : ℕ) (s : State) : Type 0 where
  pub falls : s.error ≤ error
  pub named : s.error < error → Hit (λ k. (first ≤ k) × (k ≤ last) × (s.error ≡ error_of c k)) s.best
  pub stays : error ≤ s.error → s.best ≡ none

abbrev pub Lowers : Type 0
Lowers = (c : Column) (bound first last error : ℕ) → Feasible c first last → Lowered c first last error (column_run c bound first last error)

-- ---- pruning

-- Over the feasible cuts: places ascend; left errors grow with the cut and right errors fall; moving the cut by some rows changes neither by
-- more than their number.
pub record Metric (c : Column) (first last : ℕ) : Type 0 where
  pub ascends : (i j : ℕ) → first ≤ i → i < j → j ≤ last → place_in c i < place_in c j
  pub lefts : (i j : ℕ) → first ≤ i → i ≤ j → j ≤ last → left_error c i ≤ left_error c j
  pub rights : (i j : ℕ) → first ≤ i → i ≤ j → j ≤ last → right_error c j ≤ right_error c i
  pub left_near : (i j : ℕ) → first ≤ i → i ≤ j → j ≤ last → left_error c j ≤ left_error c i + (place_in c j - place_in c i)
  pub right_near : (i j : ℕ) → first ≤ i → i ≤ j → j ≤ last → right_error c i ≤ right_error c j + (place_in c j - place_in c i)

-- Pruning loses nothing: no feasible cut is better than the smaller of the final error and the upper bound by more than the gap. With support at
-- most 1 the two-side scan is such an evaluator. With larger support it may not be, and nothing is pruned.
abbrev pub NothingLost : Type 0
NothingLost =
    (c : Column) (bound first last error k : ℕ) → Feasible c first last → Metric c first last → first ≤ k → k ≤ last
    → min (column_run c bound first last error).error bound ≤ error_of c k + c.gap

-- ---- the evaluator

-- the column with another evaluator
abbrev pub over : Column → (ℕ → ℕ × ℕ) → Column
over c errors = record { places = c.places; errors = errors; gap = c.gap; small = c.small }

-- the two evaluators agree on cut number k
abbrev pub Agree : Column → (ℕ → ℕ × ℕ) → ℕ → Type 0
Agree c errors k = c.errors k ≡ errors k

-- Evaluators that agree on the feasible cuts make the same run: the same tries, error, best cut and queue.
abbrev pub SameRun : Type 0
SameRun =
    (c : Column) (errors : ℕ → ℕ × ℕ) (bound first last error : ℕ) → Feasible c first last
    → ((k : ℕ) → first ≤ k → k ≤ last → Agree c errors k)
    → (column_run c bound first last error ≡ column_run (over c errors) bound first last error)
    × ((n : ℕ) → state_after c bound first last error n ≡ state_after (over c errors) bound first last error n)
