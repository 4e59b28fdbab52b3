-- For a signer. The search of one column (document 01, "Search"), over the cuts' places and an evaluator that says, of each cut number, the
-- left and the right error that a try of it finds. Definitions only.
use Rattle.std.specs.Prelude.{ℕ, zero, suc, ◌+◌, ◌-◌, ◌*◌, ◌/◌, min, ◌&&◌, List, [], ◌∷◌, ◌++◌, length, leb, ltb, eqb, Option, Some, None}
use Rattle.std.proofs.Math.Option.{Option as Maybe, none, some}
use Rattle.basics.specs.Choice.{pick}
use Rattle.interval_pruner.specs.declared.Bound.{Bound}
use Rattle.interval_pruner.specs.declared.Zeros.{Zeros}
use Rattle.interval_pruner.specs.declared.Parts.{Parts}
use Rattle.interval_pruner.specs.Column.{Column, left_error, right_error, error_of}
use Rattle.interval_pruner.specs.Pruner.{zeros_after, hopeless, shrunk_of, parts_of}

-- The state between two intervals: those queued, first in first out; the current error; the cut that last strictly lowered it; the cuts
-- tried, the latest first.
pub record State : Type 0 where
  pub queue : List Bound
  pub error : ℕ
  pub best : Maybe ℕ
  pub tried : List ℕ

-- "Let B be the smaller of the current error and the upper bound."
abbrev pub limit : ℕ → ℕ → ℕ
limit bound error = min error bound

-- the highest cut of those tried with left error 0, and the lowest with right error 0
unfoldable pub zeros_of : Column → List ℕ → Zeros
zeros_of c [] = record { left = None; right = None }
zeros_of c (k ∷ tried) = zeros_after (zeros_of c tried) k (left_error c k) (right_error c k)

-- "Try the cut number (left+right)/2, rounded down"
abbrev pub middle : Bound → ℕ
middle i = (i.first + i.last) / 2

-- ---- step 5

-- "each if not empty"
unfoldable pub part : Bound → List Bound
part i = pick (leb i.first i.last) (i ∷ []) []

-- "The upper remembers the tried cut as its left one, the lower as its right one; the other is handed down."
abbrev pub upper_part : Bound → ℕ → ℕ → Bound
upper_part i m from = record { first = from; last = i.last; left = Some m; right = i.right }

abbrev pub lower_part : Bound → ℕ → ℕ → Bound
lower_part i m to = record { first = i.first; last = to; left = i.left; right = Some m }

-- "If the interval holds more than one cut, queue the upper part, then the lower"
unfoldable pub queued : Column → Zeros → ℕ → ℕ → Bound → List Bound
queued c z b m i =
    let p : Parts = parts_of c z (error_of c m - b) m i.first in
    pick (eqb i.first i.last) [] (part (upper_part i m p.upper) ++ part (lower_part i m p.lower))

-- ---- steps 3 and 4

-- "tried rises by 1"; "A strictly lower error replaces the tree; if it is 0, the column ends."
unfoldable pub try_cut : Column → ℕ → State → List Bound → Bound → State
try_cut c bound s rest i =
    let m : ℕ = middle i in
    let error : ℕ = min (error_of c m) s.error in
    let tried : List ℕ = m ∷ s.tried in
    record {
      queue = pick (ltb (error_of c m) s.error && eqb (error_of c m) 0) [] (rest ++ queued c (zeros_of c tried) (limit bound error) m i);
      error = error;
      best = pick (ltb (error_of c m) s.error) (some m) s.best;
      tried = tried;
    }

-- ---- one interval

abbrev pub dropped : State → List Bound → State
dropped s rest = record { queue = rest; error = s.error; best = s.best; tried = s.tried }

unfoldable pub after_shrink : Column → ℕ → State → List Bound → Option Bound → State
after_shrink c bound s rest None = dropped s rest
after_shrink c bound s rest (Some i) = try_cut c bound s rest i

-- "For each interval": steps 1 to 5
unfoldable pub turn_on : Column → ℕ → State → List Bound → State
turn_on c bound s [] = dropped s []
turn_on c bound s (i ∷ rest) =
    pick (hopeless c (limit bound s.error) i)
    (dropped s rest)
    (after_shrink c bound s rest (shrunk_of c (zeros_of c s.tried) (limit bound s.error) i))

abbrev pub turn : Column → ℕ → State → State
turn c bound s = turn_on c bound s s.queue

-- n intervals; once none waits, nothing changes any more
unfoldable pub turns : Column → ℕ → ℕ → State → State
turns c bound zero s = s
turns c bound (suc n) s = turns c bound n (turn c bound s)

-- ---- the run

-- "One interval, the feasible cuts' numbers (from 0 in the column's list), is queued"; "The first interval has neither."
abbrev pub start : ℕ → ℕ → ℕ → State
start first last error =
    record {
      queue = record { first = first; last = last; left = None; right = None } ∷ [];
      error = error;
      best = none;
      tried = [];
    }

-- The run of a column whose feasible cuts are numbered from first to last, from a starting error. An interval of k cuts weighs 2k − 1 and each
-- turn takes at least 1 from the queue's weight, so 2f turns empty it: `Ends` says that more change nothing.
unfoldable pub column_run : Column → ℕ → ℕ → ℕ → ℕ → State
column_run c bound first last error = turns c bound (2 * (suc last - first)) (start first last error)

-- "tried rises by 1" with each try
abbrev pub tries_of : State → ℕ
tries_of s = length s.tried
