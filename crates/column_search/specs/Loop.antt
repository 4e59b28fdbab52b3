-- For proofs only. What a loop that takes one interval after another may keep and use, as statements; `proofs/` proves each.
use Rattle.std.specs.Prelude.{◌≡◌, ℕ, suc, ◌+◌, ◌-◌, ◌*◌, ◌≤◌, ◌<◌, List, [], length}
use Rattle.basics.specs.Lists.{All, total}
use Rattle.interval_pruner.specs.declared.Bound.{Bound}
use Rattle.interval_pruner.specs.declared.Zeros.{Zeros}
use Rattle.interval_pruner.specs.Column.{Column, error_of}
use Rattle.interval_pruner.specs.Pruner.{hopeless, shrunk_of, parts_of, Held}
use Rattle.column_search.specs.Search.{State, limit, zeros_of, middle, try_cut, turn, turns, start, column_run, tries_of}
use Rattle.column_search.specs.Laws.{Feasible, RunOf, Among, over, Agree, count}

-- ---- what holds between any two intervals

-- A tried cut while B is b: feasible, and its error is not below B.
pub record Seen (c : Column) (first last b : ℕ) (tried : List ℕ) (k : ℕ) : Type 0 where
  pub from : first ≤ k
  pub till : k ≤ last
  pub among : Among k tried
  pub reached : b ≤ error_of c k

-- A queued interval is a non-empty run of feasible cuts. The cuts that it remembers were tried: the left one lies below it, the right one
-- above it or, since the lower part may keep the tried cut, at its end.
pub record Waiting (c : Column) (first last b : ℕ) (tried : List ℕ) (i : Bound) : Type 0 where
  pub run : RunOf first last i
  pub left : Held (λ k. (k < i.first) × Seen c first last b tried k) i.left
  pub right : Held (λ k. (i.last ≤ k) × Seen c first last b tried k) i.right

-- of all queued intervals and all tried cuts
pub record Kept (c : Column) (bound first last : ℕ) (s : State) : Type 0 where
  pub queue : All (Waiting c first last (limit bound s.error) s.tried) s.queue
  pub tried : All (Seen c first last (limit bound s.error) s.tried) s.tried

-- how many cuts an interval has, k, and its weight, 2k − 1
abbrev pub size : Bound → ℕ
size i = suc (i.last - i.first)

abbrev pub weight : Bound → ℕ
weight i = suc (2 * (i.last - i.first))

-- what a state comes to
unfoldable pub finish : Column → ℕ → State → State
finish c bound s = turns c bound (total weight s.queue) s

-- what a loop that takes one interval after another may keep, ..
pub record Running (c : Column) (bound first last error : ℕ) (s : State) : Type 0 where
  pub kept : Kept c bound first last s
  pub sizes : total size s.queue ≤ count first last
  pub weights : tries_of s + total weight s.queue ≤ 2 * count first last - 1
  pub comes : finish c bound s ≡ column_run c bound first last error

-- .. and what that gives it: room in the queue, a measure, and at the end the run's state
pub record Looping (c : Column) (bound first last error : ℕ) : Type 0 where
  pub begins : Running c bound first last error (start first last error)
  pub keeps : (s : State) → Running c bound first last error s → Running c bound first last error (turn c bound s)
  pub waits : (s : State) → Running c bound first last error s → length s.queue ≤ count first last
  pub lighter : (s : State) → Running c bound first last error s → total weight (turn c bound s).queue ≤ total weight s.queue - 1
  pub done : (s : State) → Running c bound first last error s → s.queue ≡ [] → s ≡ column_run c bound first last error

abbrev pub Loops : Type 0
Loops = (c : Column) (bound first last error : ℕ) → Feasible c first last → Looping c bound first last error

-- ---- the recorded errors in place of the evaluator

-- Steps 1 and 2 look at the errors of the remembered cuts only, ..
abbrev pub SameHope : Type 0
SameHope =
    (c : Column) (errors : ℕ → ℕ × ℕ) (b : ℕ) (i : Bound) → Held (Agree c errors) i.left → Held (Agree c errors) i.right
    → hopeless c b i ≡ hopeless (over c errors) b i

abbrev pub SameShrunk : Type 0
SameShrunk =
    (c : Column) (errors : ℕ → ℕ × ℕ) (z : Zeros) (b : ℕ) (i : Bound) → Held (Agree c errors) i.left → Held (Agree c errors) i.right
    → shrunk_of c z b i ≡ shrunk_of (over c errors) z b i

-- .. the marks at those of the tried cuts, ..
abbrev pub SameZeros : Type 0
SameZeros =
    (c : Column) (errors : ℕ → ℕ × ℕ) (tried : List ℕ) → All (Agree c errors) tried → zeros_of c tried ≡ zeros_of (over c errors) tried

-- .. step 5 at none, beyond the excess that it is handed, ..
abbrev pub SameParts : Type 0
SameParts =
    (c : Column) (errors : ℕ → ℕ × ℕ) (z : Zeros) (excess m first : ℕ)
    → parts_of c z excess m first ≡ parts_of (over c errors) z excess m first

-- .. and a try at those of the tried cuts and its own.
abbrev pub SameTry : Type 0
SameTry =
    (c : Column) (errors : ℕ → ℕ × ℕ) (bound : ℕ) (s : State) (rest : List Bound) (i : Bound) → Agree c errors (middle i)
    → All (Agree c errors) s.tried → try_cut c bound s rest i ≡ try_cut (over c errors) bound s rest i

-- A table that agrees on the tried cuts serves every queued interval: the cuts that it remembers were tried.
abbrev pub Recalls : Type 0
Recalls =
    (c : Column) (errors : ℕ → ℕ × ℕ) (bound first last : ℕ) (s : State) → Kept c bound first last s → All (Agree c errors) s.tried
    → All (λ i. Held (Agree c errors) i.left × Held (Agree c errors) i.right) s.queue

-- One interval: evaluators that agree on the feasible cuts do the same to any state that a run can reach.
abbrev pub SameTurn : Type 0
SameTurn =
    (c : Column) (errors : ℕ → ℕ × ℕ) (bound first last : ℕ) (s : State) → Kept c bound first last s
    → ((k : ℕ) → first ≤ k → k ≤ last → Agree c errors k) → turn c bound s ≡ turn (over c errors) bound s
