-- For proofs only. The state of a column's search as the code keeps it, beside the definition's: the error, the tries and the tree held so far, the
-- zero marks and the queue, with the table of errors and the ring in lent words; and what the functions of a turn leave.
use Rattle.std.specs.Prelude.{◌≡◌, ℕ, ◌+◌, ◌*◌, ◌≤◌, ◌<◌, List, [], ◌∷◌, length, Some, None}
use Rattle.basics.specs.Lists.{All, total}
use Rattle.sheet.specs.declared.Terms.{Terms}
use Rattle.sheet.specs.Limits.{most_columns}
use Rattle.sheet.specs.Sheet.{Sheet, count_of}
use Rattle.cuts.specs.declared.Run.{Run}
use Rattle.leaves_score.specs.Root.{errors_at}
use Rattle.interval_pruner.specs.declared.Bound.{Bound}
use Rattle.interval_pruner.specs.declared.Zeros.{Zeros}
use Rattle.interval_pruner.specs.Column.{recorded}
use Rattle.interval_pruner.specs.Pruner.{zeros_after, recorded_after, Held}
use Rattle.interval_queue.specs.declared.Popped.{Popped}
use Rattle.interval_queue.specs.Ring.{contents, taken}
use Rattle.interval_queue.specs.Laws.{Sane}
use Rattle.column_search.specs.Search.{State, zeros_of, try_cut, column_run}
use Rattle.column_search.specs.Laws.{Agree}
use Rattle.column_search.specs.Loop.{Running, weight}
use Rattle.column_turns.specs.declared.interval_steps.Standing.{Standing}
use Rattle.column_turns.specs.declared.Course.{Course}
use Rattle.column_turns.specs.declared.Attempt.{Attempt}
use Rattle.column_turns.specs.Parts.{CutsNumbered}
use Rattle.column_turns.specs.declared.Words.{Words}
use Rattle.column_turns.specs.Promise.{Whole, most_tries, standing_after_run, feasible_at, first_at, last_at}
use Rattle.column_turns.specs.Ready.{SameWords, EnoughWords}
use Rattle.column_turns.specs.Try.{searched_column, tried_tree}

-- ---- within a column

-- the code's state in a column that was begun with p, for the definition's
pub record Matches (s : Sheet) (t : Terms) (c : ℕ) (p : Standing) (words : Words) (course : Course) (state : State) : Type 0 where
  pub standing : course.standing ≡ standing_after_run s t.support c p state
  pub zeros : course.zeros ≡ zeros_of (searched_column s t c) state.tried
  pub queue : contents words.ring.now course.queue ≡ state.queue
  pub sane : Sane words.ring.now course.queue
  pub agrees : All (Agree (searched_column s t c) (recorded words.table.now)) state.tried

-- and that state is one of the column's run
pub record Stands (s : Sheet) (t : Terms) (c : ℕ) (p : Standing) (words : Words) (course : Course) : Type 0 where
  pub state : State
  pub running : Running (searched_column s t c) t.bound (first_at s t c) (last_at s t c) p.error state
  pub matches : Matches s t c p words course state

-- an accepted sheet, a column of it with feasible cuts, and scratch enough
pub record Begun (s : Sheet) (t : Terms) (c : ℕ) (words : Words) : Type 0 where
  pub whole : Whole s
  pub here : c < s.columns
  pub some : first_at s t c < (feasible_at s t c).end
  pub enough : EnoughWords s.rows words

-- the first interval that waits, of a run that may be counted on
pub record Turning (s : Sheet) (t : Terms) (c : ℕ) (words : Words) (course : Course) (first : Popped) : Type 0 where
  pub begun : Begun s t c words
  pub from : Standing
  pub few : from.tried ≤ most_columns * most_tries
  pub stands : Stands s t c from words course
  pub first_is : taken words.ring.now course.queue ≡ Some first

-- after a turn the code's state is one of the same run still, and less waits
pub record Turned (s : Sheet) (t : Terms) (c : ℕ) (course : Course) (was : Words) (next : Course) (words : Words) : Type 0 where
  pub stands : (p : Standing) → Stands s t c p was course → Stands s t c p words next
  pub lighter : total weight (contents words.ring.now next.queue) < total weight (contents was.ring.now course.queue)
  pub kept : SameWords was words

-- ---- steps 3 to 5

-- step 3: the tree of the cut, and its errors in the table and in the zero marks
pub record Attempted (s : Sheet) (support c k : ℕ) (zeros : Zeros) (was words : Words) (attempt : Attempt) : Type 0 where
  pub tree : attempt.tree ≡ tried_tree s support c k
  pub zeros_are : attempt.zeros ≡ zeros_after zeros k (errors_at s support c k).0 (errors_at s support c k).1
  pub table_is : words.table.now ≡ recorded_after was.table.now k (errors_at s support c k).0 (errors_at s support c k).1
  pub ring_is : words.ring.now ≡ was.ring.now
  pub kept : SameWords was words

-- an interval of listed cuts of a sheet's column, with remembered cuts of the list, whose middle is tried
pub record Attempting (s : Sheet) (t : Terms) (c : ℕ) (words : Words) (course : Course) (i : Bound) : Type 0 where
  pub whole : Whole s
  pub here : c < s.columns
  pub few : course.standing.tried ≤ most_columns * most_tries + most_tries
  pub enough : EnoughWords s.rows words
  pub full : i.first ≤ i.last
  pub till : i.last < count_of s c
  pub left : Held (λ k. k < count_of s c) i.left
  pub right : Held (λ k. k < count_of s c) i.right
  pub zero : CutsNumbered (count_of s c) course.zeros.left
  pub sane : Sane words.ring.now course.queue
  pub room : course.queue.waiting + 2 ≤ s.rows

-- steps 3 to 5: whatever state of the definition the code was in, it is in the one after the try
pub record IntervalTried (s : Sheet) (t : Terms) (c : ℕ) (course : Course) (i : Bound) (was : Words) (next : Course) (words : Words) : Type 0 where
  pub matches : (p : Standing) (state : State) → Matches s t c p was course state
      → Matches s t c p words next (try_cut (searched_column s t c) t.bound state state.queue i)
  pub kept : SameWords was words

-- ---- a whole column

-- one interval waits, nothing was tried
pub record Opened (words : Words) (first last : ℕ) (standing : Standing) (course : Course) : Type 0 where
  pub standing_is : course.standing ≡ standing
  pub zeros : course.zeros ≡ record { left = None; right = None }
  pub queue : contents words.ring.now course.queue ≡ record { first = first; last = last; left = None; right = None } ∷ []
  pub sane : Sane words.ring.now course.queue

-- the feasible cuts of a column that has some, and so few tries before it that they can be counted on
pub record Starting (s : Sheet) (t : Terms) (c : ℕ) (run : Run) (standing : Standing) (words : Words) : Type 0 where
  pub begun : Begun s t c words
  pub few : standing.tried ≤ most_columns * most_tries
  pub feasible : run ≡ feasible_at s t c

-- the standing after their run
pub record CutsSearched (s : Sheet) (t : Terms) (c : ℕ) (standing : Standing) (was : Words) (answer : Standing) (words : Words) : Type 0 where
  pub standing_is :
      answer ≡ standing_after_run s t.support c standing (column_run (searched_column s t c) t.bound (first_at s t c) (last_at s t c) standing.error)
  pub kept : SameWords was words

-- a column of an accepted sheet, and the three parts of its words
pub record SearchingIn (s : Sheet) (c : ℕ) (standing : Standing) (table ring marks : List ℕ) : Type 0 where
  pub whole : Whole s
  pub here : c < s.columns
  pub few : standing.tried ≤ most_columns * most_tries
  pub table_size : length table ≡ 2 * s.rows
  pub ring_size : length ring ≡ 4 * s.rows
  pub marks_size : length marks ≡ s.rows
