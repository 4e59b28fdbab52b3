-- For proofs only. The queue of a column in lent words: what step 5 adds to it, and what that needs.
use Rattle.std.specs.Prelude.{◌≡◌, ℕ, ◌+◌, ◌≤◌, ◌<◌, Bool, List, [], ◌++◌, length, eqb, Option}
use Rattle.basics.specs.Choice.{pick}
use Rattle.sheet.specs.Limits.{most_rows}
use Rattle.cuts.specs.Lookups.{place, Ascending}
use Rattle.interval_pruner.specs.declared.Bound.{Bound}
use Rattle.interval_pruner.specs.declared.Zeros.{Zeros}
use Rattle.interval_pruner.specs.declared.Parts.{Parts}
use Rattle.interval_pruner.specs.Column as column
use Rattle.interval_pruner.specs.Pruner.{parts_of, Held}
use Rattle.interval_queue.specs.declared.Queue.{Queue}
use Rattle.interval_queue.specs.Ring.{slots_of, contents}
use Rattle.interval_queue.specs.Laws.{Sane, SmallBound}
use Rattle.column_search.specs.Search.{part, upper_part, lower_part}
use Rattle.column_turns.specs.declared.Parting.{Parting}
use Rattle.column_turns.specs.declared.Words.{Words}
use Rattle.column_turns.specs.Ready.{SameWords}

-- a cut of a list of n, if there is one
abbrev pub CutsNumbered : ℕ → Option ℕ → Type 0
CutsNumbered n t = Held (λ k. k < n) t

-- step 5 by the cuts' places, for a try of that error
unfoldable pub parts_queued : List ℕ → ℕ → Bool → Zeros → ℕ → ℕ → Bound → List Bound
parts_queued places gap small z excess m i =
    let p : Parts = parts_of (column.recorded_column places [] gap small) z excess m i.first in
    pick (eqb i.first i.last) [] (part (upper_part i m p.upper) ++ part (lower_part i m p.lower))

-- the same of an interval to be parted
abbrev pub parted : List ℕ → Parting → List Bound
parted places p = parts_queued places p.reach.gap p.reach.small p.zeros p.reach.excess p.cut p.bound

-- a part that can be queued, if it is not empty
pub record Pushing (words : Words) (queue : Queue) (i : Bound) : Type 0 where
  pub sane : Sane words.ring.now queue
  pub room : queue.waiting < slots_of words.ring.now
  pub small : i.first ≤ i.last → SmallBound i

-- more intervals in the queue, at its end, and the table as it was
pub record Queued (was words : Words) (queue after : Queue) (more : List Bound) : Type 0 where
  pub contents_are : contents words.ring.now after ≡ contents was.ring.now queue ++ more
  pub sane : Sane words.ring.now after
  pub waiting : after.waiting ≤ queue.waiting + length more
  pub table_is : words.table.now ≡ was.table.now
  pub kept : SameWords was words

-- what waits after a try: nothing if the column is over, else what waited and the parts of the interval
pub record QueuedAfter (places : List ℕ) (p : Parting) (over : Bool) (queue : Queue) (was : Words) (after : Queue) (words : Words) : Type 0 where
  pub contents_are : contents words.ring.now after ≡ pick over [] (contents was.ring.now queue ++ parted places p)
  pub sane : Sane words.ring.now after
  pub table_is : words.table.now ≡ was.table.now
  pub kept : SameWords was words

-- an interval of listed cuts, with remembered cuts of the list, whose middle is tried
pub record PartsWaiting (places : List ℕ) (p : Parting) (queue : Queue) (words : Words) : Type 0 where
  pub listed : length places ≤ most_rows
  pub ascending : Ascending places
  pub full : p.bound.first ≤ p.bound.last
  pub till : p.bound.last < length places
  pub from_first : p.bound.first ≤ p.cut
  pub to_last : p.cut ≤ p.bound.last
  pub placed : 1 ≤ place places p.cut
  pub left : Held (λ k. k < length places) p.bound.left
  pub right : Held (λ k. k < length places) p.bound.right
  pub zero : CutsNumbered (length places) p.zeros.left
  pub sane : Sane words.ring.now queue
  pub room : queue.waiting + 2 ≤ slots_of words.ring.now
