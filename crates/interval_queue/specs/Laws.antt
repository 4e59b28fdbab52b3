-- For a signer. A queue in good order, and what push and pop do to the list of intervals that wait. Statements only; `proofs/Waiting.antt`
-- proves them.
use Rattle.std.specs.Prelude.{◌≡◌, ℕ, ◌≤◌, ◌<◌, List, [], ◌∷◌, ◌++◌, Option, Some}
use Rattle.interval_pruner.specs.declared.Bound.{Bound}
use Rattle.interval_pruner.specs.Pruner.{Held}
use Rattle.interval_queue.specs.declared.Queue.{Queue}
use Rattle.interval_queue.specs.Ring.{largest_word, slots_of, contents, pushed, pushed_words, popped, taken}

pub record Sane (words : List ℕ) (q : Queue) : Type 0 where
  pub head_in : q.head < slots_of words
  pub few : q.waiting ≤ slots_of words

-- its numbers fit words
abbrev pub SmallCut : Option ℕ → Type 0
SmallCut t = Held (λ k. k < largest_word) t

pub record SmallBound (i : Bound) : Type 0 where
  pub first : i.first ≤ largest_word
  pub last : i.last ≤ largest_word
  pub left : SmallCut i.left
  pub right : SmallCut i.right

-- an interval pushed is the last to wait
abbrev pub PushAppends : Type 0
PushAppends =
    (words : List ℕ) (q : Queue) (i : Bound) → Sane words q → q.waiting < slots_of words → SmallBound i
    → (contents (pushed_words words q i) (pushed words q) ≡ contents words q ++ (i ∷ [])) × Sane (pushed_words words q i) (pushed words q)

-- what is popped is the first that waits, and the others go on waiting
abbrev pub PopTakesFirst : Type 0
PopTakesFirst =
    (words : List ℕ) (q : Queue) → Sane words q → 0 < q.waiting
    → (taken words q ≡ Some (popped words q))
    × (contents words q ≡ (popped words q).bound ∷ contents words (popped words q).queue)
    × Sane words (popped words q).queue
