-- For a signer. "One interval .. is queued, first in first out": the queue as a ring in lent words, four words an interval. Definitions only.
use Rattle.std.specs.Prelude.{◌≡◌, ℕ, zero, suc, ◌+◌, ◌-◌, ◌*◌, ◌/◌, min, Bool, ◌||◌, List, length, get_or, set, leb, ltb, eqb, Option, Some, None}
use Rattle.basics.specs.Choice.{pick}
use Rattle.basics.specs.Lists.{table}
use Rattle.interval_pruner.specs.declared.Bound.{Bound}
use Rattle.interval_queue.specs.declared.Queue.{Queue}
use Rattle.interval_queue.specs.declared.Popped.{Popped}

-- ---- words

abbrev pub largest_word : ℕ
largest_word = 0xffff_ffff

unfoldable pub word_of : ℕ → ℕ
word_of n = min n largest_word

-- a remembered cut: 0 for none, else one more than its number
unfoldable pub word_of_tried : Option ℕ → ℕ
word_of_tried None = 0
word_of_tried (Some k) = word_of (k + 1)

unfoldable pub tried_in : ℕ → Option ℕ
tried_in zero = None
tried_in (suc k) = Some k

-- ---- an interval in four words

unfoldable pub stored : List ℕ → ℕ → Bound → List ℕ
stored words at i =
    set (set (set (set words at (word_of i.first)) (at + 1) (word_of i.last)) (at + 2) (word_of_tried i.left)) (at + 3) (word_of_tried i.right)

unfoldable pub loaded : List ℕ → ℕ → Bound
loaded words at =
    record {
      first = get_or words at 0;
      last = get_or words (at + 1) 0;
      left = tried_in (get_or words (at + 2) 0);
      right = tried_in (get_or words (at + 3) 0);
    }

-- ---- the ring

abbrev pub slots_of : List ℕ → ℕ
slots_of words = length words / 4

-- the slot k places after the head, past the last one again from the first
unfoldable pub slot_of : ℕ → ℕ → ℕ → ℕ
slot_of head k slots = pick (ltb (head + k) slots) (head + k) (head + k - slots)

-- the intervals that wait, the first one first
unfoldable pub contents : List ℕ → Queue → List Bound
contents words q = table (λ k. loaded words (slot_of q.head k (slots_of words) * 4)) q.waiting

-- ---- one more, one less

abbrev pub full : List ℕ → Queue → Bool
full words q = leb (slots_of words) q.head || leb (slots_of words) q.waiting

unfoldable pub pushed : List ℕ → Queue → Queue
pushed words q = pick (full words q) q (record { head = q.head; waiting = q.waiting + 1 })

unfoldable pub pushed_words : List ℕ → Queue → Bound → List ℕ
pushed_words words q i = pick (full words q) words (stored words (slot_of q.head q.waiting (slots_of words) * 4) i)

abbrev pub empty : List ℕ → Queue → Bool
empty words q = leb (slots_of words) q.head || eqb q.waiting 0

abbrev pub empty_bound : Bound
empty_bound = record { first = 1; last = 0; left = None; right = None }

unfoldable pub popped : List ℕ → Queue → Popped
popped words q =
    pick (empty words q)
    (record { bound = empty_bound; queue = q })
    (record {
      bound = loaded words (q.head * 4);
      queue = record { head = slot_of q.head 1 (slots_of words); waiting = q.waiting - 1 };
    })

-- what is taken off: nothing where none waits, or the head is no slot
unfoldable pub taken : List ℕ → Queue → Option Popped
taken words q = pick (empty words q) None (Some (popped words q))

-- what pushing an interval leaves: the queue, and the lent words
abbrev pub PushedTo : List ℕ → Queue → Bound → Queue → List ℕ → Type 0
PushedTo words q i q' words' = (q' ≡ pushed words q) × (words' ≡ pushed_words words q i)
