-- The cases of push and pop, by plain facts. Assumes nothing.
use mathlib.Core.Path.{◌≡◌, refl, sym, ap, ◌∙◌}
use Prim.Native.Nat.{ℕ, zero, suc, ◌+◌, ◌-◌, ◌*◌, ◌≤◌, ◌<◌}
use native.Mathlib.Omega.{arith}
use mathlib.Core.List.{List}
use lib.Dec.{T, leb, ltb, eqb, le→leb, lt→ltb}
use Rattle.std.specs.Prelude.{Some, None}
use Rattle.basics.proofs.Choice.{order, pick_true, pick_false, or_left, or_right, nor_both, nleb, nltb, eqb_no, eqb_yes}
use Rattle.interval_pruner.specs.declared.Bound.{Bound}
use Rattle.interval_queue.specs.declared.Queue.{Queue}
use Rattle.interval_queue.specs.declared.Popped.{Popped}
use Rattle.interval_queue.specs.Ring.{tried_in, slots_of, slot_of, stored, loaded, full, empty, pushed, pushed_words, PushedTo, popped, taken}

-- a word read back as a remembered cut
pub tried_none : (w : ℕ) → w ≡ 0 → tried_in w ≡ None
unfolding tried_in
tried_none zero e = refl
tried_none (suc k) e = absurd (omega arith)

pub tried_some : (w : ℕ) → 0 < w → tried_in w ≡ Some (w - 1)
unfolding tried_in
tried_some zero h = absurd (omega arith)
tried_some (suc k) h = ap Some (back k)
  where
    back : (k : ℕ) → k ≡ suc k - 1
    back k = omega arith

pub slot_inside : (head k slots : ℕ) → head + k < slots → slot_of head k slots ≡ head + k
unfolding slot_of
slot_inside head k slots h = pick_true (ltb (head + k) slots) _ _ (lt→ltb (head + k) slots h)

pub slot_round : (head k slots : ℕ) → slots ≤ head + k → slot_of head k slots ≡ head + k - slots
unfolding slot_of
slot_round head k slots h = pick_false (ltb (head + k) slots) _ _ (nltb (head + k) slots h)

module _ (words : List ℕ) (q : Queue) where
  refused : (i : Bound) → T (full words q) → PushedTo words q i q words
  unfolding pushed pushed_words
  refused i t = (sym (pick_true (full words q) _ _ t), sym (pick_true (full words q) _ _ t))

  -- a push in each case: the queue and the words that it leaves
  pub push_out : (i : Bound) → slots_of words ≤ q.head → PushedTo words q i q words
  push_out i h = refused i (or_left (leb (slots_of words) q.head) (leb (slots_of words) q.waiting) (le→leb (slots_of words) q.head h))

  pub push_full : (i : Bound) → slots_of words ≤ q.waiting → PushedTo words q i q words
  push_full i h = refused i (or_right (leb (slots_of words) q.head) (leb (slots_of words) q.waiting) (le→leb (slots_of words) q.waiting h))

  pub push_room : q.head < slots_of words → q.waiting < slots_of words → pushed words q ≡ record { head = q.head; waiting = q.waiting + 1 }
  unfolding pushed
  push_room h k =
      pick_false (full words q) _ _
      (nor_both (leb (slots_of words) q.head) (leb (slots_of words) q.waiting) (nleb (slots_of words) q.head h) (nleb (slots_of words) q.waiting k))

  pub push_room_words : (i : Bound) → q.head < slots_of words → q.waiting < slots_of words
      → pushed_words words q i ≡ stored words (slot_of q.head q.waiting (slots_of words) * 4) i
  unfolding pushed_words
  push_room_words i h k =
      pick_false (full words q) _ _
      (nor_both (leb (slots_of words) q.head) (leb (slots_of words) q.waiting) (nleb (slots_of words) q.head h) (nleb (slots_of words) q.waiting k))

  pub pop_some : q.head < slots_of words → 0 < q.waiting
      → popped words q
      ≡ record { bound = loaded words (q.head * 4); queue = record { head = slot_of q.head 1 (slots_of words); waiting = q.waiting - 1 } }
  unfolding popped
  pop_some h k =
      pick_false (empty words q) _ _
      (nor_both (leb (slots_of words) q.head) (eqb q.waiting 0) (nleb (slots_of words) q.head h) (eqb_no q.waiting 0 (λ e. omega arith)))

  pub take_out : slots_of words ≤ q.head → taken words q ≡ None
  unfolding taken
  take_out h = pick_true (empty words q) _ _ (or_left (leb (slots_of words) q.head) (eqb q.waiting 0) (le→leb (slots_of words) q.head h))

  pub take_none : q.waiting ≡ 0 → taken words q ≡ None
  unfolding taken
  take_none h = pick_true (empty words q) _ _ (or_right (leb (slots_of words) q.head) (eqb q.waiting 0) (eqb_yes q.waiting 0 h))

  pub take_some : q.head < slots_of words → 0 < q.waiting → taken words q ≡ Some (popped words q)
  unfolding taken
  take_some h k =
      pick_false (empty words q) _ _
      (nor_both (leb (slots_of words) q.head) (eqb q.waiting 0) (nleb (slots_of words) q.head h) (eqb_no q.waiting 0 (λ e. omega arith)))

  -- what a taken interval says, and that none is taken
  pub take_popped : (p : Popped) → taken words q ≡ Some p → (0 < q.waiting) × (p ≡ popped words q)
  take_popped p e =
      order q.waiting 0
      (λ h. let n = sym (take_none (omega arith)) ∙ e in absurd cc)
      (λ w. order (slots_of words) q.head
      (λ h. let n = sym (take_out h) ∙ e in absurd cc)
      (λ h. (w, same (popped words q) p (sym (take_some h w) ∙ e))))
    where
      same : (x y : Popped) → Some x ≡ Some y → y ≡ x
      same x y e = cc

  pub take_all : q.head < slots_of words → taken words q ≡ None → q.waiting ≤ 0
  take_all h e = order q.waiting 0 (λ l. l) (λ w. let n = sym (take_some h w) ∙ e in absurd cc)
