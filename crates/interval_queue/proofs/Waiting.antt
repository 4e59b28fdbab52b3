-- The ring holds a list: a slot is written where none waits, so those that wait stay as they are; and the slot after the head heads what is
-- left. Assumes nothing.
use mathlib.Core.Path.{◌≡◌, refl, sym, ap, ap₂, ◌∙◌}
use mathlib.Core.Logic.{◌⊎◌, inl, inr, ⊎_elim}
use Prim.Native.Nat.{ℕ, zero, suc, ◌+◌, ◌-◌, ◌*◌, ◌/◌, ◌≤◌, ◌<◌}
use native.Mathlib.Omega.{arith}
use native.Mathlib.Numerals.{add-one}
use mathlib.Core.List.{List, [], ◌∷◌, ◌++◌}
use lib.ListN.{length, get_or, set, length-set}
use lib.Seq.{get_or-set_same, get_or-set_other}
use Rattle.basics.specs.Lists.{table}
use Rattle.basics.proofs.Choice.{order}
use Rattle.basics.proofs.Lists.{table_next, table_same}
use Rattle.std.specs.Prelude.{Option, Some, None}
use Rattle.interval_pruner.specs.declared.Bound.{Bound}
use Rattle.interval_queue.specs.declared.Queue.{Queue}
use Rattle.interval_queue.specs.Ring.{largest_word, word_of, word_of_tried, tried_in, stored, loaded, slots_of, slot_of, contents, popped}
use Rattle.interval_queue.specs.Laws.{Sane, SmallBound, SmallCut, PushAppends, PopTakesFirst}
use Rattle.interval_queue.proofs.Cases.{slot_inside, slot_round, push_room, push_room_words, pop_some, take_some}

-- ---- words

small_word : (n : ℕ) → n ≤ largest_word → word_of n ≡ n
unfolding word_of
small_word n h = omega arith

cut_suc : (k w : ℕ) → w ≡ k + 1 → tried_in w ≡ Some k
unfolding tried_in
cut_suc k zero e = absurd (omega arith)
cut_suc k (suc w) e = ap Some (back w e)
  where
    back : (w : ℕ) → suc w ≡ k + 1 → w ≡ k
    back w e = omega arith

cut_mark : (t : Option ℕ) → SmallCut t → tried_in (word_of_tried t) ≡ t
cut_mark None h = unfold tried_in word_of_tried in refl
cut_mark (Some k) h = unfold word_of_tried in cut_suc k (word_of (k + 1)) (small_word (k + 1) (above k h))
  where
    above : (k : ℕ) → k < largest_word → k + 1 ≤ largest_word
    above k h = omega arith

fields : (x y : Bound) → x.first ≡ y.first → x.last ≡ y.last → x.left ≡ y.left → x.right ≡ y.right → x ≡ y
fields x y a b l r =
    ap₂ (λ (f g : ℕ). record { first = f; last = g; left = x.left; right = x.right }) a b
    ∙ ap₂ (λ (f g : Option ℕ). record { first = y.first; last = y.last; left = f; right = g }) l r

-- ---- an interval stored, and read where it stands and elsewhere

pub length_stored : (words : List ℕ) (at : ℕ) (i : Bound) → length (stored words at i) ≡ length words
unfolding stored
length_stored words at i = simp length-set

-- after one, two and three of the four words
abbrev one : List ℕ → ℕ → Bound → List ℕ
one words at i = set words at (word_of i.first)

abbrev two : List ℕ → ℕ → Bound → List ℕ
two words at i = set (one words at i) (at + 1) (word_of i.last)

abbrev three : List ℕ → ℕ → Bound → List ℕ
three words at i = set (two words at i) (at + 2) (word_of_tried i.left)

module _ (words : List ℕ) (at : ℕ) (i : Bound) where
  elsewhere : (j : ℕ) → (j < at) ⊎ (at + 4 ≤ j) → get_or (stored words at i) j 0 ≡ get_or words j 0
  unfolding stored
  elsewhere j h =
      get_or-set_other (three words at i) (at + 3) j (word_of_tried i.right) 0 (λ e. ⊎_elim (λ l. omega arith) (λ l. omega arith) h)
      ∙ get_or-set_other (two words at i) (at + 2) j (word_of_tried i.left) 0 (λ e. ⊎_elim (λ l. omega arith) (λ l. omega arith) h)
      ∙ get_or-set_other (one words at i) (at + 1) j (word_of i.last) 0 (λ e. ⊎_elim (λ l. omega arith) (λ l. omega arith) h)
      ∙ get_or-set_other words at j (word_of i.first) 0 (λ e. ⊎_elim (λ l. omega arith) (λ l. omega arith) h)

  loaded_elsewhere : (j : ℕ) → (j + 4 ≤ at) ⊎ (at + 4 ≤ j) → loaded (stored words at i) j ≡ loaded words j
  unfolding loaded
  loaded_elsewhere j h =
      let e : (d : ℕ) → d < 4 → get_or (stored words at i) (j + d) 0 ≡ get_or words (j + d) 0 =
      λ d k. elsewhere (j + d) (⊎_elim (λ l. inl (omega arith)) (λ l. inr (omega arith)) h) in
      let e₀ : get_or (stored words at i) j 0 ≡ get_or words j 0 = elsewhere j (⊎_elim (λ l. inl (omega arith)) (λ l. inr (omega arith)) h) in
      let e₁ = e 1 (omega arith) in
      let e₂ = e 2 (omega arith) in
      let e₃ = e 3 (omega arith) in
      cc

  module _ (room : at + 4 ≤ length words) where
    there_first : get_or (stored words at i) at 0 ≡ word_of i.first
    unfolding stored
    there_first =
        get_or-set_other (three words at i) (at + 3) at (word_of_tried i.right) 0 (λ e. omega arith)
        ∙ get_or-set_other (two words at i) (at + 2) at (word_of_tried i.left) 0 (λ e. omega arith)
        ∙ get_or-set_other (one words at i) (at + 1) at (word_of i.last) 0 (λ e. omega arith)
        ∙ get_or-set_same words at (word_of i.first) 0 (omega arith)

    there_last : get_or (stored words at i) (at + 1) 0 ≡ word_of i.last
    unfolding stored
    there_last =
        get_or-set_other (three words at i) (at + 3) (at + 1) (word_of_tried i.right) 0 (λ e. omega arith)
        ∙ get_or-set_other (two words at i) (at + 2) (at + 1) (word_of_tried i.left) 0 (λ e. omega arith)
        ∙ get_or-set_same (one words at i) (at + 1) (word_of i.last) 0 (simp length-set (omega arith))

    there_left : get_or (stored words at i) (at + 2) 0 ≡ word_of_tried i.left
    unfolding stored
    there_left =
        get_or-set_other (three words at i) (at + 3) (at + 2) (word_of_tried i.right) 0 (λ e. omega arith)
        ∙ get_or-set_same (two words at i) (at + 2) (word_of_tried i.left) 0 (simp length-set (omega arith))

    there_right : get_or (stored words at i) (at + 3) 0 ≡ word_of_tried i.right
    unfolding stored
    there_right =
        get_or-set_same (three words at i) (at + 3) (word_of_tried i.right) 0
        (simp length-set (omega arith))

    loaded_there : SmallBound i → loaded (stored words at i) at ≡ i
    unfolding loaded
    loaded_there s =
        let a = there_first ∙ small_word i.first s.first in
        let b = there_last ∙ small_word i.last s.last in
        let l = ap tried_in there_left ∙ cut_mark i.left s.left in
        let r = ap tried_in there_right ∙ cut_mark i.right s.right in
        fields (loaded (stored words at i) at) (record { first = i.first; last = i.last; left = i.left; right = i.right }) a b l r

-- ---- slots

pub slot_in : (head k slots : ℕ) → head < slots → k ≤ slots → slot_of head k slots < slots
slot_in head k slots h l =
    order slots (head + k) (λ g. omega (arith, slot_round head k slots g)) (λ g. omega (arith, slot_inside head k slots g))

apart : (head k m slots : ℕ) → head < slots → k < m → m < slots → (slot_of head k slots < slot_of head m slots) ⊎ (slot_of head m slots < slot_of head k slots)
apart head k m slots h l g =
    order slots (head + k)
    (λ a. inl (omega (arith, slot_round head k slots a, slot_round head m slots (omega arith))))
    (λ a. order slots (head + m)
    (λ b. inr (omega (arith, slot_inside head k slots a, slot_round head m slots b)))
    (λ b. inl (omega (arith, slot_inside head k slots a, slot_inside head m slots b))))

slot_next : (head k slots : ℕ) → head < slots → k < slots → slot_of (slot_of head 1 slots) k slots ≡ slot_of head (suc k) slots
slot_next head k slots h l =
    order slots (head + 1)
    (λ a.
    ap (λ (n : ℕ). slot_of n k slots) (slot_round head 1 slots a ∙ last a)
    ∙ slot_inside 0 k slots (omega arith)
    ∙ sym (slot_round head (suc k) slots (omega arith) ∙ over a))
    (λ a.
    ap (λ (n : ℕ). slot_of n k slots) (slot_inside head 1 slots a)
    ∙ order slots (head + 1 + k)
    (λ b. slot_round (head + 1) k slots b ∙ sym (slot_round head (suc k) slots (omega arith) ∙ shift))
    (λ b. slot_inside (head + 1) k slots b ∙ sym (slot_inside head (suc k) slots (omega arith) ∙ shift')))
  where
    last : slots ≤ head + 1 → head + 1 - slots ≡ 0
    last a = omega arith

    over : slots ≤ head + 1 → head + suc k - slots ≡ 0 + k
    over a = omega arith

    shift : head + suc k - slots ≡ head + 1 + k - slots
    shift = omega arith

    shift' : head + suc k ≡ head + 1 + k
    shift' = omega arith

four : (n : ℕ) → n / 4 * 4 ≤ n
four n = omega arith

-- ---- push

module _ (words : List ℕ) (q : Queue) (i : Bound) (s : Sane words q) (room : q.waiting < slots_of words) (small : SmallBound i) where
  fits : slot_of q.head q.waiting (slots_of words) * 4 + 4 ≤ length words
  fits = omega (arith, four (length words), slot_in q.head q.waiting (slots_of words) s.head_in s.few)

  -- the intervals that waited before are read as before
  kept : (k : ℕ) → k < q.waiting
      → loaded (stored words (slot_of q.head q.waiting (slots_of words) * 4) i) (slot_of q.head k (slots_of words) * 4)
      ≡ loaded words (slot_of q.head k (slots_of words) * 4)
  kept k h =
      loaded_elsewhere words (slot_of q.head q.waiting (slots_of words) * 4) i (slot_of q.head k (slots_of words) * 4)
      (⊎_elim (λ l. inl (omega arith)) (λ l. inr (omega arith)) (apart q.head k q.waiting (slots_of words) s.head_in h room))

  appended : contents (stored words (slot_of q.head q.waiting (slots_of words) * 4) i) (record { head = q.head; waiting = suc q.waiting })
      ≡ contents words q ++ (i ∷ [])
  unfolding contents
  appended =
      let n = q.waiting in
      let slots = slots_of words in
      let new : List ℕ = stored words (slot_of q.head n slots * 4) i in
      let same : slots_of new ≡ slots = ap (λ (l : ℕ). l / 4) (length_stored words (slot_of q.head n slots * 4) i) in
      ap (λ (m : ℕ). table (λ k. loaded new (slot_of q.head k m * 4)) (suc n)) same
      ∙ table_next (λ k. loaded new (slot_of q.head k slots * 4)) n
      ∙ ap₂ (λ (l : List Bound) (b : Bound). l ++ (b ∷ []))
      (table_same (λ k. loaded new (slot_of q.head k slots * 4)) (λ k. loaded words (slot_of q.head k slots * 4)) n kept)
      (loaded_there words (slot_of q.head n slots * 4) i fits small)

  sane_after : Sane (stored words (slot_of q.head q.waiting (slots_of words) * 4) i) (record { head = q.head; waiting = q.waiting + 1 })
  sane_after =
      let e = ap (λ (l : ℕ). l / 4) (length_stored words (slot_of q.head q.waiting (slots_of words) * 4) i) in
      record { head_in = omega (arith, s.head_in); few = omega arith }

pub push_appends : PushAppends
push_appends words q i s room small =
    rw (push_room_words words q i s.head_in room, push_room words q s.head_in room) (
      ap (λ (n : ℕ). contents (stored words (slot_of q.head q.waiting (slots_of words) * 4) i) (record { head = q.head; waiting = n })) (add-one q.waiting)
          ∙ appended words q i s room small,
      sane_after words q i s room small,
    )

-- ---- pop

first_popped : (words : List ℕ) (q : Queue) → Sane words q → 0 < q.waiting
    → (contents words q ≡ (popped words q).bound ∷ contents words (popped words q).queue) × Sane words (popped words q).queue
unfolding contents
first_popped words q s some =
    rw (pop_some words q s.head_in some)
    (first q.waiting some s.few, record { head_in = slot_in q.head 1 (slots_of words) s.head_in (omega (arith, s.head_in)); few = omega (arith, s.few) })
  where
    back : (n : ℕ) → n ≡ suc n - 1
    back n = omega arith

    front : q.head ≡ slot_of q.head 0 (slots_of words)
    front = sym (slot_inside q.head 0 (slots_of words) (omega (arith, s.head_in)) ∙ omega arith)

    first : (n : ℕ) → 0 < n → n ≤ slots_of words
        → table (λ k. loaded words (slot_of q.head k (slots_of words) * 4)) n
        ≡ loaded words (q.head * 4) ∷ table (λ k. loaded words (slot_of (slot_of q.head 1 (slots_of words)) k (slots_of words) * 4)) (n - 1)
    first zero h l = absurd (omega arith)
    first (suc n) h l =
        ap₂ (λ (b : Bound) (rest : List Bound). b ∷ rest)
        (ap (λ (k : ℕ). loaded words (k * 4)) (sym front))
        (table_same (λ k. loaded words (slot_of q.head (suc k) (slots_of words) * 4))
        (λ k. loaded words (slot_of (slot_of q.head 1 (slots_of words)) k (slots_of words) * 4)) n
        (λ k g. ap (λ (m : ℕ). loaded words (m * 4)) (sym (slot_next q.head k (slots_of words) s.head_in (omega arith))))
        ∙ ap (table (λ k. loaded words (slot_of (slot_of q.head 1 (slots_of words)) k (slots_of words) * 4))) (back n))

pub pop_takes_first : PopTakesFirst
pop_takes_first words q s some =
    let p = first_popped words q s some in
    (take_some words q s.head_in some, p.0, p.1)
