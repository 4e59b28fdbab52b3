-- The queue only loses: what a measure finds in an interval, the parts after a try and a shrunk interval hold no more of. So no cut lies in two
-- intervals, at most f wait, and with weights 2k − 1, of which a try takes 1, at most 2f − 1 cuts are tried and the queue runs empty.
-- Assumes nothing.
use mathlib.Core.Path.{◌≡◌, refl, sym, ap, ◌∙◌}
use Prim.Native.Nat.{ℕ, zero, suc, ◌+◌, ◌-◌, ◌*◌, ◌≤◌, min}
use native.Mathlib.Omega.{arith}
use mathlib.Core.List.{List, [], ◌∷◌}
use lib.ListN.{length}
use lib.Dec.{leb, leb→le, le→leb}
use Rattle.basics.specs.Choice.{bit}
use Rattle.basics.specs.Lists.{All, total, tally}
use Rattle.basics.proofs.Choice.{decide, order, and_left, and_right, and_both, bit_true, bit_false, bit_le}
use Rattle.basics.proofs.Lists.{all_map}
use Rattle.std.specs.Prelude.{None}
use Rattle.interval_pruner.specs.declared.Bound.{Bound}
use Rattle.interval_pruner.specs.declared.Zeros.{Zeros}
use Rattle.interval_pruner.specs.Column.{Column, place_in, error_of}
use Rattle.column_search.specs.Search.{State, limit, zeros_of, middle, upper_part, lower_part, queued, try_cut, dropped, turn_on, turn, turns, start, column_run}
use Rattle.column_search.specs.Laws.{Inside, Feasible, RunOf, Disjoint, Waits, Tries, Ends, holds, count, state_after}
use Rattle.column_search.specs.Loop.{Waiting, Kept, Running, Loops, size, weight, finish}
use Rattle.column_search.proofs.Steps.{parts_total, try_total, turn_case}
use Rattle.column_search.proofs.Kept.{middle_placed, kept_turn, kept_start, kept_after, counts}

-- ---- a measure of intervals, and what a try costs

-- a smaller interval measures no more, and a try's cost is paid by what the parts measure less
pub record Measure (c : Column) (W : Bound → ℕ) (cost : ℕ → ℕ) : Type 0 where
  pub shrinks : (i j : Bound) → Inside i j → W j ≤ W i
  pub parts : (z : Zeros) (b : ℕ) (j : Bound) → j.first ≤ j.last → 1 ≤ place_in c (middle j)
      → cost (middle j) + total W (queued c z b (middle j) j) ≤ W j

module _ (c : Column) (bound first last : ℕ) (fair : Feasible c first last) (W : Bound → ℕ) (cost : ℕ → ℕ) (measure : Measure c W cost) where
  -- what was paid, and what the queue still measures
  abbrev Spent : State → ℕ
  Spent s = total cost s.tried + total W s.queue

  spent_try : (s : State) (i : Bound) (rest : List Bound) (j : Bound) → RunOf first last i → Inside i j
      → Spent (try_cut c bound s rest j) ≤ Spent (dropped s (i ∷ rest))
  unfolding try_cut
  spent_try s i rest j r n =
      omega (
        arith,
        try_total W c bound s rest j,
        measure.shrinks i j n,
        measure.parts (zeros_of c (middle j ∷ s.tried)) (limit bound (min (error_of c (middle j)) s.error)) j n.full
            (middle_placed c bound first last fair i j r n),
      )

  spent_on : (s : State) (q : List Bound) → All (Waiting c first last (limit bound s.error) s.tried) q
      → Spent (turn_on c bound s q) ≤ Spent (dropped s q)
  unfolding turn_on
  spent_on s [] h = omega arith
  spent_on s (i ∷ rest) h =
      turn_case (λ t. Spent t ≤ Spent (dropped s (i ∷ rest))) c bound s i rest (omega arith) (λ j n. spent_try s i rest j h.0.run n)

  pub spent_turn : (s : State) → Kept c bound first last s → Spent (turn c bound s) ≤ Spent s
  spent_turn s h = spent_on s s.queue h.queue

  pub spent_turns : (n : ℕ) (s : State) → Kept c bound first last s → Spent (turns c bound n s) ≤ Spent s
  unfolding turns
  spent_turns zero s h = omega arith
  spent_turns (suc n) s h =
      omega (arith, spent_turns n (turn c bound s) (kept_turn c bound first last fair s h), spent_turn s h)

-- ---- three measures

by_size : (c : Column) → Measure c size (λ _. 0)
by_size c =
    record {
      shrinks = λ i j n. omega arith;
      parts = λ z b j h p. omega (
        arith,
        parts_total size c z b (middle j) j (j.last - middle j) (suc (middle j - j.first)) (size j)
            (omega arith) h p (λ u k l. omega arith) (λ u k l. omega arith) (λ k. omega arith),
      );
    }

by_weight : (c : Column) → Measure c weight (λ _. 1)
by_weight c =
    record {
      shrinks = λ i j n. omega arith;
      parts = λ z b j h p. omega (
        arith,
        parts_total weight c z b (middle j) j (suc (2 * (j.last - suc (middle j)))) (suc (2 * (middle j - j.first))) (2 * (j.last - j.first))
            (omega arith) h p (λ u k l. omega arith) (λ u k l. omega arith) (λ k. omega arith),
      );
    }

-- whether it holds a cut
abbrev held : ℕ → Bound → ℕ
held k i = bit (holds k i)

held_le : (k : ℕ) (i : Bound) (n : ℕ) → (i.first ≤ k → k ≤ i.last → 1 ≤ n) → held k i ≤ n
held_le k i n f =
    decide (holds k i)
    (λ t. omega (
      arith,
      bit_le (holds k i),
      f (leb→le i.first k (and_left (leb i.first k) (leb k i.last) t)) (leb→le k i.last (and_right (leb i.first k) (leb k i.last) t)),
    ))
    (λ t. omega (arith, bit_false (holds k i) t))

held_in : (k : ℕ) (i : Bound) → i.first ≤ k → k ≤ i.last → 1 ≤ held k i
held_in k i h g =
    omega (arith, bit_true (holds k i) (and_both (leb i.first k) (leb k i.last) (le→leb i.first k h) (le→leb k i.last g)))

by_held : (c : Column) (k : ℕ) → Measure c (held k) (λ _. 0)
by_held c k =
    record {
      shrinks = λ i j n. held_le k j (held k i) (λ x y. held_in k i (omega arith) (omega arith));
      parts = λ z b j h p. order k (middle j)
          (λ l. omega (
            arith,
            parts_total (held k) c z b (middle j) j 0 (held k j) (held k j) (omega arith) h p
                (λ u x y. held_le k (upper_part j (middle j) u) 0 (λ v w. absurd (omega arith)))
                (λ u x y. held_le k (lower_part j (middle j) u) (held k j) (λ v w. held_in k j (omega arith) (omega arith)))
                (λ _. omega arith),
          ))
          (λ l. omega (
            arith,
            parts_total (held k) c z b (middle j) j (held k j) 0 (held k j) (omega arith) h p
                (λ u x y. held_le k (upper_part j (middle j) u) (held k j) (λ v w. held_in k j (omega arith) (omega arith)))
                (λ u x y. held_le k (lower_part j (middle j) u) 0 (λ v w. absurd (omega arith)))
                (λ _. omega arith),
          ));
    }

tally_total : (k : ℕ) (q : List Bound) → tally (holds k) q ≡ total (held k) q
tally_total k [] = refl
tally_total k (i ∷ q) = omega (arith, tally_total k q)

length_total : (l : List ℕ) → total (λ _. 1) l ≡ length l
length_total [] = refl
length_total (k ∷ l) = omega (arith, length_total l)

zero_total : (l : List ℕ) → total (λ _. 0) l ≡ 0
zero_total [] = refl
zero_total (k ∷ l) = omega (arith, zero_total l)

length_size : (q : List Bound) → length q ≤ total size q
length_size [] = omega arith
length_size (i ∷ q) = omega (arith, length_size q)

-- ---- the statements on the queue

pub disjoint : Disjoint
disjoint c bound first last error n fair =
    let s : State = state_after c bound first last error n in
    record {
      runs = all_map (Waiting c first last (limit bound s.error) s.tried) (RunOf first last) (λ i w. w.run) s.queue
          (kept_after c bound first last error n fair).queue;
      once = λ k. omega (
        arith,
        tally_total k s.queue,
        spent_turns c bound first last fair (held k) (λ _. 0) (by_held c k) n (start first last error) (kept_start c bound first last fair error),
        bit_le (holds k (record { first = first; last = last; left = None; right = None })),
      );
    }

pub waits : Waits
waits c bound first last error n fair =
    let s : State = state_after c bound first last error n in
    omega (
      arith,
      fair.full,
      length_size s.queue,
      spent_turns c bound first last fair size (λ _. 0) (by_size c) n (start first last error) (kept_start c bound first last fair error),
    )

pub tries : Tries
tries c bound first last error n fair =
    let s : State = state_after c bound first last error n in
    omega (
      arith,
      fair.full,
      length_total s.tried,
      spent_turns c bound first last fair weight (λ _. 1) (by_weight c) n (start first last error) (kept_start c bound first last fair error),
    )

-- ---- the end

turn_done : (c : Column) (bound : ℕ) (s : State) → s.queue ≡ [] → turn c bound s ≡ s
unfolding turn_on
turn_done c bound s e = ap (turn_on c bound s) e ∙ (λ i. record { queue = sym e i; error = s.error; best = s.best; tried = s.tried })

turns_done : (c : Column) (bound n : ℕ) (s : State) → s.queue ≡ [] → turns c bound n s ≡ s
unfolding turns
turns_done c bound zero s e = refl
turns_done c bound (suc n) s e = ap (turns c bound n) (turn_done c bound s e) ∙ turns_done c bound n s e

weightless : (q : List Bound) → total weight q ≡ 0 → q ≡ []
weightless [] e = refl
weightless (i ∷ q) e = absurd (omega arith)

module _ (c : Column) (bound first last : ℕ) (fair : Feasible c first last) where
  falls_on : (s : State) (q : List Bound) → All (Waiting c first last (limit bound s.error) s.tried) q
      → total weight (turn_on c bound s q).queue ≤ total weight q - 1
  unfolding turn_on
  falls_on s [] h = omega arith
  falls_on s (i ∷ rest) h =
      turn_case (λ t. total weight t.queue ≤ total weight (i ∷ rest) - 1) c bound s i rest (omega arith)
      (λ j n. omega (
        arith,
        (counts c bound s rest j).0,
        length_total (try_cut c bound s rest j).tried,
        length_total s.tried,
        spent_try c bound first last fair weight (λ _. 1) (by_weight c) s i rest j h.0.run n,
      ))

  falls : (s : State) → Kept c bound first last s → total weight (turn c bound s).queue ≤ total weight s.queue - 1
  falls s h = falls_on s s.queue h.queue

  empties : (n : ℕ) (s : State) → Kept c bound first last s → total weight s.queue ≤ n → (turns c bound n s).queue ≡ []
  unfolding turns
  empties zero s h g = weightless s.queue (omega arith)
  empties (suc n) s h g = empties n (turn c bound s) (kept_turn c bound first last fair s h) (omega (arith, falls s h))

  -- any two counts of turns that are large enough come to the same
  enough : (n m : ℕ) (s : State) → Kept c bound first last s → total weight s.queue ≤ n → total weight s.queue ≤ m
      → turns c bound n s ≡ turns c bound m s
  unfolding turns
  enough zero m s h hn hm = sym (turns_done c bound m s (weightless s.queue (omega arith)))
  enough (suc n) zero s h hn hm = turns_done c bound (suc n) s (weightless s.queue (omega arith))
  enough (suc n) (suc m) s h hn hm =
      enough n m (turn c bound s) (kept_turn c bound first last fair s h) (omega (arith, falls s h)) (omega (arith, falls s h))

  finish_turn : (s : State) → Kept c bound first last s → finish c bound (turn c bound s) ≡ finish c bound s
  unfolding finish turns
  finish_turn s h =
      enough (total weight (turn c bound s).queue) (total weight s.queue) (turn c bound s) (kept_turn c bound first last fair s h)
      (omega arith) (omega (arith, falls s h))
      ∙ enough (suc (total weight s.queue)) (total weight s.queue) s h (omega arith) (omega arith)

pub ends : Ends
unfolding column_run
ends c bound first last error fair =
    let k : Kept c bound first last (start first last error) = kept_start c bound first last fair error in (
      empties c bound first last fair (2 * count first last) (start first last error) k (omega (arith, fair.full)),
      λ n h. enough c bound first last fair n (2 * count first last) (start first last error) k (omega (arith, fair.full)) (omega (arith, fair.full)),
    )

module _ (c : Column) (bound first last error : ℕ) (fair : Feasible c first last) where
  running_start : Running c bound first last error (start first last error)
  unfolding finish
  running_start =
      record {
        kept = kept_start c bound first last fair error;
        sizes = omega (arith, fair.full);
        weights = omega (arith, fair.full);
        comes = (ends c bound first last error fair).1 (total weight (start first last error).queue) (omega (arith, fair.full));
      }

  running_turn : (s : State) → Running c bound first last error s → Running c bound first last error (turn c bound s)
  running_turn s r =
      let t : State = turn c bound s in
      record {
        kept = kept_turn c bound first last fair s r.kept;
        sizes = omega (
          arith,
          zero_total t.tried,
          zero_total s.tried,
          spent_turn c bound first last fair size (λ _. 0) (by_size c) s r.kept,
        );
        weights = omega (
          arith,
          length_total t.tried,
          length_total s.tried,
          spent_turn c bound first last fair weight (λ _. 1) (by_weight c) s r.kept,
        );
        comes = finish_turn c bound first last fair s r.kept ∙ r.comes;
      }

pub loops : Loops
unfolding finish
loops c bound first last error fair =
    record {
      begins = running_start c bound first last error fair;
      keeps = running_turn c bound first last error fair;
      waits = λ s r. omega (arith, length_size s.queue, r.sizes);
      lighter = λ s r. falls c bound first last fair s r.kept;
      done = λ s r e. sym (turns_done c bound (total weight s.queue) s e) ∙ r.comes;
    }
