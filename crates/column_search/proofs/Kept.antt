-- Between any two intervals: the queued ones are runs of feasible cuts, the cuts that they remember were tried, on their two sides, and no tried
-- cut's error is below B, since B fell to it when it was tried and only falls. Assumes nothing.
use mathlib.Core.Path.{◌≡◌, refl}
use Prim.Native.Nat.{ℕ, zero, suc, ◌≤◌, ◌<◌, min}
use native.Mathlib.Omega.{arith}
use mathlib.Core.List.{List, [], ◌∷◌}
use Rattle.basics.specs.Lists.{All, here, there}
use Rattle.basics.proofs.Lists.{all_map}
use Rattle.std.specs.Prelude.{Option, Some, None}
use Rattle.interval_pruner.specs.declared.Bound.{Bound}
use Rattle.interval_pruner.specs.declared.Zeros.{Zeros}
use Rattle.interval_pruner.specs.Column.{Column, place_in, error_of}
use Rattle.column_search.specs.Search.{State, limit, zeros_of, middle, queued, try_cut, dropped, turn_on, turn, turns, start}
use Rattle.column_search.specs.Laws.{Inside, Feasible, RunOf, Among, Remembers, TriesFeasible, TriesCounted, state_after}
use Rattle.column_search.specs.Loop.{Seen, Waiting, Kept}
use Rattle.column_search.proofs.Steps.{parts_all, try_all, turn_case}
use Rattle.interval_pruner.specs.Pruner.{Held}

pub cut_map : (P Q : ℕ → Type 0) → ((k : ℕ) → P k → Q k) → (t : Option ℕ) → Held P t → Held Q t
cut_map P Q f None h = tt
cut_map P Q f (Some k) h = f k h

module _ (c : Column) (first last b b' m : ℕ) (tried : List ℕ) (less : b' ≤ b) where
  seen_later : (k : ℕ) → Seen c first last b tried k → Seen c first last b' (m ∷ tried) k
  seen_later k s = record { from = s.from; till = s.till; among = there s.among; reached = omega arith }

  -- what a part remembers, handed down from i
  left_later : (i j : Bound) → i.first ≤ j.first → j.left ≡ i.left
      → Waiting c first last b tried i → Held (λ k. (k < j.first) × Seen c first last b' (m ∷ tried) k) j.left
  left_later i j h e w =
      rw e (cut_map (λ k. (k < i.first) × Seen c first last b tried k) (λ k. (k < j.first) × Seen c first last b' (m ∷ tried) k)
      (λ k g. (omega arith, seen_later k g.1)) i.left w.left)

  right_later : (i j : Bound) → j.last ≤ i.last → j.right ≡ i.right
      → Waiting c first last b tried i → Held (λ k. (j.last ≤ k) × Seen c first last b' (m ∷ tried) k) j.right
  right_later i j h e w =
      rw e (cut_map (λ k. (i.last ≤ k) × Seen c first last b tried k) (λ k. (j.last ≤ k) × Seen c first last b' (m ∷ tried) k)
      (λ k g. (omega arith, seen_later k g.1)) i.right w.right)

  waiting_later : (i : Bound) → Waiting c first last b tried i → Waiting c first last b' (m ∷ tried) i
  waiting_later i w =
      record { run = w.run; left = left_later i i (omega arith) refl w; right = right_later i i (omega arith) refl w }

module _ (c : Column) (bound first last : ℕ) (fair : Feasible c first last) where
  -- the cut that a try of j tries
  pub middle_placed : (i j : Bound) → RunOf first last i → Inside i j → 1 ≤ place_in c (middle j)
  middle_placed i j r n = fair.placed (middle j) (omega arith) (omega arith)

  waiting_parts : (b b' : ℕ) (tried : List ℕ) (z : Zeros) (i j : Bound) → b' ≤ b → Waiting c first last b tried i → Inside i j
      → Seen c first last b' (middle j ∷ tried) (middle j)
      → All (Waiting c first last b' (middle j ∷ tried)) (queued c z b' (middle j) j)
  waiting_parts b b' tried z i j less w n s =
      let r : RunOf first last i = w.run in
      let m : ℕ = middle j in
      parts_all (Waiting c first last b' (m ∷ tried)) c z b' m j (omega arith) (middle_placed i j r n)
      (λ u k l. record {
        run = record { from = omega arith; full = l; till = omega arith };
        left = (k, s);
        right = right_later c first last b b' m tried less i j n.high n.right w;
      })
      (λ u k l. record {
        run = record { from = omega arith; full = k; till = omega arith };
        left = left_later c first last b b' m tried less i j n.low n.left w;
        right = (l, s);
      })

  pub kept_try : (s : State) (i : Bound) (rest : List Bound) (j : Bound) → Kept c bound first last (dropped s (i ∷ rest)) → Inside i j
      → Kept c bound first last (try_cut c bound s rest j)
  unfolding try_cut
  kept_try s i rest j h n =
      let m : ℕ = middle j in
      let b : ℕ = limit bound s.error in
      let b' : ℕ = limit bound (min (error_of c m) s.error) in
      let less : b' ≤ b = omega arith in
      let w : Waiting c first last b s.tried i = h.queue.0 in
      let r : RunOf first last i = w.run in
      let seen : Seen c first last b' (m ∷ s.tried) m =
      record { from = omega arith; till = omega arith; among = here refl; reached = omega arith } in
      record {
        queue = try_all (Waiting c first last b' (m ∷ s.tried)) c bound s rest j
            (all_map (Waiting c first last b s.tried) (Waiting c first last b' (m ∷ s.tried))
            (waiting_later c first last b b' m s.tried less) rest h.queue.1)
            (waiting_parts b b' s.tried (zeros_of c (m ∷ s.tried)) i j less w n seen);
        tried = (
          seen,
          all_map (Seen c first last b s.tried) (Seen c first last b' (m ∷ s.tried)) (seen_later c first last b b' m s.tried less)
              s.tried h.tried,
        );
      }

  kept_on : (s : State) (q : List Bound) → Kept c bound first last (dropped s q) → Kept c bound first last (turn_on c bound s q)
  unfolding turn_on
  kept_on s [] h = h
  kept_on s (i ∷ rest) h =
      turn_case (Kept c bound first last) c bound s i rest (record { queue = h.queue.1; tried = h.tried })
      (λ j n. kept_try s i rest j h n)

  pub kept_turn : (s : State) → Kept c bound first last s → Kept c bound first last (turn c bound s)
  kept_turn s h = kept_on s s.queue h

  pub kept_turns : (n : ℕ) (s : State) → Kept c bound first last s → Kept c bound first last (turns c bound n s)
  unfolding turns
  kept_turns zero s h = h
  kept_turns (suc n) s h = kept_turns n (turn c bound s) (kept_turn s h)

  pub kept_start : (error : ℕ) → Kept c bound first last (start first last error)
  kept_start error =
      record { queue = (record { run = record { from = omega arith; full = fair.full; till = omega arith }; left = tt; right = tt }, tt); tried = tt }

-- ---- the statements

pub kept_after : (c : Column) (bound first last error n : ℕ) → Feasible c first last → Kept c bound first last (state_after c bound first last error n)
kept_after c bound first last error n fair =
    kept_turns c bound first last fair n (start first last error) (kept_start c bound first last fair error)

pub remembers : Remembers
remembers c bound first last error n fair =
    let s : State = state_after c bound first last error n in
    let b : ℕ = limit bound s.error in
    all_map (Waiting c first last b s.tried) (λ i. Held (λ k. Among k s.tried) i.left × Held (λ k. Among k s.tried) i.right)
    (λ i w. (
      cut_map (λ k. (k < i.first) × Seen c first last b s.tried k) (λ k. Among k s.tried) (λ k g. g.1.among) i.left w.left,
      cut_map (λ k. (i.last ≤ k) × Seen c first last b s.tried k) (λ k. Among k s.tried) (λ k g. g.1.among) i.right w.right,
    ))
    s.queue (kept_after c bound first last error n fair).queue

pub tries_feasible : TriesFeasible
tries_feasible c bound first last error n fair =
    let s : State = state_after c bound first last error n in
    all_map (Seen c first last (limit bound s.error) s.tried) (λ k. (first ≤ k) × (k ≤ last)) (λ k g. (g.from, g.till))
    s.tried (kept_after c bound first last error n fair).tried

pub counts : TriesCounted
unfolding try_cut
counts c bound s rest i = (refl, refl)
