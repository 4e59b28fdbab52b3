-- The steps look at the errors of tried cuts only, and these are feasible; so evaluators that agree there make the same run. Assumes nothing.
use mathlib.Core.Path.{◌≡◌, refl, ap, ◌∙◌}
use Prim.Native.Nat.{ℕ, zero, suc, ◌+◌, ◌-◌, ◌*◌, ◌≤◌, ◌<◌, min}
use native.Mathlib.Omega.{arith}
use mathlib.Core.Bool.{Bool, ◌&&◌}
use mathlib.Core.Option.{some}
use mathlib.Core.List.{List, [], ◌∷◌, ◌++◌}
use lib.Dec.{leb, ltb, eqb}
use Rattle.basics.specs.Choice.{pick}
use Rattle.basics.specs.Lists.{All}
use Rattle.basics.proofs.Lists.{all_map}
use Rattle.cuts.specs.Lookups.{at_least, first_from}
use Rattle.std.specs.Prelude.{Option, Some, None}
use Rattle.interval_pruner.specs.declared.Bound.{Bound}
use Rattle.interval_pruner.specs.declared.Zeros.{Zeros}
use Rattle.interval_pruner.specs.declared.Parts.{Parts}
use Rattle.interval_pruner.specs.Column.{Column, place_in, left_error, right_error, error_of}
use Rattle.interval_pruner.specs.Pruner.{zeros_after, past, short, sum_of, held_error, hopeless, start_after, interval_within, end_above, end_before, shrunk_of, upper_from, lower_near, lower_to, parts_of, Held}
use Rattle.column_search.specs.Search.{State, limit, zeros_of, middle, part, upper_part, lower_part, queued, try_cut, dropped, after_shrink, turn_on, turn, turns, start, column_run}
use Rattle.column_search.specs.Laws.{Inside, Feasible, RunOf, over, Agree, SameRun, count, state_after}
use Rattle.column_search.specs.Loop.{Seen, Waiting, Kept, SameHope, SameShrunk, SameZeros, SameParts, SameTry, SameTurn, Recalls}
use Rattle.column_search.proofs.Steps.{shrunk_in_lem, shrunk_in}
use Rattle.column_search.proofs.Kept.{cut_map, kept_turn, kept_start}
use Rattle.column_search.proofs.Marks.{all_among}

module _ (c : Column) (errors : ℕ → ℕ × ℕ) where
  left_same : (k : ℕ) → Agree c errors k → left_error c k ≡ left_error (over c errors) k
  unfolding left_error
  left_same k e = ap (λ (p : ℕ × ℕ). p.0) e

  right_same : (k : ℕ) → Agree c errors k → right_error c k ≡ right_error (over c errors) k
  unfolding right_error
  right_same k e = ap (λ (p : ℕ × ℕ). p.1) e

  error_same : (k : ℕ) → Agree c errors k → error_of c k ≡ error_of (over c errors) k
  error_same k e = λ t. left_same k e t + right_same k e t

  -- ---- steps 1 and 2

  held_same : {f g : ℕ → ℕ} → ((k : ℕ) → Agree c errors k → f k ≡ g k) → (o : Option ℕ) → Held (Agree c errors) o → held_error f o ≡ held_error g o
  unfolding held_error
  held_same e None h = refl
  held_same e (Some k) h = e k h

  start_after_same : (b : ℕ) (o : Option ℕ) (first : ℕ) → Held (Agree c errors) o → start_after c b o first ≡ start_after (over c errors) b o first
  unfolding start_after
  start_after_same b None first h = refl
  start_after_same b (Some k) first h =
      ap (λ (x : ℕ). pick (leb b (x + c.gap)) (first_from (at_least c.places (place_in c k + (x + c.gap - b) + 1)) c.places first) first)
      (error_same k h)

  end_above_same : (i : Bound) (x first last : ℕ) → end_above c i x first last ≡ end_above (over c errors) i x first last
  unfolding end_above
  end_above_same i x first last = refl

  end_before_same : (b : ℕ) (o : Option ℕ) (i : Bound) (first last : ℕ) → Held (Agree c errors) o
      → end_before c b o i first last ≡ end_before (over c errors) b o i first last
  unfolding end_before
  end_before_same b None i first last h = refl
  end_before_same b (Some k) i first last h =
      ap (λ (x : ℕ). pick (leb b (x + c.gap)) (end_above c i (place_in c k - (x + c.gap - b + 1)) first last) (interval_within i first last)) (error_same k h)
      ∙ ap (λ (r : Option Bound). pick (leb b (sum_of (over c errors) k)) r (interval_within i first last))
      (end_above_same i (place_in c k - (sum_of (over c errors) k - b + 1)) first last)

pub same_hope : SameHope
unfolding hopeless
same_hope c errors b i l r =
    λ t. c.small && leb b (held_same c errors (left_same c errors) i.left l t + held_same c errors (right_same c errors) i.right r t + c.gap)

pub same_shrunk : SameShrunk
unfolding shrunk_of
same_shrunk c errors z b i l r =
    let p : ℕ = past z.left i.first in
    let e : ℕ = short z.right i.last in
    ap (λ (x : Option Bound). pick c.small x (interval_within i i.first i.last))
    (ap (λ (a : ℕ). end_before c b i.right i a e) (start_after_same c errors b i.left p l)
    ∙ end_before_same c errors b i.right i (start_after (over c errors) b i.left p) e r)

pub same_marks : SameZeros
unfolding zeros_of
same_marks c errors [] h = refl
same_marks c errors (k ∷ tried) h =
    λ t. zeros_after (same_marks c errors tried h.1 t) k (left_same c errors k h.0 t) (right_same c errors k h.0 t)

-- ---- steps 3 to 5

pub same_parts : SameParts
unfolding parts_of upper_from lower_to lower_near
same_parts c errors z excess m first = refl

-- what is queued, and a try's outcome, as functions of the parts and of the tried error
abbrev joined : Bound → ℕ → Parts → List Bound
joined i m p = pick (eqb i.first i.last) [] (part (upper_part i m p.upper) ++ part (lower_part i m p.lower))

abbrev outcome : State → List Bound → ℕ → ℕ → List Bound → State
outcome s rest m e q =
    record {
      queue = pick (ltb e s.error && eqb e 0) [] (rest ++ q);
      error = min e s.error;
      best = pick (ltb e s.error) (some m) s.best;
      tried = m ∷ s.tried;
    }

pub same_try : SameTry
unfolding try_cut queued
same_try c errors bound s rest i h g =
    let m : ℕ = middle i in
    let e : error_of c m ≡ error_of (over c errors) m = error_same c errors m h in
    let z : zeros_of c (m ∷ s.tried) ≡ zeros_of (over c errors) (m ∷ s.tried) = same_marks c errors (m ∷ s.tried) (h, g) in
    (λ t. outcome s rest m (e t) (joined i m (parts_of c (z t) (e t - limit bound (min (e t) s.error)) m i.first)))
    ∙ ap (λ (p : Parts). outcome s rest m (error_of (over c errors) m) (joined i m p))
    (same_parts c errors (zeros_of (over c errors) (m ∷ s.tried))
    (error_of (over c errors) m - limit bound (min (error_of (over c errors) m) s.error)) m i.first)

-- ---- a turn, and the run

pub recalls : Recalls
recalls c errors bound first last s h g =
    let b : ℕ = limit bound s.error in
    all_map (Waiting c first last b s.tried) (λ i. Held (Agree c errors) i.left × Held (Agree c errors) i.right)
    (λ i w. (
      cut_map (λ k. (k < i.first) × Seen c first last b s.tried k) (Agree c errors)
          (λ k x. all_among (Agree c errors) k s.tried g x.1.among) i.left w.left,
      cut_map (λ k. (i.last ≤ k) × Seen c first last b s.tried k) (Agree c errors)
          (λ k x. all_among (Agree c errors) k s.tried g x.1.among) i.right w.right,
    ))
    s.queue h.queue

module _ (c : Column) (errors : ℕ → ℕ × ℕ) (bound first last : ℕ) (agree : (k : ℕ) → first ≤ k → k ≤ last → Agree c errors k) where
  -- a tried cut is one where they agree
  agree_tried : (b : ℕ) (tried l : List ℕ) → All (Seen c first last b tried) l → All (Agree c errors) l
  agree_tried b tried l h = all_map (Seen c first last b tried) (Agree c errors) (λ k s. agree k s.from s.till) l h

  shrink_same : (s : State) (i : Bound) (rest : List Bound) (o : Option Bound) → RunOf first last i → Held (Inside i) o → All (Agree c errors) s.tried
      → after_shrink c bound s rest o ≡ after_shrink (over c errors) bound s rest o
  unfolding after_shrink
  shrink_same s i rest None r n g = refl
  shrink_same s i rest (Some j) r n g = same_try c errors bound s rest j (agree (middle j) (omega arith) (omega arith)) g

  turn_on_same : (s : State) (q : List Bound) → Kept c bound first last (dropped s q) → turn_on c bound s q ≡ turn_on (over c errors) bound s q
  unfolding turn_on
  turn_on_same s [] h = refl
  turn_on_same s (i ∷ rest) h =
      let b : ℕ = limit bound s.error in
      let g : All (Agree c errors) s.tried = agree_tried b s.tried s.tried h.tried in
      let r : All (λ j. Held (Agree c errors) j.left × Held (Agree c errors) j.right) (i ∷ rest) =
      recalls c errors bound first last (dropped s (i ∷ rest)) h g in
      let shrunk : shrunk_in c bound s i ≡ shrunk_in (over c errors) bound s i =
      ap (λ (z : Zeros). shrunk_of c z b i) (same_marks c errors s.tried g) ∙ same_shrunk c errors (zeros_of (over c errors) s.tried) b i r.0.0 r.0.1 in
      ap (λ (x : Bool). pick x (dropped s rest) (after_shrink c bound s rest (shrunk_in c bound s i))) (same_hope c errors b i r.0.0 r.0.1)
      ∙ ap (λ (x : State). pick (hopeless (over c errors) b i) (dropped s rest) x)
      (shrink_same s i rest (shrunk_in c bound s i) h.queue.0.run (shrunk_in_lem c (zeros_of c s.tried) b i) g
      ∙ ap (after_shrink (over c errors) bound s rest) shrunk)

  turns_same : Feasible c first last → (n : ℕ) (s : State) → Kept c bound first last s → turns c bound n s ≡ turns (over c errors) bound n s
  unfolding turns
  turns_same fair zero s h = refl
  turns_same fair (suc n) s h =
      turns_same fair n (turn c bound s) (kept_turn c bound first last fair s h) ∙ ap (turns (over c errors) bound n) (turn_on_same s s.queue h)

pub same_turn : SameTurn
same_turn c errors bound first last s h agree = turn_on_same c errors bound first last agree s s.queue h

pub same_run : SameRun
unfolding column_run
same_run c errors bound first last error fair agree =
    let same : (n : ℕ) → state_after c bound first last error n ≡ state_after (over c errors) bound first last error n =
    λ n. turns_same c errors bound first last agree fair n (start first last error) (kept_start c bound first last fair error) in
    (same (2 * count first last), same)
