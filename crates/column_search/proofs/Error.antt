-- The error falls only to the tried cut's own, and that cut is then named. Assumes nothing.
use mathlib.Core.Path.{◌≡◌, refl}
use Prim.Native.Nat.{ℕ, zero, suc, ◌*◌, ◌≤◌, ◌<◌, min}
use native.Mathlib.Omega.{arith}
use mathlib.Core.Option.{Option, none, some}
use mathlib.Core.List.{List, [], ◌∷◌}
use Rattle.basics.specs.Choice.{Hit}
use Rattle.basics.specs.Lists.{All}
use Rattle.basics.proofs.Choice.{by_ltb}
use Rattle.interval_pruner.specs.declared.Bound.{Bound}
use Rattle.interval_pruner.specs.Column.{Column, error_of}
use Rattle.column_search.specs.Search.{State, limit, middle, try_cut, turn_on, turn, turns, start, column_run}
use Rattle.column_search.specs.Laws.{Feasible, RunOf, Lowers, count}
use Rattle.column_search.specs.Loop.{Waiting, Kept}
use Rattle.column_search.proofs.Steps.{turn_case}
use Rattle.column_search.proofs.Kept.{kept_turn, kept_start}

-- what the error is, with the cut that last lowered it from the starting one
abbrev Named : Column → (first last start error : ℕ) → Option ℕ → Type 0
Named c first last start error none = error ≡ start
Named c first last start error (some k) = (first ≤ k) × (k ≤ last) × (error ≡ error_of c k) × (error < start)

named_le : (c : Column) (first last start error : ℕ) (best : Option ℕ) → Named c first last start error best → error ≤ start
named_le c first last start error none h = omega arith
named_le c first last start error (some k) h = omega arith

named_lower : (c : Column) (first last start error : ℕ) (best : Option ℕ) → Named c first last start error best → error < start
    → Hit (λ k. (first ≤ k) × (k ≤ last) × (error ≡ error_of c k)) best
named_lower c first last start error none h g = absurd (omega arith)
named_lower c first last start error (some k) h g = (h.0, h.1, h.2)

named_stays : (c : Column) (first last start error : ℕ) (best : Option ℕ) → Named c first last start error best → start ≤ error → best ≡ none
named_stays c first last start error none h g = refl
named_stays c first last start error (some k) h g = absurd (omega arith)

module _ (c : Column) (bound first last : ℕ) (fair : Feasible c first last) (error : ℕ) where
  abbrev Names : State → Type 0
  Names s = Named c first last error s.error s.best

  names_try : (s : State) (rest : List Bound) (j : Bound) → first ≤ middle j → middle j ≤ last → Names s → Names (try_cut c bound s rest j)
  unfolding try_cut
  names_try s rest j h g n =
      by_ltb (Named c first last error (min (error_of c (middle j)) s.error)) (error_of c (middle j)) s.error
      (λ l. (h, g, omega arith, omega (arith, named_le c first last error s.error s.best n)))
      (λ l. rw (min_old (error_of c (middle j)) s.error l) n)
    where
      min_old : (a b : ℕ) → b ≤ a → min a b ≡ b
      min_old a b h = omega arith

  names_on : (s : State) (q : List Bound) → All (Waiting c first last (limit bound s.error) s.tried) q → Names s → Names (turn_on c bound s q)
  unfolding turn_on
  names_on s [] h n = n
  names_on s (i ∷ rest) h n =
      turn_case Names c bound s i rest n
      (λ j inside. let r : RunOf first last i = h.0.run in names_try s rest j (omega arith) (omega arith) n)

  names_turns : (n : ℕ) (s : State) → Kept c bound first last s → Names s → Names (turns c bound n s)
  unfolding turns
  names_turns zero s h k = k
  names_turns (suc n) s h k =
      names_turns n (turn c bound s) (kept_turn c bound first last fair s h) (names_on s s.queue h.queue k)

pub lowers : Lowers
unfolding column_run
lowers c bound first last error fair =
    let s : State = column_run c bound first last error in
    let h : Named c first last error s.error s.best =
    names_turns c bound first last fair error (2 * count first last) (start first last error) (kept_start c bound first last fair error) refl in
    record {
      falls = named_le c first last error s.error s.best h;
      named = named_lower c first last error s.error s.best h;
      stays = named_stays c first last error s.error s.best h;
    }
