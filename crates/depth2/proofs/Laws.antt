-- Tries and errors of the whole search, column by column from those of one column's run. Assumes nothing.
use mathlib.Core.Path.{◌≡◌, refl, sym, ap, ◌∙◌, subst}
use Prim.Native.Nat.{ℕ, zero, suc, ◌+◌, ◌-◌, ◌*◌, ◌≤◌, ◌<◌}
use native.Mathlib.Omega.{arith}
use mathlib.Core.Option.{Option, none, some}
use lib.Dec.{leb}
use Rattle.basics.specs.Choice.{Hit}
use Rattle.basics.proofs.Choice.{by_test, by_ltb, pick_true, pick_false, decide, reach, order}
use Rattle.sheet.specs.declared.Terms.{Terms}
use Rattle.sheet.specs.Sheet.{Sheet}
use Rattle.interval_pruner.specs.Column.{left_error, right_error, error_of}
use Rattle.column_search.specs.Search.{State, column_run, tries_of}
use Rattle.column_search.specs.Laws.{Lowered}
use Rattle.column_search.proofs.Count.{tries}
use Rattle.column_search.proofs.Error.{lowers}
use Rattle.column_turns.specs.Promise.{Whole, feasible_at, first_at, last_at}
use Rattle.leaves_score.specs.Root.{errors_at}
use Rattle.tree.specs.declared.Tree.{Tree}
use Rattle.tree.specs.Answer.{side_error, rule_of}
use Rattle.column_turns.specs.Try.{searched_column, tree_at}
use Rattle.depth2.specs.Search.{Progress, cut_after, with_column, progress_after_column, search_columns, searched, answer_holding}
use Rattle.depth2.specs.Laws.{feasible_count, most_tried, TriesSummed, MakesError, Bettered, ErrorFalls, FoundExactly, SearchesCoincide}
use Rattle.column_turns.proofs.Turns.{feasible_cuts}
use Rattle.column_turns.proofs.Places.{places_count}

module _ (s : Sheet) (t : Terms) (whole : Whole s) where
  -- ---- tries

  column_tries : (c : ℕ) → c < s.columns → (p : Progress) → (progress_after_column s t c p).tried ≤ p.tried + (2 * feasible_count s t c - 1)
  unfolding progress_after_column with_column column_run
  column_tries c here p =
      by_ltb (λ (z : Progress). z.tried ≤ p.tried + (2 * feasible_count s t c - 1)) (first_at s t c) (feasible_at s t c).end
      (λ some. omega (
        arith,
        tries (searched_column s t c) t.bound (first_at s t c) (last_at s t c) p.error (2 * (suc (last_at s t c) - first_at s t c)) (feasible_cuts s t c whole here some),
      ))
      (λ _. omega arith)

  columns_tries : (n c : ℕ) (p : Progress) → c + n ≤ s.columns → (search_columns s t n c p).tried ≤ p.tried + most_tried s t n c p
  unfolding search_columns most_tried
  columns_tries zero c p h = omega arith
  columns_tries (suc n) c p h =
      let next : Progress = progress_after_column s t c p in
      let one = column_tries c (omega arith) p in
      decide (leb next.error t.gap)
      (λ y. omega (
        arith,
        one,
        ap (λ (z : Progress). z.tried) (pick_true (leb next.error t.gap) next (search_columns s t n (suc c) next) y),
      ))
      (λ y. omega (
        arith,
        one,
        columns_tries n (suc c) next (omega arith),
        ap (λ (z : Progress). z.tried) (pick_false (leb next.error t.gap) next (search_columns s t n (suc c) next) y),
        pick_false (leb next.error t.gap) 0 (most_tried s t n (suc c) next) y,
      ))

  -- ---- errors

  -- what `Lowers` says of the cut named best
  abbrev Best : ℕ → State → ℕ → Type 0
  Best c run k = (first_at s t c ≤ k) × (k ≤ last_at s t c) × (run.error ≡ error_of (searched_column s t c) k)

  found_error : (c : ℕ) → c < s.columns → first_at s t c < (feasible_at s t c).end → (run : State) (k : ℕ) → Best c run k → MakesError s t run.error (c, k)
  unfolding left_error right_error
  found_error c here filled run k h = (here, omega (arith, (feasible_cuts s t c whole here filled).listed, places_count s whole c here, h.1), h.2)

  none_some : (k : ℕ) → ◌≡◌ {A = Option ℕ} none (some k) → ⊥
  none_some k e = let z : ◌≡◌ {A = ℕ} 0 1 = cc in omega arith

  module _ (error : ℕ) where
    named_next : (c : ℕ) → c < s.columns → first_at s t c < (feasible_at s t c).end → (run : State) (p : Progress) → Bettered s t error p → Lowered (searched_column s t c) (first_at s t c) (last_at s t c) p.error run
        → (best : Option ℕ) → run.best ≡ best → Bettered s t error (record { error = run.error; best = cut_after c best p.best; tried = p.tried + tries_of run })
    unfolding cut_after
    named_next c here filled run p b l none e =
        let same : p.error ≡ run.error =
        reach run.error p.error l.falls (λ z. sym z) (λ h. absurd (subst (Hit (Best c run)) e (l.named h))) in
        record {
          falls = omega (arith, b.falls, l.falls);
          named = λ h. subst (λ (n : ℕ). Hit (MakesError s t n) p.best) same (b.named (omega arith));
          stays = λ h. b.stays (omega arith);
        }
    named_next c here filled run p b l (some k) e =
        let h : run.error < p.error =
        order p.error run.error (λ g. absurd (none_some k (sym (l.stays g) ∙ e))) (λ g. g) in
        let is : MakesError s t run.error (c, k) = found_error c here filled run k (subst (Hit (Best c run)) e (l.named h)) in
        record { falls = omega (arith, b.falls); named = λ _. is; stays = λ g. absurd (omega (arith, b.falls)) }

    column_bettered : (c : ℕ) → c < s.columns → (p : Progress) → Bettered s t error p → Bettered s t error (progress_after_column s t c p)
    unfolding progress_after_column with_column
    column_bettered c here p b =
        by_ltb (Bettered s t error) (first_at s t c) (feasible_at s t c).end
        (λ some.
        let run : State = column_run (searched_column s t c) t.bound (first_at s t c) (last_at s t c) p.error in
        named_next c here some run p b
        (lowers (searched_column s t c) t.bound (first_at s t c) (last_at s t c) p.error (feasible_cuts s t c whole here some)) run.best refl)
        (λ _. b)

    columns_bettered : (n c : ℕ) (p : Progress) → c + n ≤ s.columns → Bettered s t error p → Bettered s t error (search_columns s t n c p)
    unfolding search_columns
    columns_bettered zero c p h b = b
    columns_bettered (suc n) c p h b =
        let next : Progress = progress_after_column s t c p in
        let one : Bettered s t error next = column_bettered c (omega arith) p b in
        by_test (Bettered s t error) (leb next.error t.gap) (λ _. one) (λ _. columns_bettered n (suc c) next (omega arith) one)

pub tries_summed : TriesSummed
unfolding searched
tries_summed s t whole =
    omega (arith, columns_tries s t whole s.columns 0 (record { error = t.error; best = none; tried = 0 }) (omega arith))

pub error_falls : ErrorFalls
unfolding searched
error_falls s t whole =
    columns_bettered s t whole t.error s.columns 0 (record { error = t.error; best = none; tried = 0 }) (omega arith)
    (record { falls = omega arith; named = λ h. absurd (omega arith); stays = λ _. refl })

rule_found : (s : Sheet) (t : Terms) (p : Progress) (best : Option (ℕ × ℕ)) → Hit (MakesError s t p.error) best
    → Hit (λ (tree : Tree). (tree.error ≡ p.error) × (tree.error ≡ side_error tree.left + side_error tree.right)) (rule_of (answer_holding s t p best))
unfolding answer_holding tree_at errors_at
rule_found s t p none h = h
rule_found s t p (some cut) h = (refl, h.2)

rule_none : (s : Sheet) (t : Terms) (p : Progress) → rule_of (answer_holding s t p none) ≡ none
unfolding answer_holding
rule_none s t p = refl

pub found_exactly : FoundExactly
found_exactly s t whole =
    let p : Progress = searched s t in
    let b : Bettered s t t.error p = error_falls s t whole in
    record {
      lower = λ h. rule_found s t p p.best (b.named h);
      kept = λ h. ap (λ (o : Option (ℕ × ℕ)). rule_of (answer_holding s t p o)) (b.stays h) ∙ rule_none s t p;
    }

pub outcomes_coincide : SearchesCoincide
outcomes_coincide s t scratch a b after other p q = (p.answers ∙ sym q.answers, p.words ∙ sym q.words)
