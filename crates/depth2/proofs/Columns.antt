-- Column after column, the code's standing is that of the definition's progress. Assumes nothing.
use mathlib.Core.Path.{◌≡◌, refl, sym, ap, ◌∙◌, subst}
use Prim.Native.Nat.{ℕ, suc, ◌+◌, ◌-◌, ◌*◌, ◌≤◌, ◌<◌}
use native.Mathlib.Omega.{arith}
use mathlib.Core.Option.{Option, none, some}
use lib.Dec.{leb, ltb, ltb→lt, le→leb}
use Rattle.basics.specs.Choice.{pick, Hit}
use Rattle.basics.proofs.Choice.{decide, pick_true, pick_false, nleb, reach, by_ltb}
use Rattle.sheet.specs.declared.Terms.{Terms}
use Rattle.sheet.specs.Sheet.{Sheet}
use Rattle.interval_pruner.specs.Column.{error_of}
use Rattle.column_search.specs.Search.{State, column_run, tries_of}
use Rattle.column_search.specs.Laws.{Lowered}
use Rattle.column_search.proofs.Count.{tries}
use Rattle.column_search.proofs.Error.{lowers}
use Rattle.column_turns.specs.declared.interval_steps.Standing.{Standing}
use Rattle.column_turns.specs.Promise.{Whole, most_tries, held_after, standing_after_run, feasible_at, first_at, last_at, standing_after_column}
use Rattle.column_turns.specs.Try.{searched_column}
use Rattle.depth2.specs.Search.{Progress, cut_after, with_column, progress_after_column, search_columns, searched}
use Rattle.depth2.specs.Columns.{held_of, standing_of, none_tried, BetweenColumns}
use Rattle.column_turns.proofs.Turns.{feasible_cuts, end_listed}

module _ (s : Sheet) (t : Terms) (c : ℕ) (whole : Whole s) (here : c < s.columns) where
  -- at most so many tries in a column
  pub column_few : (p : Standing) → (standing_after_column s t c p).tried ≤ p.tried + most_tries
  unfolding standing_after_column standing_after_run column_run
  column_few p =
      by_ltb (λ (z : Standing). z.tried ≤ p.tried + most_tries) (first_at s t c) (feasible_at s t c).end
      (λ some. omega (
        arith,
        tries (searched_column s t c) t.bound (first_at s t c) (last_at s t c) p.error (2 * (suc (last_at s t c) - first_at s t c)) (feasible_cuts s t c whole here some),
        end_listed s t c whole here,
        (whole.sound.column c here).cuts.count_most,
        whole.sound.limited.rows_most,
      ))
      (λ none. omega arith)

  held_joined : (best : Option ℕ) (e error : ℕ) (old : Option (ℕ × ℕ)) → (best ≡ none → error ≡ e)
      → held_after s t.support c best e (held_of s t.support old error) ≡ held_of s t.support (cut_after c best old) e
  unfolding held_after held_of cut_after
  held_joined none e error old same = ap (held_of s t.support old) (same refl)
  held_joined (some k) e error old same = refl

  unbettered : (error : ℕ) (run : State) → Lowered (searched_column s t c) (first_at s t c) (last_at s t c) error run → run.best ≡ none → error ≡ run.error
  unbettered error run l e =
      reach run.error error l.falls (λ z. sym z)
      (λ h. absurd (subst (Hit (λ k. (first_at s t c ≤ k) × (k ≤ last_at s t c) × (run.error ≡ error_of (searched_column s t c) k))) e (l.named h)))

  pub column_joined : (q : Progress) → standing_after_column s t c (standing_of s t.support q) ≡ standing_of s t.support (progress_after_column s t c q)
  unfolding standing_after_column progress_after_column standing_of standing_after_run with_column
  column_joined q =
      decide (ltb (first_at s t c) (feasible_at s t c).end)
      (λ y.
      let run : State = column_run (searched_column s t c) t.bound (first_at s t c) (last_at s t c) q.error in
      let l = lowers (searched_column s t c) t.bound (first_at s t c) (last_at s t c) q.error (feasible_cuts s t c whole here (ltb→lt _ _ y)) in
      let h = held_joined run.best run.error q.error q.best (unbettered q.error run l) in
      pick_true (ltb (first_at s t c) (feasible_at s t c).end) _ _ y
      ∙ (λ k. record { error = run.error; tried = q.tried + tries_of run; held = h k })
      ∙ sym (ap (standing_of s t.support) (pick_true (ltb (first_at s t c) (feasible_at s t c).end) (with_column c q run) q y)))
      (λ y.
      pick_false (ltb (first_at s t c) (feasible_at s t c).end) _ _ y
      ∙ sym (ap (standing_of s t.support) (pick_false (ltb (first_at s t c) (feasible_at s t c).end) _ q y)))

-- one column of the definition's
pub columns_next : (s : Sheet) (t : Terms) (n c : ℕ) (q : Progress) → c < n
    → search_columns s t (n - c) c q
    ≡ pick (leb (progress_after_column s t c q).error t.gap) (progress_after_column s t c q) (search_columns s t (n - (c + 1)) (c + 1) (progress_after_column s t c q))
unfolding search_columns
columns_next s t n c q h =
    let a : n - c ≡ suc (n - (c + 1)) = omega arith in
    let b : suc c ≡ c + 1 = omega arith in
    ap (λ (k : ℕ). search_columns s t k c q) a
    ∙ ap (λ (k : ℕ). pick (leb (progress_after_column s t c q).error t.gap) (progress_after_column s t c q) (search_columns s t (n - (c + 1)) k (progress_after_column s t c q))) b

pub between_start : (s : Sheet) (t : Terms) → BetweenColumns s t 0 (none_tried t.error)
unfolding standing_of held_of searched
between_start s t =
    let n : s.columns - 0 ≡ s.columns = omega arith in
    record {
      progress = record { error = t.error; best = none; tried = 0 };
      standing_is = refl;
      comes = ap (λ (k : ℕ). search_columns s t k 0 (record { error = t.error; best = none; tried = 0 })) n;
      few = omega arith;
    }

module _ (s : Sheet) (t : Terms) (c : ℕ) (p : Standing) (whole : Whole s) (here : c < s.columns) (between : BetweenColumns s t c p) where
  after_is : standing_after_column s t c p ≡ standing_of s t.support (progress_after_column s t c between.progress)
  after_is = ap (standing_after_column s t c) between.standing_is ∙ column_joined s t c whole here between.progress

  error_after : (standing_after_column s t c p).error ≡ (progress_after_column s t c between.progress).error
  unfolding standing_of
  error_after = ap (λ (z : Standing). z.error) after_is

  pub between_next : t.gap < (standing_after_column s t c p).error → BetweenColumns s t (c + 1) (standing_after_column s t c p)
  between_next h =
      let next : Progress = progress_after_column s t c between.progress in
      record {
        progress = next;
        standing_is = after_is;
        comes =
            sym (pick_false (leb next.error t.gap) next _ (nleb next.error t.gap (omega (arith, error_after))))
            ∙ sym (columns_next s t s.columns c between.progress here)
            ∙ between.comes;
        few = omega (arith, between.few, column_few s t c whole here p);
      }

  -- "After a column, stop if the error is at most the gap."
  pub between_stop : (standing_after_column s t c p).error ≤ t.gap → standing_after_column s t c p ≡ standing_of s t.support (searched s t)
  between_stop h =
      let next : Progress = progress_after_column s t c between.progress in
      after_is
      ∙ ap (standing_of s t.support)
      (sym (pick_true (leb next.error t.gap) next _ (le→leb next.error t.gap (omega (arith, error_after))))
      ∙ sym (columns_next s t s.columns c between.progress here)
      ∙ between.comes)

pub between_end : (s : Sheet) (t : Terms) (c : ℕ) (p : Standing) → c ≡ s.columns → BetweenColumns s t c p → p ≡ standing_of s t.support (searched s t)
unfolding search_columns
between_end s t c p e between =
    let n : s.columns - c ≡ 0 = omega arith in
    between.standing_is
    ∙ ap (standing_of s t.support) (sym (ap (λ (k : ℕ). search_columns s t k c between.progress) n) ∙ between.comes)
