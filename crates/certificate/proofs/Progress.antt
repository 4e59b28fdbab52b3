-- Over the columns: with support at most 1 no cut of a column passed is better by more than the gap. Assumes nothing.
use mathlib.Core.Path.{sym, subst}
use Prim.Native.Nat.{ℕ, zero, suc, ◌+◌, ◌-◌, ◌≤◌, ◌<◌, min}
use native.Mathlib.Omega.{arith}
use Rattle.basics.proofs.Choice.{by_ltb, by_leb, reach}
use Rattle.sheet.specs.Sheet.{Sheet, count_of, places_of}
use Rattle.sheet.specs.Sound.{Sound}
use Rattle.sheet.specs.declared.Terms.{Terms}
use Rattle.cuts.specs.Feasible.{feasible_of}
use Rattle.interval_pruner.specs.Column.{left_error, right_error}
use Rattle.column_search.specs.Search.{State, column_run}
use Rattle.column_search.specs.Laws.{Lowered}
use Rattle.column_search.proofs.Error.{lowers}
use Rattle.column_search.proofs.Optimal.{optimal}
use Rattle.column_turns.specs.Try.{searched_column}
use Rattle.depth2.specs.Search.{Progress, with_column, progress_after_column, search_columns, searched}
use Rattle.depth2.specs.Laws.{cut_error}
use Rattle.certificate.proofs.Column.{feasible_run, metric, all_feasible}

-- the ends of column c's run of feasible cuts
abbrev first_of : Sheet → Terms → ℕ → ℕ
first_of s t c = (feasible_of (places_of s c) s.rows t.support).first

abbrev end_of : Sheet → Terms → ℕ → ℕ
end_of s t c = (feasible_of (places_of s c) s.rows t.support).end

abbrev run_of : Sheet → Terms → ℕ → ℕ → State
run_of s t c error = column_run (searched_column s t c) t.bound (first_of s t c) (end_of s t c - 1) error

module _ (s : Sheet) (sound : Sound s) (t : Terms) (c : ℕ) (here : c < s.columns) where
  run_lowered : (error : ℕ) → first_of s t c < end_of s t c → Lowered (searched_column s t c) (first_of s t c) (end_of s t c - 1) error (run_of s t c error)
  run_lowered error h = lowers (searched_column s t c) t.bound (first_of s t c) (end_of s t c - 1) error (feasible_run s sound t c here h)

  after_falls : (p : Progress) → (progress_after_column s t c p).error ≤ p.error
  unfolding progress_after_column with_column
  after_falls p =
      by_ltb (λ (q : Progress). q.error ≤ p.error) (first_of s t c) (end_of s t c) (λ h. (run_lowered p.error h).falls) (λ h. omega arith)

  after_best : t.support ≤ 1 → (p : Progress) (k : ℕ) → k < count_of s c → min (progress_after_column s t c p).error t.bound ≤ cut_error s t c k + t.gap
  unfolding progress_after_column with_column left_error right_error
  after_best small p k h =
      let f = all_feasible s sound t c here small k h in
      let some : first_of s t c < end_of s t c = omega (arith, f.0, f.1) in
      by_ltb (λ (q : Progress). min q.error t.bound ≤ cut_error s t c k + t.gap) (first_of s t c) (end_of s t c)
      (λ g. optimal (searched_column s t c) t.bound (first_of s t c) (end_of s t c - 1) p.error k (feasible_run s sound t c here g) (metric s sound t c here g small) f.0 (omega (arith, f.1)))
      (λ g. absurd (omega arith))

module _ (s : Sheet) (sound : Sound s) (t : Terms) where
  columns_fall : (n c : ℕ) → c + n ≤ s.columns → (p : Progress) → (search_columns s t n c p).error ≤ p.error
  unfolding search_columns
  columns_fall zero c h p = omega arith
  columns_fall (suc n) c h p =
      let a : (progress_after_column s t c p).error ≤ p.error = after_falls s sound t c (omega arith) p in
      by_leb (λ (q : Progress). q.error ≤ p.error) (progress_after_column s t c p).error t.gap (λ g. a)
      (λ g. omega (arith, a, columns_fall n (suc c) (omega arith) (progress_after_column s t c p)))

  columns_best : t.support ≤ 1 → (n c : ℕ) → c + n ≤ s.columns → (p : Progress) (d k : ℕ) → c ≤ d → d < c + n → k < count_of s d
      → min (search_columns s t n c p).error t.bound ≤ cut_error s t d k + t.gap
  unfolding search_columns
  columns_best small zero c h p d k l g i = absurd (omega arith)
  columns_best small (suc n) c h p d k l g i =
      let next : Progress = progress_after_column s t c p in
      by_leb (λ (q : Progress). min q.error t.bound ≤ cut_error s t d k + t.gap) next.error t.gap
      (λ e. omega arith)
      (λ e. reach c d l
      (λ same.
      let a : min next.error t.bound ≤ cut_error s t d k + t.gap =
      subst (λ (x : ℕ). min next.error t.bound ≤ cut_error s t x k + t.gap) same
      (after_best s sound t c (omega arith) small p k (subst (λ (x : ℕ). k < count_of s x) (sym same) i)) in
      omega (arith, a, columns_fall n (suc c) (omega arith) next))
      (λ later. columns_best small n (suc c) (omega arith) next d k (omega arith) (omega arith) i))

  -- of the whole search
  pub searched_best : t.support ≤ 1 → (c k : ℕ) → c < s.columns → k < count_of s c → min (searched s t).error t.bound ≤ cut_error s t c k + t.gap
  unfolding searched
  searched_best small c k h g = columns_best small s.columns 0 (omega arith) _ c k (omega arith) (omega arith) g
