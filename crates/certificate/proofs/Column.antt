-- What the search of a column asks of its cuts and of the scan holds of every column of a sound sheet. Assumes nothing.
use mathlib.Core.Path.{◌≡◌, sym, subst, subst₂}
use Prim.Native.Nat.{ℕ, suc, ◌+◌, ◌-◌, ◌≤◌, ◌<◌, max}
use native.Mathlib.Omega.{arith}
use mathlib.Core.Bool.{◌&&◌}
use lib.ListN.{length}
use lib.Dec.{T, leb, ltb, leb→le, le→leb, ltb→lt}
use Rattle.basics.proofs.Choice.{and_left, and_right, and_both}
use Rattle.basics.proofs.Lists.{get_d_table, length_table}
use Rattle.sheet.specs.Sheet.{Sheet, count_of, places_of}
use Rattle.sheet.specs.Sheet as sheet
use Rattle.sheet.specs.Sound.{Sound}
use Rattle.sheet.specs.declared.Terms.{Terms}
use Rattle.cuts.specs.declared.Run.{Run}
use Rattle.cuts.specs.Lookups.{place, Ascending}
use Rattle.cuts.specs.Feasible.{feasible, feasible_of, Exactly}
use Rattle.cuts.proofs.Feasible.{feasible_exactly}
use Rattle.interval_pruner.specs.Column.{left_error, right_error}
use Rattle.column_search.specs.Laws.{Feasible, Metric}
use Rattle.leaves_score.specs.Root.{errors_at}
use Rattle.side_laws.specs.Root.{Moved}
use Rattle.side_laws.proofs.Cuts.{ascends}
use Rattle.side_laws.proofs.Metric.{moves}
use Rattle.column_turns.specs.Try.{searched_column}

module _ (s : Sheet) (sound : Sound s) (t : Terms) (c : ℕ) (here : c < s.columns) where
  pub listed : length (places_of s c) ≡ count_of s c
  unfolding places_of
  listed = length_table (sheet.place_of s c) (count_of s c)

  pub place_is : (k : ℕ) → k < count_of s c → place (places_of s c) k ≡ sheet.place_of s c k
  unfolding places_of place
  place_is k h = get_d_table (sheet.place_of s c) (count_of s c) k 0 h

  pub ascending : Ascending (places_of s c)
  ascending k h =
      subst₂ (λ (a b : ℕ). a < b) (sym (place_is k (omega (arith, listed)))) (sym (place_is (suc k) (omega (arith, listed))))
      ((sound.column c here).cuts.ascend k (omega (arith, listed)))

  -- the run of feasible cuts
  pub exactly : Exactly (places_of s c) s.rows t.support (feasible_of (places_of s c) s.rows t.support)
  exactly = feasible_exactly (places_of s c) s.rows t.support ascending

  module _ (some : (feasible_of (places_of s c) s.rows t.support).first < (feasible_of (places_of s c) s.rows t.support).end) where
    in_list : (k : ℕ) → k ≤ (feasible_of (places_of s c) s.rows t.support).end - 1 → k < count_of s c
    in_list k h = omega (arith, exactly.listed, listed)

    pub feasible_run : Feasible (searched_column s t c) (feasible_of (places_of s c) s.rows t.support).first ((feasible_of (places_of s c) s.rows t.support).end - 1)
    feasible_run =
        record {
          full = omega arith;
          listed = omega (arith, exactly.listed);
          placed = λ k h g. subst (λ (p : ℕ). 1 ≤ p) (sym (place_is k (in_list k g))) ((sound.column c here).cuts.place_low k (in_list k g));
        }

    -- with support at most 1 the scan is an evaluator whose errors move with the cut as pruning takes it
    pub metric : t.support ≤ 1 → Metric (searched_column s t c) (feasible_of (places_of s c) s.rows t.support).first ((feasible_of (places_of s c) s.rows t.support).end - 1)
    unfolding left_error right_error
    metric small =
        record {
          ascends = λ i j h g l.
              subst₂ (λ (a b : ℕ). a < b) (sym (place_is i (omega (arith, in_list j l)))) (sym (place_is j (in_list j l))) (ascends s sound c i j here g (in_list j l));
          lefts = λ i j h g l. (moved i j g (in_list j l)).lefts;
          rights = λ i j h g l. (moved i j g (in_list j l)).rights;
          left_near = λ i j h g l.
              subst₂ (λ (a b : ℕ). (errors_at s t.support c j).0 ≤ (errors_at s t.support c i).0 + (b - a))
              (sym (place_is i (omega (arith, in_list j l)))) (sym (place_is j (in_list j l))) (moved i j g (in_list j l)).left_near;
          right_near = λ i j h g l.
              subst₂ (λ (a b : ℕ). (errors_at s t.support c i).1 ≤ (errors_at s t.support c j).1 + (b - a))
              (sym (place_is i (omega (arith, in_list j l)))) (sym (place_is j (in_list j l))) (moved i j g (in_list j l)).right_near;
        }
      where
        moved : (i j : ℕ) → i ≤ j → j < count_of s c → Moved s t.support c i j
        moved i j g l = moves s sound t.support small c i j here g l

  -- with support at most 1 every cut is feasible
  pub all_feasible : t.support ≤ 1 → (k : ℕ) → k < count_of s c
      → ((feasible_of (places_of s c) s.rows t.support).first ≤ k) × (k < (feasible_of (places_of s c) s.rows t.support).end)
  all_feasible small k h =
      let f : Run = feasible_of (places_of s c) s.rows t.support in
      let low : 1 ≤ place (places_of s c) k = subst (λ (p : ℕ). 1 ≤ p) (sym (place_is k h)) ((sound.column c here).cuts.place_low k h) in
      let high : place (places_of s c) k < s.rows = subst (λ (p : ℕ). p < s.rows) (sym (place_is k h)) ((sound.column c here).cuts.place_high k h) in
      let least : max t.support 1 ≡ 1 = omega arith in
      let yes : T (feasible (places_of s c) s.rows t.support k) =
      and_both (leb (max t.support 1) (place (places_of s c) k)) (leb (place (places_of s c) k + max t.support 1) s.rows)
      (le→leb (max t.support 1) (place (places_of s c) k) (omega arith)) (le→leb (place (places_of s c) k + max t.support 1) s.rows (omega arith)) in
      let inside : T (leb f.first k && ltb k f.end) = subst T (sym (exactly.inside k (omega (arith, listed)))) yes in
      (leb→le f.first k (and_left (leb f.first k) (ltb k f.end) inside), ltb→lt k f.end (and_right (leb f.first k) (ltb k f.end) inside))
