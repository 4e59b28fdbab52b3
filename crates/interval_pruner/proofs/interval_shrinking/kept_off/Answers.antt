-- `interval_pruner::interval_shrinking::kept_off` meets its contract: it goes by the definition's cases.
use mathlib.Core.Path.{◌≡◌, sym, ap, ◌∙◌}
use Prim.Native.Nat.{ℕ, ◌+◌, ◌-◌, ◌≤◌, ◌<◌}
use native.Mathlib.Omega.{arith}
use Rattle.std.specs.Prelude.{Option, Some, None}
use Rattle.interval_pruner.specs.Column.{Column, place_in, left_error, right_error}
use Rattle.interval_pruner.specs.Pruner.{sum_of}
use Rattle.interval_pruner.specs.Steps.{kept_off}
use Rattle.interval_pruner.proofs.Shrinking.{kept_under, kept_over}
use Rattle.interval_pruner.proofs.interval_shrinking.kept_off.Goals as goal

module _ (c : Column) (b : ℕ) (t : Option ℕ) where
  nothing : t ≡ None → None ≡ kept_off c b t
  unfolding kept_off
  nothing e = sym (ap (kept_off c b) e)

  module _ (k : ℕ) (e : t ≡ Some k) where
    under : sum_of c k < b → None ≡ kept_off c b t
    under h = sym (ap (kept_off c b) e ∙ kept_under c b k h)

    over : b ≤ sum_of c k → (p d : ℕ) → p ≡ place_in c k → d ≡ sum_of c k - b + 1 → Some (p, d) ≡ kept_off c b t
    over h p d q r = (λ i. Some (q i, r i)) ∙ sym (ap (kept_off c b) e ∙ kept_over c b k h)

pub returns-in_err-over-clause-value : goal.returns-in_err-over-clause-value
unfolding left_error right_error
returns-in_err-over-clause-value c =
    c.from_residual-in_err-over.ensures ∙ under _ _ _ _ c.in_ok-cut.was (omega (arith, c.sum_at.ensures.value, c.in_err-over.ensures))

pub returns-clause-value : goal.returns-clause-value
unfolding left_error right_error
returns-clause-value c =
    let s = c.sum_at.ensures.value in
    let o = c.in_ok-over.ensures in
    over _ _ _ _ c.in_ok-cut.was (omega (arith, s, o.0)) _ _ c.place_at.ensures.0 (omega (arith, s, o.1))
