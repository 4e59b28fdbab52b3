-- `interval_pruner::interval_shrinking::interval_shrinking` meets its contract: its steps are the definition's, one after the other.
use mathlib.Core.Path.{◌≡◌, refl, sym, ap, ◌∙◌}
use Prim.Native.Nat.{ℕ}
use mathlib.Core.Bool.{Bool, true}
use mathlib.Core.List.{List}
use Rattle.interval_pruner.specs.declared.Zeros.{Zeros}
use Rattle.interval_pruner.specs.declared.Bound.{Bound}
use Rattle.std.specs.Prelude.{Option, Some, None}
use Rattle.std.proofs.lemmas.Bool.{not-true, not-false}
use Rattle.interval_pruner.specs.Column.{Column, recorded_column}
use Rattle.interval_pruner.specs.Pruner.{past, short, interval_within, shrunk_of}
use Rattle.interval_pruner.proofs.Shrinking.{next, left_step, right_step, both_steps, in_steps, not_small}
use Rattle.interval_pruner.proofs.interval_shrinking.interval_shrinking.Goals as goal

module _ (places table : List ℕ) (gap : ℕ) (small : Bool) (z : Zeros) (b : ℕ) (i : Bound) (e : small ≡ true) where
  abbrev col : Column
  col = recorded_column places table gap true

  abbrev left : Option Bound
  left = shrunk_of (recorded_column places table gap small) z b i

  module _ (s : Option Bound) (p : s ≡ interval_within i (past z.left i.first) (short z.right i.last)) where
    cleared : left ≡ next s (both_steps col b)
    cleared =
        ap (λ (t : Bool). shrunk_of (recorded_column places table gap t) z b i) e ∙ in_steps col b z i refl ∙
        sym (ap (λ (w : Option Bound). next w (both_steps col b)) p)

    at_first : s ≡ None → None ≡ left
    at_first q = sym (cleared ∙ ap (λ (w : Option Bound). next w (both_steps col b)) q)

    module _ (j : Bound) (q : s ≡ Some j) (w : Option Bound) (r : w ≡ left_step col b j) where
      started : left ≡ next w (right_step col b)
      started = cleared ∙ ap (λ (v : Option Bound). next v (both_steps col b)) q ∙ sym (ap (λ (v : Option Bound). next v (right_step col b)) r)

      at_second : w ≡ None → None ≡ left
      at_second d = sym (started ∙ ap (λ (v : Option Bound). next v (right_step col b)) d)

      at_last : (k : Bound) → w ≡ Some k → right_step col b k ≡ left
      at_last k d = sym (started ∙ ap (λ (v : Option Bound). next v (right_step col b)) d)

pub returns-then-not-target : goal.returns-then-not-target
returns-then-not-target c = λ up. c.between.ensures ∙ sym (not_small _ _ _ _ (not-true _ c.if-not-target.true))

pub returns-in_err-open : goal.returns-in_err-open
returns-in_err-open c =
    λ up. c.from_residual.ensures ∙ at_first _ _ _ _ _ _ _ (not-false _ c.if-not-target.false) _ c.between_zeros.ensures c.in_err-open.was

pub returns-in_err-rest : goal.returns-in_err-rest
returns-in_err-rest c =
    λ up.
    c.from_residual-in_err-rest.ensures ∙
    at_second _ _ _ _ _ _ _ (not-false _ c.if-not-target.false) _ c.between_zeros.ensures _ c.in_ok-open.was _ (c.away_from_left.ensures up) c.in_err-rest.was

pub returns : goal.returns
returns c =
    λ up.
    c.away_from_right.ensures up ∙
    at_last _ _ _ _ _ _ _ (not-false _ c.if-not-target.false) _ c.between_zeros.ensures _ c.in_ok-open.was _ (c.away_from_left.ensures up) _ c.in_ok-rest.was
