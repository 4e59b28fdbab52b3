-- `threshold::parting::left_of_cut` meets its contract: each return is the definition's case, and the law of the cut follows from the count.
-- ---- the definition's cases
use mathlib.Core.Logic.{◌⊎◌, inl, inr}
use mathlib.Core.Path.{◌≡◌, sym, ap, ◌∙◌}
use Prim.Native.Nat.{ℕ, ◌-◌, ◌≤◌, ◌<◌}
use mathlib.Core.List.{List}
use native.Mathlib.Omega.{arith}
use lib.ListN.{length}
use lib.Dec.{leb, ltb, le→leb, lt→ltb, not_T, leb→le, ltb→lt}
use lib.Ieee.{Float}
use Rattle.basics.proofs.Choice.{pick_true, pick_false, order}
use Rattle.threshold.specs.Threshold.{threshold_of}
use Rattle.threshold.specs.Column.{value_at_place, count_left, left_of_cut, Sorted, IsCut}
use Rattle.threshold.proofs.Front.{parts_at_the_cut}
use Rattle.threshold.proofs.parting.left_of_cut.Goals as goal

module _ (values : List Float) (i : ℕ) where
  no_place : (i ≡ 0) ⊎ ((i ≡ 0 → ⊥) × (length values ≤ i)) → left_of_cut values i ≡ 0
  unfolding left_of_cut
  no_place (inl e) = pick_false (leb 1 i) _ 0 (not_T (leb 1 i) (λ t. omega (arith, leb→le 1 i t)))
  no_place (inr h) =
      let some : 0 < i = order 1 i (λ l. l) (λ l. absurd (h.0 (omega arith))) in
      pick_true (leb 1 i) _ 0 (le→leb 1 i some)
      ∙ pick_false (ltb i (length values)) _ 0 (not_T (ltb i (length values)) (λ t. omega (arith, ltb→lt i (length values) t, h.1)))

  inside : 0 < i → i < length values → left_of_cut values i ≡ count_left values (threshold_of (value_at_place values (i - 1)) (value_at_place values i))
  unfolding left_of_cut
  inside h k = pick_true (leb 1 i) _ 0 (le→leb 1 i h) ∙ pick_true (ltb i (length values)) _ 0 (lt→ltb i (length values) k)

  -- the second clause follows from the first
  both : (r : ℕ) → r ≡ left_of_cut values i → (r ≡ left_of_cut values i) × (Sorted values → IsCut values i → r ≡ i)
  both r e = (e, λ s c. e ∙ parts_at_the_cut values i s c)

pub returns-then-at-eq0 : goal.returns-then-at-eq0
returns-then-at-eq0 c =
    let a = c.args in
    both a.values.now a.at 0 (sym (no_place a.values.now a.at c.then-at-eq0.either))

pub returns : goal.returns
returns c =
    let a = c.args in
    both a.values.now a.at c.sent_left.result
    (c.sent_left.ensures ∙ ap (count_left a.values.now) c.threshold_between-threshold.ensures ∙ sym (inside a.values.now a.at (omega arith) (omega arith)))
