-- Step 5, by its cases: which test picks which end of the two parts. Assumes nothing.
use mathlib.Core.Path.{◌≡◌, sym, ap, ◌∙◌}
use Prim.Native.Nat.{ℕ, suc, ◌+◌, ◌-◌, ◌≤◌, ◌<◌}
use native.Mathlib.Omega.{arith}
use mathlib.Core.Bool.{Bool, true, false, ◌&&◌}
use lib.Dec.{ltb, lt→ltb}
use lib.Arith.{le→nltb}
use borrow.Author.Tests.{lt-ltb, le-ltb}
use Rattle.basics.proofs.Choice.{pick_true, pick_false}
use Rattle.cuts.specs.Lookups.{at_least, above, first_from, sought_from, lower_bound_of, upper_bound_of}
use Rattle.cuts.proofs.Lookups.{sought_wide}
use Rattle.interval_pruner.specs.declared.Zeros.{Zeros}
use Rattle.interval_pruner.specs.Column.{Column, place_in}
use Rattle.interval_pruner.specs.Pruner.{past, short, upper_from, lower_near, lower_to}
use Rattle.interval_pruner.proofs.Picked.{pick_yes, pick_no}

module _ (c : Column) (z : Zeros) (d m : ℕ) where
  -- the test of the upper part, and of the lower
  far : c.small ≡ true → 0 < d → (c.small && ltb 0 d) ≡ true
  far e h = ap (λ (s : Bool). s && ltb 0 d) e ∙ lt-ltb 0 d h

  near : c.small ≡ true → d ≤ 0 → (c.small && ltb 0 d) ≡ false
  near e h = ap (λ (s : Bool). s && ltb 0 d) e ∙ le-ltb 0 d h

  large : c.small ≡ false → (c.small && ltb 0 d) ≡ false
  large e = ap (λ (s : Bool). s && ltb 0 d) e

  pub upper_far : c.small ≡ true → 0 < d → (from v r : ℕ) → from ≡ past z.left (suc m) → v ≡ place_in c m + d + 1
      → r ≡ lower_bound_of c.places from from v → r ≡ upper_from c z d m
  unfolding upper_from lower_bound_of
  upper_far e h from v r f p q =
      q ∙ sought_wide (at_least c.places v) c.places from from (omega arith) ∙
      (λ i. first_from (at_least c.places (p i)) c.places (f i)) ∙
      sym (pick_yes (c.small && ltb 0 d) _ _ (far e h))

  pub upper_near : c.small ≡ true → d ≤ 0 → suc m ≡ upper_from c z d m
  unfolding upper_from
  upper_near e h = sym (pick_no (c.small && ltb 0 d) _ _ (near e h))

  pub upper_large : c.small ≡ false → suc m ≡ upper_from c z d m
  unfolding upper_from
  upper_large e = sym (pick_no (c.small && ltb 0 d) _ _ (large e))

  module _ (first : ℕ) where
    pub lower_none : (x r : ℕ) → x ≡ place_in c m - (d + 1) → x < place_in c first → r ≡ first - 1 → r ≡ lower_near c z d m first
    unfolding lower_near
    lower_none x r p h q =
        q ∙ sym (pick_true (ltb (place_in c m - (d + 1)) (place_in c first)) _ _ (lt→ltb (place_in c m - (d + 1)) (place_in c first) (omega arith)))

    pub lower_some : (x last r : ℕ) → x ≡ place_in c m - (d + 1) → place_in c first ≤ x → last ≡ short z.right (m - 1)
        → r ≡ upper_bound_of c.places first last x → r ≡ lower_near c z d m first
    unfolding lower_near upper_bound_of
    lower_some x last r p h l q =
        q ∙ (λ i. sought_from (above c.places (p i)) c.places first (l i)) ∙
        sym (pick_false (ltb (place_in c m - (d + 1)) (place_in c first)) _ _ (le→nltb (place_in c m - (d + 1)) (place_in c first) (omega arith)))

    pub lower_far : c.small ≡ true → 0 < d → lower_near c z d m first ≡ lower_to c z d m first
    unfolding lower_to
    lower_far e h = sym (pick_yes c.small _ _ e ∙ pick_true (ltb 0 d) _ _ (lt→ltb 0 d h))

    pub lower_near_lem : c.small ≡ true → d ≤ 0 → m ≡ lower_to c z d m first
    unfolding lower_to
    lower_near_lem e h = sym (pick_yes c.small _ _ e ∙ pick_false (ltb 0 d) _ _ (le→nltb 0 d h))

    pub lower_large : c.small ≡ false → m - 1 ≡ lower_to c z d m first
    unfolding lower_to
    lower_large e = sym (pick_no c.small _ _ e)
