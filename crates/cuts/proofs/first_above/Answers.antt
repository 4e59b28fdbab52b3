use mathlib.Core.Path.{sym}
use Prim.Native.Nat.{ℕ, ◌≤◌, ◌<◌, ◌-◌, ◌+◌}
use mathlib.Core.List.{List}
use native.Mathlib.Omega.{arith}
use lib.ListN.{length}
use lib.Dec.{lt→ltb}
use lib.Arith.{le→nltb}
use Rattle.basics.specs.Walk.{Walked}
use Rattle.basics.proofs.Walk.{walk_unique}
use Rattle.cuts.specs.Lookups.{place, Ascending, above}
use Rattle.cuts.proofs.Lookups.{ascending_le}
use Rattle.cuts.proofs.first_above.Invariants.{Bracket}
use Rattle.cuts.proofs.first_above.Goals as goal

module _ {places : List ℕ} {low high value from to : ℕ} (listed : high ≤ length places) (i : Bracket places low high value from to) where
  module _ (m : ℕ) (l : from ≤ m) (u : m < to) where
    down : value < place places m → Bracket places low high value from m
    down t =
        record {
          left = i.left;
          order = omega arith;
          right = omega (arith, i.right);
          before = i.before;
          after = λ up k p q. omega (arith, ascending_le places up m k p (omega arith));
        }

    up : place places m ≤ value → Bracket places low high value (m + 1) to
    up t =
        record {
          left = omega (arith, i.left);
          order = omega arith;
          right = i.right;
          before = λ up k p q. omega (arith, ascending_le places up k m (omega arith) (omega (arith, i.right)));
          after = i.after;
        }

  -- once nothing lies between, `from` is what a walk finds
  closed : to ≤ from → Ascending places → Walked (above places value) (high - low) low from
  closed h up =
      record {
        low = i.left;
        high = omega (arith, i.order, i.right, i.left);
        before = λ k p q. le→nltb value (place places k) (i.before up k p q);
        found = λ q. lt→ltb value (place places from) (i.after up from h (omega (arith, i.left)));
      }

pub loop-from-init : goal.loop-from-init
loop-from-init c =
    record { left = omega arith; order = omega arith; right = omega arith; before = λ up k p q. omega arith; after = λ up k p q. omega arith }

pub loop-from-preserved-then-value-from : goal.loop-from-preserved-then-value-from
unfolding place
loop-from-preserved-then-value-from c =
    down c.requires c.loop-from.invariant _ (omega arith) (omega arith) (omega (arith, c.if-value-from.true))

pub loop-from-preserved : goal.loop-from-preserved
unfolding place
loop-from-preserved c =
    up c.requires c.loop-from.invariant _ (omega arith) (omega arith) (omega (arith, c.if-value-from.false))

pub returns : goal.returns
returns c =
    let i = c.loop-from.invariant in
    record {
      inside = (i.left, omega (arith, i.order, i.right));
      found = λ up. sym (walk_unique _ _ _ _ (closed c.requires i c.loop-from-test.false up));
    }
