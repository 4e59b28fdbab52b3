-- `cuts::first_above` meets its contract. The loop's invariant: on an ascending list the cuts passed on the left are not placed above the value,
-- and those from `to` on are; so what is left in the end is what a walk finds. The measure is what lies between.
use Prim.Native.Nat.{ℕ, ◌≤◌, ◌<◌, ◌-◌, max}
use mathlib.Core.List.{List}
use Rattle.cuts.specs.Lookups.{place, Ascending}
use Rattle.cuts.proofs.first_above.Given as goal

pub record Bracket (places : List ℕ) (low high value from to : ℕ) : Type 0 where
  pub left : low ≤ from
  pub order : from ≤ max low to
  pub right : to ≤ high
  pub before : Ascending places → (k : ℕ) → low ≤ k → k < from → place places k ≤ value
  pub after : Ascending places → (k : ℕ) → to ≤ k → k < high → value < place places k

abbrev pub invariant-loop-from : goal.invariant-loop-from
invariant-loop-from l = Bracket l.cuts l.low l.high l.value l.from l.to

abbrev pub decreases-loop-from : goal.decreases-loop-from
decreases-loop-from l = l.to - l.from
