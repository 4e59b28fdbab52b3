-- `interval_pruner::neighbourhood_pruning::lower_to` meets its contract: each way is one of the definition's.
use mathlib.Core.Path.{◌∙◌, subst}
use Prim.Native.Nat.{ℕ, ◌+◌, ◌<◌}
use Rattle.interval_pruner.specs.Pruner.{lower_near}
use Rattle.interval_pruner.proofs.Neighbours.{lower_far}
use Rattle.interval_pruner.proofs.neighbourhood_pruning.lower_to.Goals as goal

pub returns-then-distance-gt0 : goal.returns-then-distance-gt0
unfolding lower_near
returns-then-distance-gt0 c =
    let a = c.args in
    let far = subst (λ (d : ℕ). 0 < d) c.distance.ensures.value c.if-distance-gt0.true in
    λ up. c.lower_near.ensures up ∙ lower_far _ a.zeros (a.reach.excess + a.reach.gap) a.cut a.first c.if-reach.true far
