-- `interval_pruner::interval_shrinking::away_from_right` meets its contract: it ends where the remembered cut lets it.
use mathlib.Core.Path.{sym, ap, ◌∙◌}
use Prim.Native.Nat.{ℕ}
use mathlib.Core.Bool.{true}
use mathlib.Core.List.{[]}
use Rattle.interval_pruner.specs.Column.{recorded_column}
use Rattle.interval_pruner.specs.Pruner.{end_above}
use Rattle.interval_pruner.proofs.Shrinking.{end_moved}
use Rattle.interval_pruner.proofs.interval_shrinking.away_from_right.Goals as goal

pub returns : goal.returns
unfolding end_above
returns c =
    let a = c.args in
    λ up.
    c.up_to.ensures up ∙
    ap (λ (x : ℕ). end_above (recorded_column a.tries.now.cuts.now [] 0 true) a.bound x a.bound.first a.bound.last) c.saturating_sub.ensures ∙
    end_moved _ _ _ _ _ _ _ _ (sym c.kept_off.ensures.value ∙ c.in-Some.is)
