-- `interval_pruner::interval_shrinking::away_from_left` meets its contract: it starts where the remembered cut lets it.
use mathlib.Core.Path.{sym, ◌∙◌}
use Rattle.interval_pruner.proofs.Shrinking.{start_moved}
use Rattle.interval_pruner.proofs.interval_shrinking.away_from_left.Goals as goal

pub returns : goal.returns
returns c =
    λ up. c.between-2.ensures ∙ start_moved _ _ _ _ _ _ _ _ _ (sym c.kept_off.ensures.value ∙ c.in-Some.is) (c.lower_bound-start.ensures.1 up)
