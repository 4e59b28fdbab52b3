-- For proofs only. What one function says of both ends of an interval.
use Rattle.std.specs.Prelude.{ℕ, ◌+◌, ◌-◌, Option, Some, None, leb}
use Rattle.basics.specs.Choice.{pick}
use Rattle.interval_pruner.specs.Column.{Column, place_in}
use Rattle.interval_pruner.specs.Pruner.{sum_of}

-- a remembered cut's place, and how far from it a better cut stands at least: its error plus gap less B, and one; none if that is less than B
unfoldable pub kept_off : Column → ℕ → Option ℕ → Option (ℕ × ℕ)
kept_off c b None = None
kept_off c b (Some k) = pick (leb b (sum_of c k)) (Some (place_in c k, sum_of c k - b + 1)) None
