-- For proofs only. What one interval's turn decides: what steps 1 and 2 leave of it, what steps 3 and 4 make of the standing, and what step 5 takes
-- from the terms.
use Rattle.std.specs.Prelude.{◌≡◌, ℕ, ◌+◌, ◌-◌, min, Bool, ◌&&◌, List, leb, ltb, eqb, Option, Some, None}
use Rattle.basics.specs.Choice.{pick}
use Rattle.sheet.specs.declared.Terms.{Terms}
use Rattle.cuts.specs.Lookups.{Ascending}
use Rattle.tree.specs.declared.Tree.{Tree}
use Rattle.interval_pruner.specs.declared.Bound.{Bound}
use Rattle.interval_pruner.specs.declared.Reach.{Reach}
use Rattle.interval_pruner.specs.declared.Zeros.{Zeros}
use Rattle.interval_pruner.specs.Column.{Column, recorded_column}
use Rattle.interval_pruner.specs.Pruner.{hopeless, shrunk_of}
use Rattle.column_turns.specs.declared.interval_steps.Standing.{Standing}

-- steps 1 and 2: what is left of an interval, nothing where it is hopeless
unfoldable pub pruned_of : Column → Zeros → ℕ → Bound → Option Bound
pruned_of c z b i = pick (hopeless c b i) None (shrunk_of c z b i)

-- the same by the errors that the table keeps, at the current error
abbrev pub PrunedBy : Terms → List ℕ → Zeros → Bound → ℕ → List ℕ → Option Bound → Type 0
PrunedBy t places z i error table left =
    Ascending places → left ≡ pruned_of (recorded_column places table t.gap (leb t.support 1)) z (min error t.bound) i

-- steps 3 and 4 for a tree of that error
unfoldable pub improved_by : Standing → Tree → Standing
improved_by p tree =
    record {
      error = min tree.error p.error;
      tried = p.tried + 1;
      held = pick (ltb tree.error p.error) (Some tree) p.held;
    }

-- "if it is 0, the column ends"
abbrev pub ends_column : ℕ → ℕ → Bool
ends_column error current = ltb error current && eqb error 0

-- what step 5 takes from the terms for a try of that error, and the current error after it
abbrev pub reach_of : Terms → ℕ → ℕ → Reach
reach_of t error current = record { gap = t.gap; small = leb t.support 1; excess = error - min current t.bound }
