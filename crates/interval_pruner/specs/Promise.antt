-- For a signer. What the calls of the pruner promise: of the record of tries, its answer and the lent table; of steps 1, 2 and 5, their
-- answers on the lists that a search hands them. On other lists they end, and their answer is not said.
use Rattle.std.specs.Prelude.{◌≡◌, ℕ, Bool, List, [], Option}
use Rattle.cuts.specs.Lookups.{Ascending}
use Rattle.interval_pruner.specs.declared.Bound.{Bound}
use Rattle.interval_pruner.specs.declared.Parts.{Parts}
use Rattle.interval_pruner.specs.declared.Zeros.{Zeros}
use Rattle.interval_pruner.specs.Column.{recorded_column}
use Rattle.interval_pruner.specs.Pruner.{zeros_after, recorded_after, hopeless, shrunk_of, parts_of, PartsListed}

abbrev pub ResultAdded : List ℕ → Zeros → ℕ → ℕ → ℕ → Zeros → List ℕ → Type 0
ResultAdded table zeros cut left right r table' = (r ≡ zeros_after zeros cut left right) × (table' ≡ recorded_after table cut left right)

-- step 1; it looks at no place
abbrev pub DroppedOf : List ℕ → Bound → ℕ → ℕ → Bool → Bool → Type 0
DroppedOf table bound gap best small r = (places : List ℕ) → r ≡ hopeless (recorded_column places table gap small) best bound

-- step 2, on an ascending list
abbrev pub ShrunkTo : List ℕ → List ℕ → Zeros → Bound → ℕ → ℕ → Bool → Option Bound → Type 0
ShrunkTo places table zeros bound gap best small r = Ascending places → r ≡ shrunk_of (recorded_column places table gap small) zeros best bound

-- step 5, for a cut and a mark of an ascending list; it looks at no recorded error
abbrev pub PartedAt : List ℕ → Zeros → ℕ → ℕ → ℕ → ℕ → Bool → Parts → Type 0
PartedAt places zeros gap excess first cut small r =
    PartsListed places zeros cut → r ≡ parts_of (recorded_column places [] gap small) zeros excess cut first
