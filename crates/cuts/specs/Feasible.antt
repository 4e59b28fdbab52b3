-- For a signer. "Feasible cuts leave max(support, 1) rows on each side; none if rows are fewer than twice that." Definitions only.
use Rattle.std.specs.Prelude.{◌≡◌, ℕ, ◌+◌, ◌*◌, ◌≤◌, ◌<◌, max, Bool, ◌&&◌, List, length, leb, ltb}
use Rattle.basics.specs.Choice.{pick}
use Rattle.cuts.specs.declared.Run.{Run}
use Rattle.cuts.specs.Lookups.{place, Ascending, at_least, first_from}

-- cut number k leaves that many rows on each side
abbrev pub feasible : List ℕ → ℕ → ℕ → ℕ → Bool
feasible places rows support k = leb (max support 1) (place places k) && leb (place places k + max support 1) rows

-- the first cut with enough rows on its left, up to the first without enough on its right
unfoldable pub feasible_of : List ℕ → ℕ → ℕ → Run
feasible_of places rows support =
    let least : ℕ = max support 1 in
    let first : ℕ = first_from (at_least places least) places 0 in
    let end : ℕ = first_from (λ k. ltb rows (place places k + least)) places 0 in
    pick (ltb rows (2 * least)) (record { first = 0; end = 0 }) (record { first = first; end = max end first })

-- "The feasible cuts' numbers" are a run: on an ascending list the cuts of the run are the feasible ones
pub record Exactly (places : List ℕ) (rows support : ℕ) (run : Run) : Type 0 where
  pub order : run.first ≤ run.end
  pub listed : run.end ≤ length places
  pub inside : (k : ℕ) → k < length places → (leb run.first k && ltb k run.end) ≡ feasible places rows support k

abbrev pub FeasibleExactly : Type 0
FeasibleExactly =
    (places : List ℕ) (rows support : ℕ) → Ascending places → Exactly places rows support (feasible_of places rows support)

-- a run r of cut numbers: inside the list, whatever it holds; on an ascending list the feasible ones
abbrev pub FeasibleRun : List ℕ → ℕ → ℕ → Run → Type 0
FeasibleRun places rows support r = ((r.first ≤ r.end) × (r.end ≤ length places)) × (Ascending places → r ≡ feasible_of places rows support)
