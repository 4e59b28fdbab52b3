-- For a signer. What a record must have for a row to be taken, and a side's leaf, at its start and at its end. Definitions only.
use Rattle.std.specs.Prelude.{◌≡◌, ℕ, ◌≤◌, ◌<◌, false, List, get_or}
use Rattle.sheet.specs.Limits.{most_labels, most_rows}
use Rattle.side_scan.specs.declared.SideScan.{SideScan}
use Rattle.side_scan.specs.Commonest.{most_of}
use Rattle.side_scan.specs.Counts.{counted}
use Rattle.side_scan.specs.OneSide.{leaf_best, at_start, counted_of, later, rows_left}

-- a side that can take one more row
pub record Cuttable (t : SideScan) : Type 0 where
  pub some : 1 ≤ t.labels
  pub few : t.labels ≤ most_labels
  pub more : t.counted < t.size
  pub small : t.size ≤ most_rows
  -- a label's rows counted are among the side's own, and among all counted; its rows to come are among all to come
  pub own : (l : ℕ) → l < t.labels → counted_of t l ≤ get_or t.own l 0
  pub seen : (l : ℕ) → l < t.labels → counted_of t l ≤ t.counted
  pub left : (l : ℕ) → l < t.labels → later t l ≤ rows_left t

-- and of that label
pub record Ready (t : SideScan) (label : ℕ) : Type 0 where
  pub cut : Cuttable t
  pub coded : label < t.labels

-- a closed side takes any row, and stays as it is
abbrev pub Steppable : SideScan → ℕ → Type 0
Steppable t label = t.closed ≡ false → Ready t label

-- ---- a side's leaf, at its start and at its end

-- a leaf of those rows, before the first column
abbrev pub leaf_scan : List ℕ → ℕ → ℕ → ℕ → SideScan
leaf_scan own size labels least = at_start own size labels least (leaf_best (most_of (counted own) labels))

-- a side whose labels' counts are within its size
pub record SideSized (t : SideScan) : Type 0 where
  pub some : 1 ≤ t.labels
  pub few : t.labels ≤ most_labels
  pub own : (l : ℕ) → l < t.labels → get_or t.own l 0 ≤ t.size
