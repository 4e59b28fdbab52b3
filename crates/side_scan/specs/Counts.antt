-- For a signer. The best counts of the labels about a cut, and over all rows, with the labels that have them; and what the counts must be for that. Definitions only.
use Rattle.std.specs.Prelude.{ℕ, ◌-◌, ◌≤◌, ◌<◌, List, get_or, replicate}
use Rattle.sheet.specs.Limits.{most_labels}
use Rattle.tree.specs.declared.Leaf.{Leaf}
use Rattle.side_scan.specs.declared.best_counts.Peaks.{Peaks}
use Rattle.side_scan.specs.declared.best_counts.Peak.{Peak}
use Rattle.side_scan.specs.Commonest.{commonest, most_of}

abbrev pub no_rows : List ℕ
no_rows = replicate most_labels 0

-- rows of label l counted so far, and those from here on
abbrev pub counted : List ℕ → ℕ → ℕ
counted seen l = get_or seen l 0

abbrev pub coming : List ℕ → List ℕ → ℕ → ℕ
coming own seen l = get_or own l 0 - get_or seen l 0

-- the commonest of the labels, and its count
abbrev pub peak_by : (ℕ → ℕ) → ℕ → Peak
peak_by f labels = record { label = commonest f labels; count = most_of f labels }

-- a leaf of that label on so many rows
abbrev pub leaf_by : Peak → ℕ → Leaf
leaf_by p rows = record { label = p.label; error = rows - p.count }

-- "best count before" and "best count from here on", with their labels
unfoldable pub peaks_of : List ℕ → List ℕ → ℕ → Peaks
peaks_of own seen labels =
    record { before = peak_by (counted seen) labels; after = peak_by (coming own seen) labels }

-- there are labels, 32 at most, and no more rows of a label are counted than the side has
pub record Countable (own seen : List ℕ) (labels : ℕ) : Type 0 where
  pub some : 1 ≤ labels
  pub few : labels ≤ most_labels
  pub within : (l : ℕ) → l < labels → get_or seen l 0 ≤ get_or own l 0

-- the commonest label of all rows, and its count
unfoldable pub peak_of : List ℕ → ℕ → Peak
peak_of own labels = peak_by (counted own) labels
