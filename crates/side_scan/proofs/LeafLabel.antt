-- Before a row is counted all of a side's rows are to come, so the best count from there on is the commonest label's. Assumes nothing.
use Prim.Native.Nat.{ℕ, zero, suc, ◌≤◌}
use native.Mathlib.Omega.{arith}
use mathlib.Core.Path.{◌≡◌, refl, ap, fun_ext, ◌∙◌}
use mathlib.Core.List.{List}
use lib.ListN.{get_or, replicate}
use Rattle.sheet.specs.Limits.{most_labels}
use Rattle.side_scan.specs.declared.best_counts.Peaks.{Peaks}
use Rattle.side_scan.specs.Counts.{no_rows, counted, coming, Countable, peak_by, peaks_of, peak_of}

none_there : (n l : ℕ) → ◌≡◌ {A = ℕ} (get_or (replicate n 0) l 0) 0
none_there zero l = refl
none_there (suc n) zero = refl
none_there (suc n) (suc l) = none_there n l

all_to_come : (own : List ℕ) → coming own no_rows ≡ counted own
all_to_come own = fun_ext (λ l. omega (arith, none_there most_labels l))

pub countable_none : (own : List ℕ) (labels : ℕ) → 1 ≤ labels → labels ≤ most_labels → Countable own no_rows labels
countable_none own labels h k = record { some = h; few = k; within = λ l _. omega (arith, none_there most_labels l) }

pub leaf_is : (own : List ℕ) (labels : ℕ) (p : Peaks) → p ≡ peaks_of own no_rows labels → p.after ≡ peak_of own labels
unfolding peaks_of peak_of
leaf_is own labels p e = ap (λ (p : Peaks). p.after) e ∙ ap (λ (f : ℕ → ℕ). peak_by f labels) (all_to_come own)
