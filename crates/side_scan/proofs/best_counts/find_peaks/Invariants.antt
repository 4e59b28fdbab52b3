-- `side_scan::best_counts::find_peaks`: each turn of the loop takes both running maxima one label on.
use mathlib.Core.Path.{◌≡◌}
use Rattle.side_scan.specs.Commonest.{run_to}
use Rattle.side_scan.specs.Counts.{counted, coming}
use Rattle.side_scan.proofs.best_counts.find_peaks.Given as goal

abbrev pub invariant-loop-label : goal.invariant-loop-label
invariant-loop-label l =
    (l.before ≡ run_to (counted l.seen) l.label) × (l.after ≡ run_to (coming l.own l.seen) l.label)
