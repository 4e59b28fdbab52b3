-- What a cut asks of a side that can take a row. Assumes nothing.
use Prim.Native.Nat.{◌+◌, ◌≤◌}
use mathlib.Core.Path.{◌≡◌, sym, subst}
use native.Mathlib.Omega.{arith}
use Rattle.sheet.specs.Limits.{most_rows}
use Rattle.side_scan.specs.declared.SideScan.{SideScan}
use Rattle.side_scan.specs.declared.best_counts.Peaks.{Peaks}
use Rattle.side_scan.specs.Counts.{peaks_of}
use Rattle.side_scan.specs.OneSide.{counted_of, later, rows_left, peaks_at}
use Rattle.side_scan.specs.Step.{Cuttable}
use Rattle.side_scan.proofs.Commonest.{most_under}

module _ (t : SideScan) (h : Cuttable t) where
  module _ (p : Peaks) (e : p ≡ peaks_at t) where
    -- no label has more rows than there are before the cut, or from it on
    pub before_in : p.before.count ≤ t.counted
    unfolding peaks_of
    before_in = subst (λ (p : Peaks). p.before.count ≤ t.counted) (sym e) (most_under (counted_of t) t.labels t.counted h.some h.seen)

    pub after_in : p.after.count ≤ rows_left t
    unfolding peaks_of
    after_in = subst (λ (p : Peaks). p.after.count ≤ rows_left t) (sym e) (most_under (later t) t.labels (rows_left t) h.some h.left)

    pub few : p.before.count + p.after.count ≤ most_rows
    few = omega (arith, before_in, after_in, h.more, h.small)
