-- `side_scan::best_counts::find_peaks` meets its contract (`Commonest.antt`).
use Rattle.std.proofs.Common.{arith, ◌≡◌, refl, ap₂}
use native.Mathlib.Numerals.{add-one}
use Rattle.side_scan.specs.declared.best_counts.Peak.{Peak}
use Rattle.side_scan.specs.Commonest.{run_to}
use Rattle.side_scan.specs.Counts.{counted, coming, peaks_of}
use Rattle.side_scan.proofs.Commonest.{not_below, peak_is}
use Rattle.side_scan.proofs.best_counts.find_peaks.Goals as goal

pub loop-label-init : goal.loop-label-init
unfolding run_to
loop-label-init c = (refl, refl)

pub loop-label-preserved : goal.loop-label-preserved
unfolding run_to
loop-label-preserved c =
    let i = c.loop-label.invariant in (
      rw (add-one, ← i.0) c.and-before.ensures,
      rw (add-one, ← i.1) c.and-after.ensures,
    )

pub peak-requires : goal.peak-requires
peak-requires c = not_below _ _ _ _ c.requires.some (omega arith) c.loop-label.invariant.0

pub peak-requires-2 : goal.peak-requires-2
peak-requires-2 c = not_below _ _ _ _ c.requires.some (omega arith) c.loop-label.invariant.1

pub returns : goal.returns
unfolding peaks_of
returns c =
    let labels = c.args.labels in
    let all : c.loop-label.label ≡ labels = omega arith in
    ap₂ (λ (b a : Peak). record { before = b; after = a })
    (peak_is (counted c.args.seen.now) labels _ _ c.requires.some all c.loop-label.invariant.0 c.peak.result c.peak.ensures.same_label c.peak.ensures.same_count)
    (peak_is (coming c.args.own.now c.args.seen.now) labels _ _ c.requires.some all c.loop-label.invariant.1 c.peak-2.result c.peak-2.ensures.same_label c.peak-2.ensures.same_count)
