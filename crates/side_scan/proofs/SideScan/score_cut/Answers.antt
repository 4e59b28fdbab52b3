-- `side_scan::SideScan::score_cut` meets its contract: its calls' facts put together (`Steps.antt`).
use mathlib.Core.Path.{◌≡◌, ap, ◌∙◌}
use lib.Ieee.{Float, of_bits}
use Rattle.std.specs.Prelude.{unwrap_or}
use Rattle.basics.specs.Choice.{pick}
use Rattle.side_scan.specs.declared.best_counts.Peaks.{Peaks}
use Rattle.side_scan.specs.declared.cut_score.Cut.{Cut}
use Rattle.side_scan.specs.declared.SideScan.{SideScan}
use Rattle.side_scan.specs.Scored.{split_by}
use Rattle.side_scan.specs.OneSide.{nought, rows_left, peaks_at, cut_at}
use Rattle.side_scan.proofs.Peaks.{before_in, after_in, few}
use Rattle.side_scan.proofs.Steps.{scored_is}
use Rattle.side_scan.proofs.SideScan.score_cut.Goals as goal

cut_is : (t : SideScan) (p : Peaks) → p ≡ peaks_at t → ◌≡◌ {A = Cut} (record { peaks = p; counted = t.counted; rest = rows_left t }) (cut_at t)
cut_is t p e = ap (λ (p : Peaks). record { peaks = p; counted = t.counted; rest = rows_left t }) e

pub invariant_of-cut : goal.invariant_of-cut
invariant_of-cut c =
    let p = c.find_peaks.result in
    let e = c.find_peaks.ensures in
    record { some_before = before_in _ c.requires p e; some_after = after_in _ c.requires p e; few = few _ c.requires p e }

pub returns-then-verdict : goal.returns-then-verdict
unfolding pick of_bits
returns-then-verdict c =
    let a = c.args in
    let t = a.self.now in
    let k : Cut = record { peaks = c.find_peaks.result; counted = t.counted; rest = rows_left t } in
    let previous : c.unwrap_or-previous.result ≡ unwrap_or t.previous nought = c.unwrap_or-previous.ensures in
    scored_is t a.column a.value k _ _ (cut_is t _ c.find_peaks.ensures) c.judge-verdict.ensures
    (rw c.if-verdict.true (c.split-self.ensures ∙ ap (λ (x : Float). split_by k a.column x a.value) previous))

pub returns-else-verdict : goal.returns-else-verdict
unfolding pick
returns-else-verdict c =
    let a = c.args in
    scored_is a.self.now a.column a.value _ _ a.self.now.best (cut_is a.self.now _ c.find_peaks.ensures) c.judge-verdict.ensures (rw c.if-verdict.false)
