-- `side_scan::SideScan::step` meets its contract: a closed side stays, and a row of an open one is only counted, or its cut is scored first (`Steps.antt`).
use mathlib.Core.Path.{sym, ap, ◌∙◌}
use Rattle.side_scan.specs.declared.SideScan.{SideScan}
use Rattle.side_scan.specs.OneSide.{raised, gone_past, count_row}
use Rattle.side_scan.proofs.Steps.{stays_closed, only, cuts}
use Rattle.side_scan.proofs.SideScan.step.Goals as goal
use Rattle.side_scan.proofs.SideScan.step.Goals.{then-not-is_quiet, else-not-is_quiet}

pub returns-then-self : goal.returns-then-self
returns-then-self c = stays_closed _ _ _ _ c.if-self.true

pub returns : goal.returns
unfolding count_row raised
returns c =
    let a = c.args in
    let t = a.self in
    let f = c.fallen in
    let counts = λ (u : SideScan). gone_past (record u { seen = raised t.seen a.label }) a.value in
    let quiet = c.is_quiet.ensures in
    c.go_past.ensures
    ∙ elim c.if-not-is_quiet.branch [
      | then-not-is_quiet w ↦
          ap counts (w.self-is ∙ w.score_cut.ensures) ∙ cuts t a.column a.label a.value f.result c.if-self.false f.ensures (sym quiet ∙ w.if-not-is_quiet.true)
      | else-not-is_quiet w ↦
          ap counts w.self-is ∙ only t a.column a.label a.value f.result c.if-self.false f.ensures (sym quiet ∙ w.if-not-is_quiet.false)
    ]
