-- `leaves_score::column_scan::scan_column` meets its contract: each row moves its side on (`Column.antt`).
use native.Mathlib.Omega.{arith}
use mathlib.Core.Path.{◌∙◌}
use Rattle.leaves_score.proofs.Column.{finished, opens_fresh, leaves_fresh, row_in, side_in, passed, taken, none_past, goes_on, ends}
use Rattle.leaves_score.proofs.column_scan.scan_column.Goals as goal
use Rattle.leaves_score.proofs.column_scan.scan_column.Goals.{then-not-sides-side+else-is_over, else-not-sides-side}

pub loop-i-init : goal.loop-i-init
loop-i-init c = opens_fresh _ _ _ _ c.requires c.told-sides _ _ c.restart.ensures c.restart-2.ensures

pub bounds-marks-row : goal.bounds-marks-row
bounds-marks-row c = omega (arith, row_in _ _ _ _ c.requires _ _ _ c.loop-i.invariant c.loop-i-test.true _ c.from-row.ensures, c.requires.marked)

pub bounds-sides-side : goal.bounds-sides-side
bounds-sides-side c = side_in _ _ _ _ c.requires _ _ _ c.loop-i.invariant c.loop-i-test.true _ c.from-row.ensures

pub bounds-codes-row : goal.bounds-codes-row
bounds-codes-row c = omega (arith, row_in _ _ _ _ c.requires _ _ _ c.loop-i.invariant c.loop-i-test.true _ c.from-row.ensures, c.requires.coded)

pub bounds-sides-side-then-not-sides-side : goal.bounds-sides-side-then-not-sides-side
bounds-sides-side-then-not-sides-side c = side_in _ _ _ _ c.requires _ _ _ c.loop-i.invariant c.loop-i-test.true _ c.from-row.ensures

pub bounds-values-base : goal.bounds-values-base
bounds-values-base c = omega (arith, row_in _ _ _ _ c.requires _ _ _ c.loop-i.invariant c.loop-i-test.true _ c.from-row.ensures, c.requires.valued)

pub take_row-requires-clause-ready : goal.take_row-requires-clause-ready
take_row-requires-clause-ready c =
    taken _ _ _ _ c.requires _ _ _ c.loop-i.invariant c.loop-i-test.true _ c.from-row.ensures _ c.from-label.ensures c.if-not-sides-side.true

pub is_over-requires-clause-own_in : goal.is_over-requires-clause-own_in
is_over-requires-clause-own_in c = side_in _ _ _ _ c.requires _ _ _ c.loop-i.invariant c.loop-i-test.true _ c.from-row.ensures

pub is_over-requires-clause-within : goal.is_over-requires-clause-within
is_over-requires-clause-within c = none_past _ _ _ _ c.requires _ _ _ c.loop-i.invariant c.loop-i-test.true _ c.from-row.ensures _ c.from-label.ensures _ c.take_row.ensures

pub loop-i-preserved : goal.loop-i-preserved
loop-i-preserved c =
    let i = c.loop-i in
    elim c.if-not-sides-side.branch [
      | then-not-sides-side+else-is_over w ↦
          rw w.sides-is (goes_on _ _ _ _ c.requires _ _ _ i.invariant c.loop-i-test.true _ c.from-row.ensures _ w.from-label.ensures _ w.take_row.ensures _ w.is_over.ensures w.if-is_over.false)
      | else-not-sides-side w ↦
          rw w.sides-is (passed _ _ _ _ c.requires _ _ _ i.invariant c.loop-i-test.true _ c.from-row.ensures w.if-not-sides-side.false)
    ]

pub returns-after-loop-i : goal.returns-after-loop-i
returns-after-loop-i c =
    finished _ _ _ _ _ _ c.loop-i.invariant c.loop-i-test.false
    ∙ leaves_fresh _ _ _ _ c.requires c.told-sides _ _ c.restart.ensures c.restart-2.ensures

pub returns-then-is_over : goal.returns-then-is_over
returns-then-is_over c =
    ends _ _ _ _ c.requires _ _ _ c.loop-i.invariant c.loop-i-test.true _ c.from-row.ensures _ c.from-label.ensures _ c.take_row.ensures _ c.is_over.ensures c.if-is_over.true
    ∙ leaves_fresh _ _ _ _ c.requires c.told-sides _ _ c.restart.ensures c.restart-2.ensures
