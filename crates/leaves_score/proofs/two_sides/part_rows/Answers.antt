-- `leaves_score::two_sides::part_rows` meets its contract: each row is counted for one side and for no other (`Rows.antt`).
use native.Mathlib.Omega.{arith}
use mathlib.Core.Path.{refl}
use Rattle.side_scan.specs.OneSide.{raised}
use Rattle.leaves_score.proofs.Rows.{none_yet, met, size_met, parts_on, parted}
use Rattle.leaves_score.proofs.two_sides.part_rows.Goals as goal

pub loop-row-init : goal.loop-row-init
loop-row-init c = record { two = refl; left = none_yet _ _; right = none_yet _ _ }

pub overflow_add-part : goal.overflow_add-part
overflow_add-part c =
    let r = c.requires in
    let i = c.loop-row.row in
    record { fits = omega (arith, met _ _ _ _ c.loop-row.invariant _ c.from-label.result (r.numbered i c.loop-row-test.true) (rw c.from-label.ensures (r.labelled i c.loop-row-test.true)), r.few) }

pub overflow_add-part-in-loop-row : goal.overflow_add-part-in-loop-row
overflow_add-part-in-loop-row c =
    record { fits = omega (arith, size_met _ _ _ _ c.loop-row.invariant _ (c.requires.numbered c.loop-row.row c.loop-row-test.true), c.requires.few) }

pub loop-row-preserved : goal.loop-row-preserved
unfolding raised
loop-row-preserved c =
    parts_on _ _ _ _ c.loop-row.invariant c.from-label.result _ c.from-label.ensures refl (c.requires.numbered c.loop-row.row c.loop-row-test.true) _ refl

pub returns : goal.returns
returns c = parted _ _ _ _ _ (omega arith) c.loop-row.invariant
