use mathlib.Core.Path.{sym, ◌∙◌}
use Rattle.prepare.proofs.Cutting.{start, cut, no_rise, total, cleared}
use Rattle.prepare.proofs.column_lists.find_cuts.Goals as goal
use Rattle.prepare.proofs.column_lists.find_cuts.Goals.{else-below, then-below}

pub loop-i-init : goal.loop-i-init
loop-i-init c = start _ _ _ c.requires

pub loop-i-preserved : goal.loop-i-preserved
loop-i-preserved c =
    let h = c in
    let p = c in
    let l = c.loop-i-test.true in
    elim c.if-below.branch [ then-below w ↦ rw (w.cuts-is, w.count-is) (cut _ _ _ p.requires _ _ _ h.loop-i.invariant l (sym c.below.ensures ∙ w.if-below.true)) | else-below w ↦ rw (w.cuts-is, w.count-is) (no_rise _ _ _ p.requires _ _ _ h.loop-i.invariant l (sym c.below.ensures ∙ w.if-below.false)) ]

pub returns : goal.returns
returns c =
    let h = c in
    let p = c in
    let l = c.loop-i-test.false in
    (total _ _ _ p.requires _ _ _ h.loop-i.invariant l, cleared _ _ _ p.requires _ _ _ h.loop-i.invariant l _ (c.fill.ensures.after (λ y e. e)))
