-- A row goes to the side that the first question says: that side's lemma says what comes there, and the other's that nothing does.
use mathlib.Core.Path.{sym, ap, ◌∙◌, subst}
use mathlib.Core.Bool.{not}
use native.Mathlib.Omega.{arith}
use Rattle.sheet.specs.Sheet.{Sheet}
use Rattle.sheet.specs.Lent.{measured_in}
use Rattle.sheet.proofs.Search.{truth, untruth}
use Rattle.judge.specs.Mistakes.{root_leftward, root_rightward}
use Rattle.judge.specs.Passing.{SeenWithin, next_of}
use Rattle.judge.proofs.Passing.{seen_none, seen_comes, seen_stays, seen_within, passed}
use Rattle.judge.proofs.judge_rows.pass.Goals as goal
use Rattle.judge.proofs.judge_rows.pass.Goals.{else-sent_left, then-sent_left}

pub loop-row-init : goal.loop-row-init
loop-row-init c =
    let t = c.args.tree in
    let s : Sheet = measured_in c.args.measured.now in
    (seen_none s (root_leftward s t) t.left, seen_none s (root_rightward s t) t.right)

pub next-left-requires : goal.next-left-requires
next-left-requires c =
    let t = c.args.tree in
    let s : Sheet = measured_in c.args.measured.now in
    let l = c.loop-row in (
      c.requires.0,
      c.requires.1.left,
      omega (arith, c.loop-row-test.true),
      subst (λ x. SeenWithin x l.row) (sym l.invariant.0) (seen_within s (root_leftward s t) t.left l.row),
    )

pub next-right-requires : goal.next-right-requires
next-right-requires c =
    let t = c.args.tree in
    let s : Sheet = measured_in c.args.measured.now in
    let l = c.loop-row in (
      c.requires.0,
      c.requires.1.right,
      omega (arith, c.loop-row-test.true),
      subst (λ x. SeenWithin x l.row) (sym l.invariant.1) (seen_within s (root_rightward s t) t.right l.row),
    )

pub loop-row-preserved : goal.loop-row-preserved
loop-row-preserved c =
    let t = c.args.tree in
    let s : Sheet = measured_in c.args.measured.now in
    let l = c.loop-row in
    elim c.if-sent_left.branch [
      | then-sent_left w ↦ let e = sym c.sent_left.ensures ∙ w.if-sent_left.true in (
        w.left-is ∙ w.next-left.ensures ∙ ap (λ x. next_of s t.left l.row x) l.invariant.0
            ∙ seen_comes s (root_leftward s t) t.left l.row (truth e),
        w.right-is ∙ l.invariant.1 ∙ seen_stays s (root_rightward s t) t.right l.row (untruth (ap not e)),
      )
      | else-sent_left w ↦ let e = sym c.sent_left.ensures ∙ w.if-sent_left.false in (
        w.left-is ∙ l.invariant.0 ∙ seen_stays s (root_leftward s t) t.left l.row (untruth e),
        w.right-is ∙ w.next-right.ensures ∙ ap (λ x. next_of s t.right l.row x) l.invariant.1
            ∙ seen_comes s (root_rightward s t) t.right l.row (truth (ap not e)),
      )
    ]

pub returns : goal.returns
returns c =
    let l = c.loop-row in
    let s : Sheet = measured_in c.args.measured.now in
    passed s c.args.tree l.left l.right l.row s.rows (omega (arith, c.loop-row-test.false, l.auto.row-end)) l.invariant.0 l.invariant.1
