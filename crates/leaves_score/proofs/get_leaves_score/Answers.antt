-- `leaves_score::get_leaves_score` meets its contract: the loop keeps `Scanning` (`Columns.antt`), and the answer is the two sides of what it ends in.
use Prim.Native.Nat.{ℕ, ◌<◌, ◌≤◌}
use mathlib.Core.Path.{◌≡◌, sym, ap, ap₂, subst, ◌∙◌}
use mathlib.Core.Bool.{Bool}
use mathlib.Core.List.{List}
use native.Mathlib.Omega.{arith}
use lib.ListN.{get_or}
use Rattle.sheet.specs.Limits.{most_labels}
use Rattle.sheet.specs.Sheet.{Sheet, label_of, least_rows}
use Rattle.sheet.specs.Rows.{rows_at}
use Rattle.side_scan.specs.declared.SideScan.{SideScan}
use Rattle.tree.specs.declared.Side.{Side}
use Rattle.side_scan.specs.OneSide.{side_of}
use Rattle.side_scan.specs.Step.{leaf_scan, SideSized}
use Rattle.leaves_score.specs.declared.two_sides.Part.{Part}
use Rattle.leaves_score.specs.Column.{Two, other, labelled, own_of, side_at_start}
use Rattle.leaves_score.specs.Scan.{start_both, scanned, sides_of}
use Rattle.leaves_score.specs.SideLists.{part_of, parts_of, both_of, ReadyRows}
use Rattle.leaves_score.specs.Lists.{Scannable, go_left}
use Rattle.leaves_score.proofs.Rows.{at}
use Rattle.leaves_score.proofs.Columns.{Both, both_scanned, sized, begins, finished, stops, goes_on, ready_column}
use Rattle.leaves_score.proofs.get_leaves_score.Goals as goal
use Rattle.leaves_score.proofs.get_leaves_score.Goals.{else-loop-column-test, then-loop-column-test+then-is_perfect}

-- a side at the start
one : (s : Sheet) (support : ℕ) (mine : ℕ → Bool) (p : Part) (least : ℕ) (t : SideScan) → p ≡ part_of s.rows s.codes mine → least ≡ least_rows support
    → t ≡ leaf_scan p.own p.size s.labels least → t ≡ side_at_start s support mine
unfolding side_at_start own_of labelled label_of rows_at
one s support mine p least t ep en et = et ∙ ap₂ (λ (p : Part) (n : ℕ). leaf_scan p.own p.size s.labels n) ep en

begun : (s : Sheet) (support : ℕ) (marks : List ℕ) (parts : List Part) (least : ℕ) (l r : SideScan) → parts ≡ parts_of s.rows s.codes marks → least ≡ least_rows support
    → l ≡ leaf_scan (at parts 0).own (at parts 0).size s.labels least → r ≡ leaf_scan (at parts 1).own (at parts 1).size s.labels least
    → record { left = l; right = r } ≡ start_both s support (go_left marks)
unfolding start_both
begun s support marks parts least l r ep en el er =
    ap₂ (λ (l r : SideScan). record { left = l; right = r })
    (one s support (go_left marks) (at parts 0) least l (ap (λ (xs : List Part). at xs 0) ep) en el)
    (one s support (other (go_left marks)) (at parts 1) least r (ap (λ (xs : List Part). at xs 1) ep) en er)

rows_ready : (s : Sheet) (marks : List ℕ) → Scannable s marks → ReadyRows s.rows s.codes marks
rows_ready s marks h =
    record {
      few = h.limited.rows_most;
      coded = h.lent.coded;
      marked = h.lent.marked;
      labelled = λ r k. omega (arith, unlabelled r k, h.limited.labels_most);
      numbered = h.lent.numbered;
    }
  where
    unlabelled : (r : ℕ) → r < s.rows → get_or s.codes r 0 < s.labels
    unlabelled r k = unfold label_of in h.labelled r k

pub part_rows-parts-requires : goal.part_rows-parts-requires
part_rows-parts-requires c = rows_ready _ _ c.requires

pub loop-column-init : goal.loop-column-init
loop-column-init c =
    begins _ _ _ _ (begun _ c.args.support _ _ _ _ _ c.part_rows-parts.ensures c.max-least.ensures c.begin-left.ensures c.begin-right.ensures)

pub scan_column-requires : goal.scan_column-requires
scan_column-requires c = ready_column _ _ _ c.requires _ _ c.loop-column-test.true c.loop-column.invariant.both

pub loop-column-preserved : goal.loop-column-preserved
loop-column-preserved c =
    goes_on _ _ _ _ _ c.loop-column.invariant c.loop-column-test.true _ c.scan_column.ensures (sym c.is_perfect.ensures ∙ c.if-is_perfect.false)

module _ (s : Sheet) (support : ℕ) (mark : ℕ → Bool) (b : Two) (e : b ≡ scanned s support mark) (some : 1 ≤ s.labels) (few : s.labels ≤ most_labels) where
  both : Both s support mark b
  both = subst (Both s support mark) (sym e) (both_scanned s support mark)

  left_sized : SideSized b.left
  left_sized = sized s support mark b.left both.left some few

  right_sized : SideSized b.right
  right_sized = sized s support (other mark) b.right both.right some few

pub to_side-left-requires : goal.to_side-left-requires
to_side-left-requires c =
    let e : both_of c.loop-column-test.sides ≡ scanned _ c.args.support (go_left c.args.marks.now) =
    elim c.loop-column-test.branch [
      | else-loop-column-test w ↦ ap both_of w.sides-is ∙ finished _ _ _ _ _ c.loop-column.invariant w.loop-column-test.false
      | then-loop-column-test+then-is_perfect w ↦ ap both_of w.sides-is
          ∙ stops _ _ _ _ _ c.loop-column.invariant w.loop-column-test.true _ w.scan_column.ensures (sym w.is_perfect.ensures ∙ w.if-is_perfect.true)
    ] in
    left_sized _ _ _ _ e c.requires.limited.labels_some c.requires.limited.labels_most

pub to_side-right-requires : goal.to_side-right-requires
to_side-right-requires c =
    let e : both_of c.loop-column-test.sides ≡ scanned _ c.args.support (go_left c.args.marks.now) =
    elim c.loop-column-test.branch [
      | else-loop-column-test w ↦ ap both_of w.sides-is ∙ finished _ _ _ _ _ c.loop-column.invariant w.loop-column-test.false
      | then-loop-column-test+then-is_perfect w ↦ ap both_of w.sides-is
          ∙ stops _ _ _ _ _ c.loop-column.invariant w.loop-column-test.true _ w.scan_column.ensures (sym w.is_perfect.ensures ∙ w.if-is_perfect.true)
    ] in
    right_sized _ _ _ _ e c.requires.limited.labels_some c.requires.limited.labels_most

pub returns : goal.returns
unfolding sides_of
returns c =
    let e : both_of c.loop-column-test.sides ≡ scanned _ c.args.support (go_left c.args.marks.now) =
    elim c.loop-column-test.branch [
      | else-loop-column-test w ↦ ap both_of w.sides-is ∙ finished _ _ _ _ _ c.loop-column.invariant w.loop-column-test.false
      | then-loop-column-test+then-is_perfect w ↦ ap both_of w.sides-is
          ∙ stops _ _ _ _ _ c.loop-column.invariant w.loop-column-test.true _ w.scan_column.ensures (sym w.is_perfect.ensures ∙ w.if-is_perfect.true)
    ] in
    ap₂ (λ (l r : Side). record { left = l; right = r })
    (c.to_side-left.ensures ∙ ap (λ (z : Two). side_of z.left) e) (c.to_side-right.ensures ∙ ap (λ (z : Two). side_of z.right) e)
