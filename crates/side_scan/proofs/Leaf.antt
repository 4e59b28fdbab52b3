-- The side that a scan ends in: its leaf's label and count are the commonest label's. Assumes nothing.
use Prim.Native.Nat.{ℕ, ◌-◌, ◌≤◌}
use mathlib.Core.Path.{◌≡◌, sym, ap, subst, ◌∙◌}
use mathlib.Core.Bool.{Bool}
use borrow.Author.Tests.{eq-eqb, ne_eqb}
use Rattle.basics.specs.Choice.{pick}
use Rattle.tree.specs.declared.Side.{Side}
use Rattle.tree.specs.declared.Side.TheVariants.{Leaf, Split}
use Rattle.side_scan.specs.declared.SideScan.{SideScan}
use Rattle.side_scan.specs.declared.best_counts.Peak.{Peak}
use Rattle.side_scan.specs.OneSide.{leaf_label, leaf_score, side_of}
use Rattle.side_scan.specs.Counts.{counted, peak_of}
use Rattle.side_scan.specs.Step.{SideSized}
use Rattle.side_scan.proofs.Commonest.{most_under}

module _ (t : SideScan) (leaf : Peak) (e : leaf ≡ peak_of t.own t.labels) where
  pub leaf_count_lem : leaf.count ≡ leaf_score t
  unfolding peak_of leaf_score
  leaf_count_lem = ap (λ (p : Peak). p.count) e

  leaf_label_lem : leaf.label ≡ leaf_label t
  unfolding peak_of leaf_label
  leaf_label_lem = ap (λ (p : Peak). p.label) e

  pub leaf_within : SideSized t → leaf.count ≤ t.size
  unfolding leaf_score
  leaf_within h = subst (λ (n : ℕ). n ≤ t.size) (sym leaf_count_lem) (most_under (counted t.own) t.labels t.size h.some h.own)

  abbrev whole : ℕ → ℕ → Side
  whole label count = Leaf (record { label = label; error = t.size - count })

  abbrev split : Side
  split = Split t.best.question t.best.left t.best.right

  pub stays_leaf : t.best.score ≡ leaf.count → whole leaf.label leaf.count ≡ side_of t
  unfolding side_of pick
  stays_leaf h =
      ap (λ (l : ℕ). whole l leaf.count) leaf_label_lem ∙ ap (whole (leaf_label t)) leaf_count_lem
      ∙ sym (ap (λ (b : Bool). pick b (whole (leaf_label t) (leaf_score t)) split) (eq-eqb t.best.score (leaf_score t) (h ∙ leaf_count_lem)))

  pub splits : (t.best.score ≡ leaf.count → ⊥) → split ≡ side_of t
  unfolding side_of pick
  splits h = sym (ap (λ (b : Bool). pick b (whole (leaf_label t) (leaf_score t)) split) (ne_eqb t.best.score (leaf_score t) (λ z. h (z ∙ sym leaf_count_lem))))
