-- `side_scan::SideScan::to_side` meets its contract: the leaf's label and count are the callee's (`Leaf.antt`).
use mathlib.Core.Path.{ap, ◌∙◌}
use Rattle.tree.specs.declared.Side.TheVariants.{Leaf}
use Rattle.side_scan.proofs.Leaf.{leaf_within, stays_leaf, splits}
use Rattle.side_scan.proofs.SideScan.to_side.Goals as goal

pub leaf-requires : goal.leaf-requires
leaf-requires c = leaf_within _ _ c.commonest_label-commonest.ensures c.requires

pub returns-then-self-commonest : goal.returns-then-self-commonest
returns-then-self-commonest c = ap Leaf c.leaf.ensures ∙ stays_leaf _ _ c.commonest_label-commonest.ensures c.if-self-commonest.true

pub returns : goal.returns
returns c = splits _ _ c.commonest_label-commonest.ensures c.if-self-commonest.false
