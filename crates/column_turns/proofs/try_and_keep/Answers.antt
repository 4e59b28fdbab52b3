-- `column_turns::try_and_keep` meets its contract. The two errors kept are those of the tree's sides.
use mathlib.Core.Path.{refl, ap, ◌∙◌}
use lib.ListN.{length}
use native.Mathlib.Omega.{arith}
use Rattle.tree.specs.declared.Tree.{Tree}
use Rattle.tree.specs.Answer.{side_error}
use Rattle.leaves_score.specs.Root.{errors_at}
use Rattle.interval_pruner.specs.Pruner.{zeros_after, recorded_after}
use Rattle.column_turns.specs.Try.{tried_tree, tree_at}
use Rattle.interval_pruner.proofs.Results.{recorded_length}
use Rattle.column_turns.proofs.Try.{tried_few}
use Rattle.column_turns.proofs.try_and_keep.Goals as goal

pub side_error-left-requires : goal.side_error-left-requires
unfolding tried_tree tree_at
side_error-left-requires c =
    let start = c in
    let a = start.args in
    omega (arith, tried_few a.sheet.now a.column a.cut a.words.now.marks.now start.requires a.support, ap (λ (z : Tree). side_error z.left) c.try_cut-tree.ensures.0, start.requires.whole.sound.limited.rows_most)

pub side_error-right-requires : goal.side_error-right-requires
unfolding tried_tree tree_at
side_error-right-requires c =
    let start = c in
    let a = start.args in
    omega (arith, tried_few a.sheet.now a.column a.cut a.words.now.marks.now start.requires a.support, ap (λ (z : Tree). side_error z.right) c.try_cut-tree.ensures.0, start.requires.whole.sound.limited.rows_most)

pub returns : goal.returns
unfolding tried_tree tree_at errors_at
returns c =
    let a = c.args in
    let tree = c.try_cut-tree in
    let kept = c.add_result-zeros in
    let e = tree.ensures.0 in
    let left = c.side_error-left.ensures ∙ ap (λ (z : Tree). side_error z.left) e in
    let right = c.side_error-right.ensures ∙ ap (λ (z : Tree). side_error z.right) e in
    record {
      tree = e;
      zeros_are = kept.ensures.0 ∙ (λ t. zeros_after a.zeros a.cut (left t) (right t));
      table_is = kept.ensures.1 ∙ (λ t. recorded_after a.words.now.table.now a.cut (left t) (right t));
      ring_is = refl;
      kept =
          record {
            table_memory = refl;
            ring_memory = refl;
            marks_memory = refl;
            table_size = ap length kept.ensures.1 ∙ recorded_length a.words.now.table.now a.cut c.side_error-left.result c.side_error-right.result;
            ring_size = refl;
            marks_size = tree.ensures.1;
          };
    }
