-- `column_turns::cut_try::try_cut` meets its contract. The marks say what the cut does, so the scan finds its two sides; their errors together are at most the rows.
use mathlib.Core.Path.{ap, ◌∙◌}
use Prim.Native.Nat.{ℕ, ◌+◌}
use native.Mathlib.Omega.{arith}
use mathlib.Core.List.{List}
use Rattle.tree.specs.Answer.{side_error}
use Rattle.leaves_score.specs.declared.Sides.{Sides}
use Rattle.leaves_score.specs.Root.{errors_at}
use Rattle.column_turns.specs.Try.{tried_tree, tree_at}
use Rattle.column_turns.proofs.Try.{tried_cutting, tried_marking, tried_scannable, tried_sides, tried_few}
use Rattle.column_turns.proofs.cut_try.try_cut.Goals as goal

pub root_question-question-requires : goal.root_question-question-requires
root_question-question-requires c =
    let start = c in
    let a = start.args in
    tried_cutting a.sheet.now a.column a.cut a.marks.now start.requires

pub mark_cut-requires : goal.mark_cut-requires
mark_cut-requires c =
    let start = c in
    let a = start.args in
    tried_marking a.sheet.now a.column a.cut a.marks.now start.requires

pub get_leaves_score-sides-requires : goal.get_leaves_score-sides-requires
get_leaves_score-sides-requires c =
    let start = c in
    let a = start.args in
    let marked = c.mark_cut in
    let marks : List ℕ = marked.new.marks in
    tried_scannable a.sheet.now a.column a.cut a.marks.now start.requires marks (marked.ensures.size ∙ start.requires.marked) marked.ensures.marked

pub side_error-requires : goal.side_error-requires
side_error-requires c =
    let start = c in
    let a = start.args in
    let marked = c.mark_cut in
    let marks : List ℕ = marked.new.marks in
    let sides = c.get_leaves_score-sides.ensures ∙ tried_sides a.sheet.now a.column a.cut a.marks.now start.requires a.support marks marked.ensures.marked in
    let few = tried_few a.sheet.now a.column a.cut a.marks.now start.requires a.support in
    omega (arith, few, ap (λ (z : Sides). side_error z.left) sides, start.requires.whole.sound.limited.rows_most)

pub side_error-requires-2 : goal.side_error-requires-2
side_error-requires-2 c =
    let start = c in
    let a = start.args in
    let marked = c.mark_cut in
    let marks : List ℕ = marked.new.marks in
    let sides = c.get_leaves_score-sides.ensures ∙ tried_sides a.sheet.now a.column a.cut a.marks.now start.requires a.support marks marked.ensures.marked in
    let few = tried_few a.sheet.now a.column a.cut a.marks.now start.requires a.support in
    omega (arith, few, ap (λ (z : Sides). side_error z.right) sides, start.requires.whole.sound.limited.rows_most)

pub overflow_add-error : goal.overflow_add-error
overflow_add-error c =
    let start = c in
    let a = start.args in
    let marked = c.mark_cut in
    let marks : List ℕ = marked.new.marks in
    let sides = c.get_leaves_score-sides.ensures ∙ tried_sides a.sheet.now a.column a.cut a.marks.now start.requires a.support marks marked.ensures.marked in
    let few = tried_few a.sheet.now a.column a.cut a.marks.now start.requires a.support in
    record {
      fits =
          omega (
            arith,
            few,
            ap (λ (z : Sides). side_error z.left) sides,
            ap (λ (z : Sides). side_error z.right) sides,
            start.requires.whole.sound.limited.rows_most,
            c.side_error.ensures,
            c.side_error-2.ensures,
          );
    }

pub returns : goal.returns
unfolding tried_tree tree_at errors_at
returns c =
    let start = c in
    let a = start.args in
    let marked = c.mark_cut in
    let marks : List ℕ = marked.new.marks in
    let sides = c.get_leaves_score-sides.ensures ∙ tried_sides a.sheet.now a.column a.cut a.marks.now start.requires a.support marks marked.ensures.marked in
    let left = c.side_error.ensures ∙ ap (λ (z : Sides). side_error z.left) sides in
    let right = c.side_error-2.ensures ∙ ap (λ (z : Sides). side_error z.right) sides in (
      (λ t. record { question = c.root_question-question.ensures t; left = (sides t).left; right = (sides t).right; error = left t + right t }),
      marked.ensures.size,
    )
