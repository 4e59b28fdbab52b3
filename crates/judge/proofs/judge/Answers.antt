-- Once reason 2 is ruled out the slices are as long as the definitions say.
use native.Mathlib.Omega.{arith}
use Rattle.std.proofs.lemmas.Grind.{common_steps}
use Rattle.basics.specs.Choice.{pick}
use Rattle.judge.specs.Judge.{back, back_first, judge_of}
use Rattle.judge.proofs.Reasons.{small, shaped}
use Rattle.judge.proofs.judge.Goals as goal

pub lengths_hold-requires : goal.lengths_hold-requires
lengths_hold-requires c = small c.args.measured.now c.size_holds.ensures c.if-not-size_holds.false

pub returns-in-Some : goal.returns-in-Some
unfolding judge_of back_first back pick
returns-in-Some c =
    let l = shaped c.args.measured.now c.size_holds.ensures c.if-not-size_holds.false c.lengths_hold.ensures c.if-not-lengths_hold.false in
    grind (arith, common_steps)

pub returns-in-Some-first_bad_label : goal.returns-in-Some-first_bad_label
unfolding judge_of back_first back pick
returns-in-Some-first_bad_label c =
    let l = shaped c.args.measured.now c.size_holds.ensures c.if-not-size_holds.false c.lengths_hold.ensures c.if-not-lengths_hold.false in
    grind (arith, common_steps)

pub judge_tree-requires : goal.judge_tree-requires
judge_tree-requires c =
    shaped c.args.measured.now c.size_holds.ensures c.if-not-size_holds.false c.lengths_hold.ensures c.if-not-lengths_hold.false

pub returns : goal.returns
unfolding judge_of back_first back pick
returns c =
    let l = shaped c.args.measured.now c.size_holds.ensures c.if-not-size_holds.false c.lengths_hold.ensures c.if-not-lengths_hold.false in
    grind (arith, common_steps)
