-- The walk of the test that the calls answer stops where the loop does.
use mathlib.Core.Path.{◌≡◌, sym, ap, ◌∙◌}
use native.Mathlib.Omega.{arith}
use Rattle.std.specs.Prelude.{Some}
use Rattle.basics.specs.Walk.{walk}
use Rattle.basics.proofs.Walk.{place_found, place_missed}
use Rattle.sheet.proofs.Search.{truth, untruth, clean_more, clean_stop, clean_all}
use Rattle.sheet_bytes.proofs.first_bad.Goals as goal

pub returns-then-bad : goal.returns-then-bad
returns-then-bad g c test said =
    let n = c.args.count in
    let e : c.loop-place.place ≡ walk test n 0 = clean_stop (c.loop-place.invariant test said) c.loop-place-test.true (truth (sym (said _ _ c.loop-place-test.true c.bad.ensures) ∙ c.if-bad.true)) in
    ap Some e ∙ sym (place_found n (walk test n 0) (omega (arith, c.loop-place-test.true)))

pub loop-place-preserved : goal.loop-place-preserved
loop-place-preserved g c test said =
    clean_more (c.loop-place.invariant test said) (untruth (sym (said _ _ c.loop-place-test.true c.bad.ensures) ∙ c.if-bad.false))

pub returns : goal.returns
returns g c test said =
    let n = c.args.count in
    let e : c.loop-place.place ≡ walk test n 0 = clean_all (c.loop-place.invariant test said) (omega arith) in
    sym (place_missed n (walk test n 0) (omega (arith, c.loop-place-test.false)))
