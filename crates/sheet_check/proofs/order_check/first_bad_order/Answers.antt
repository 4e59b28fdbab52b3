use mathlib.Core.Path.{◌≡◌, sym, ◌∙◌, subst}
use Prim.Native.Nat.{ℕ, ◌*◌}
use mathlib.Core.Bool.{Bool}
use native.Mathlib.Omega.{arith}
use Rattle.basics.proofs.Walk.{place_some}
use Rattle.sheet.specs.Check.{bad_order, at_index}
use Rattle.sheet.specs.Lent.{sheet_in}
use Rattle.sheet.proofs.Search.{Clean, clean_missed}
use Rattle.sheet.proofs.Index.{room, column_found, column_passed}
use Rattle.sheet_check.proofs.order_check.first_bad_order.Goals as goal

pub overflow_add-result : goal.overflow_add-result
overflow_add-result c =
    let shaped = c.requires.0 in
    let inside = place_some _ _ c.in-Some.place (sym c.first_bad_place.ensures.place ∙ c.in-Some.is) in
    let r = room shaped c.loop-column-test.true _ shaped.lengths.order_all in
    omega (arith, inside.0, inside.1, r.inside, r.small)

pub returns-in-Some : goal.returns-in-Some
returns-in-Some c =
    column_found (bad_order (sheet_in c.args.sheet.now)) c.requires.0.limited.rows_some c.loop-column.column c.first_bad_place.result
    c.first_bad_place.ensures.place c.loop-column.invariant.clean c.args.sheet.now.measured.size.columns c.in-Some.place c.loop-column-test.true
    c.in-Some.is

pub loop-column-preserved : goal.loop-column-preserved
loop-column-preserved c =
    record {
      size = omega (arith, c.loop-column.invariant.size);
      marked = c.first_bad_place.ensures.marked;
      clean =
          column_passed (bad_order (sheet_in c.args.sheet.now)) c.requires.0.limited.rows_some c.loop-column.column c.first_bad_place.result
          c.first_bad_place.ensures.place c.loop-column.invariant.clean c.in_default.is;
    }

pub returns : goal.returns
returns c =
    let rows : ℕ = c.args.sheet.now.measured.size.rows in
    let bad : ℕ → Bool = at_index (bad_order (sheet_in c.args.sheet.now)) rows in
    let all : c.loop-column.column ≡ c.args.sheet.now.measured.size.columns = omega (arith, c.loop-column-test.false, c.loop-column.auto.column-end) in
    clean_missed (subst (λ (n : ℕ). Clean bad (n * rows)) all c.loop-column.invariant.clean)
