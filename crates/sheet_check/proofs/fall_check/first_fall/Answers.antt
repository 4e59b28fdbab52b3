use mathlib.Core.Path.{◌≡◌, sym, ◌∙◌, subst}
use Prim.Native.Nat.{ℕ, ◌*◌}
use mathlib.Core.Bool.{Bool}
use native.Mathlib.Omega.{arith}
use Rattle.basics.proofs.Walk.{place_some}
use Rattle.sheet.specs.Check.{falls, at_index}
use Rattle.sheet.specs.Lent.{sheet_in}
use Rattle.sheet.proofs.Search.{Clean, clean_missed}
use Rattle.sheet.proofs.Index.{room, column_none, column_found, column_passed}
use Rattle.sheet_check.proofs.fall_check.first_fall.Goals as goal

pub loop-column-init : goal.loop-column-init
loop-column-init c = column_none (falls (sheet_in c.args.sheet.now)) c.args.sheet.now.measured.size.rows

pub first_fall_place-requires : goal.first_fall_place-requires
first_fall_place-requires c = c.requires.column c.loop-column.column c.loop-column-test.true

pub overflow_add-result : goal.overflow_add-result
overflow_add-result c =
    let inside = place_some _ _ c.in-Some.fall (sym c.first_fall_place.ensures ∙ c.in-Some.is) in
    let r = room c.requires.shaped c.loop-column-test.true _ c.requires.shaped.lengths.order_all in
    omega (arith, inside.0, inside.1, r.inside, r.small)

pub returns-in-Some : goal.returns-in-Some
returns-in-Some c =
    column_found (falls (sheet_in c.args.sheet.now)) c.requires.shaped.limited.rows_some c.loop-column.column c.first_fall_place.result
    c.first_fall_place.ensures c.loop-column.invariant c.args.sheet.now.measured.size.columns c.in-Some.fall c.loop-column-test.true c.in-Some.is

pub loop-column-preserved : goal.loop-column-preserved
loop-column-preserved c =
    column_passed (falls (sheet_in c.args.sheet.now)) c.requires.shaped.limited.rows_some c.loop-column.column c.first_fall_place.result
    c.first_fall_place.ensures c.loop-column.invariant c.in_default.is

pub returns : goal.returns
returns c =
    let rows : ℕ = c.args.sheet.now.measured.size.rows in
    let bad : ℕ → Bool = at_index (falls (sheet_in c.args.sheet.now)) rows in
    let all : c.loop-column.column ≡ c.args.sheet.now.measured.size.columns = omega (arith, c.loop-column-test.false, c.loop-column.auto.column-end) in
    clean_missed (subst (λ (n : ℕ). Clean bad (n * rows)) all c.loop-column.invariant)
