use mathlib.Core.Path.{◌≡◌, ◌∙◌, subst}
use Prim.Native.Nat.{ℕ, ◌-◌}
use native.Mathlib.Omega.{arith}
use Rattle.sheet.specs.Sheet.{Sheet}
use Rattle.sheet.specs.Check.{falls}
use Rattle.sheet.specs.Lent.{sheet_in}
use Rattle.sheet.proofs.Search.{Clean, clean_none, clean_more, clean_found, clean_missed}
use Rattle.sheet.proofs.Values.{value_ready, as_value, falls_yes, falls_no, falls_first}
use Rattle.sheet_check.proofs.fall_check.first_fall_place.Goals as goal

pub loop-here-init : goal.loop-here-init
loop-here-init c = clean_more clean_none (falls_first (sheet_in c.args.sheet.now) c.args.column)

pub value_at-requires : goal.value_at-requires
value_at-requires c = value_ready c.requires c.loop-here.here (omega arith)

pub value_at-requires-in-loop-here : goal.value_at-requires-in-loop-here
value_at-requires-in-loop-here c = value_ready c.requires (c.loop-here.here - 1) (omega arith)

pub returns-then-value_at : goal.returns-then-value_at
returns-then-value_at c =
    let s : Sheet = sheet_in c.args.sheet.now in
    let i : ℕ = c.loop-here.here in
    clean_found c.loop-here.invariant c.loop-here-test.true
    (falls_yes s c.args.column i _ _ (c.value_at.ensures ∙ as_value s c.args.column i) (c.value_at-in-loop-here.ensures ∙ as_value s c.args.column (i - 1))
    c.loop-here.auto.here c.if-value_at.true)

pub loop-here-preserved : goal.loop-here-preserved
loop-here-preserved c =
    let s : Sheet = sheet_in c.args.sheet.now in
    let i : ℕ = c.loop-here.here in
    clean_more c.loop-here.invariant
    (falls_no s c.args.column i _ _ (c.value_at.ensures ∙ as_value s c.args.column i) (c.value_at-in-loop-here.ensures ∙ as_value s c.args.column (i - 1))
    c.if-value_at.false)

pub returns : goal.returns
returns c =
    let some = c.requires.shaped.limited.rows_some in
    let all : c.loop-here.here ≡ c.args.sheet.now.measured.size.rows = omega (arith, c.loop-here-test.false, c.loop-here.auto.here-end) in
    clean_missed (subst (λ (n : ℕ). Clean (falls (sheet_in c.args.sheet.now) c.args.column) n) all c.loop-here.invariant)
