-- `sheet_check::pass_check::ends_hold` meets its contract.
use mathlib.Core.Path.{◌≡◌, sym, ap, ap₂, ◌∙◌}
use Prim.Native.Nat.{ℕ, ◌+◌, ◌-◌, ◌*◌}
use mathlib.Core.Bool.{Bool, true, false, ◌&&◌}
use lib.ListN.{get_or}
use lib.Ieee.{Float, nan}
use native.Mathlib.Omega.{arith}
use Rattle.threshold.specs.Threshold.{within}
use Rattle.sheet.specs.Sheet.{Sheet}
use Rattle.sheet.specs.Lent.{sheet_in}
use Rattle.sheet.proofs.Values.{value_ready, as_value}
use Rattle.sheet_check.specs.Steps.{ends_hold}
use Rattle.sheet_check.proofs.pass_check.ends_hold.Goals as goal

pub value_at-first-requires : goal.value_at-first-requires
value_at-first-requires c = value_ready c.requires 0 c.requires.shaped.limited.rows_some

pub value_at-last-requires : goal.value_at-last-requires
value_at-last-requires c =
    value_ready c.requires (c.args.sheet.now.measured.size.rows - 1) (omega (arith, c.requires.shaped.limited.rows_some))

-- the two values in range, as the definitions name them
module _ (s : Sheet) (c : ℕ) {first last : Float} (at_first : first ≡ get_or s.values (c * s.rows + get_or s.order (c * s.rows + 0) 0) nan)
    (at_last : last ≡ get_or s.values (c * s.rows + get_or s.order (c * s.rows + (s.rows - 1)) 0) nan) where
  both_ends : (within first && within last) ≡ ends_hold s c
  both_ends = ap₂ (λ (x y : Float). within x && within y) (at_first ∙ as_value s c 0) (at_last ∙ as_value s c (s.rows - 1))

pub returns-then-in_range : goal.returns-then-in_range
returns-then-in_range c =
    let first : within c.value_at-first.result ≡ true = sym c.in_range.ensures ∙ c.if-in_range.true in
    c.in_range-then-in_range.ensures
    ∙ sym (ap (λ (t : Bool). t && within c.value_at-last.result) first)
    ∙ both_ends (sheet_in c.args.sheet.now) c.args.column c.value_at-first.ensures c.value_at-last.ensures

pub returns-else-in_range : goal.returns-else-in_range
returns-else-in_range c =
    let first : within c.value_at-first.result ≡ false = sym c.in_range.ensures ∙ c.if-in_range.false in
    c.if-in_range.false
    ∙ sym (ap (λ (t : Bool). t && within c.value_at-last.result) first)
    ∙ both_ends (sheet_in c.args.sheet.now) c.args.column c.value_at-first.ensures c.value_at-last.ensures
