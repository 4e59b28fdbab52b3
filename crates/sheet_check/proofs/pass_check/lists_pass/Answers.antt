use mathlib.Core.Path.{◌≡◌, refl, sym, ◌∙◌}
use Prim.Native.Nat.{ℕ}
use mathlib.Core.Bool.{false}
use Rattle.std.specs.Prelude.{Option, Some, None, is_some}
use native.Mathlib.Omega.{arith}
use borrow.Author.Count.{below_more}
use Rattle.sheet.specs.Lent.{sheet_in}
use Rattle.sheet.proofs.Search.{truth}
use Rattle.sheet_check.proofs.Whole.{row_below, labels_clean, accepted}
use Rattle.sheet_check.proofs.pass_check.lists_pass.Goals as goal

-- where it is not that there is one, there is none
none_of : (o : Option ℕ) → is_some o ≡ false → o ≡ None
none_of None e = refl
none_of (Some p) e = absurd cc

pub ends_hold-requires : goal.ends_hold-requires
ends_hold-requires c =
    record {
      shaped = c.requires.0;
      column_in = c.loop-column-test.true;
      in_rows = row_below (sheet_in c.args.sheet.now) c.loop-column.column (c.column_passes.ensures (truth c.if-not-column_passes.false)).0;
    }

pub loop-column-preserved : goal.loop-column-preserved
loop-column-preserved c =
    let p = c.column_passes.ensures (truth c.if-not-column_passes.false) in
    record {
      size = omega (arith, c.loop-column.invariant.size);
      marked = p.1;
      passed = below_more _ c.loop-column.column c.loop-column.invariant.passed (p.0, truth (sym c.ends_hold.ensures ∙ c.if-not-ends_hold.false));
    }

pub returns : goal.returns
returns c t =
    let shaped = c.requires.0 in
    let no_label = none_of _ (sym c.is_some.ensures ∙ c.if-is_some.false) in
    accepted (sheet_in c.args.sheet.now) shaped.limited.rows_some
    (labels_clean _ _ _ c.first_bad_label.result shaped.lengths.codes_all c.first_bad_label.ensures no_label)
    (λ i l. c.loop-column.invariant.passed i (omega (arith, c.loop-column-test.false)))
