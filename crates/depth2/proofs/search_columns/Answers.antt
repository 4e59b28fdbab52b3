use mathlib.Core.Path.{◌≡◌, sym, ap, ◌∙◌, subst}
use Prim.Native.Nat.{◌+◌}
use native.Mathlib.Omega.{arith}
use Rattle.sheet.specs.Sheet.{Sheet}
use Rattle.sheet.specs.Lent.{sheet_in}
use Rattle.depth2.specs.Columns.{BetweenColumns}
use Rattle.column_turns.specs.declared.interval_steps.Standing.{Standing}
use Rattle.column_turns.proofs.Lent.{kept_enough, kept_then, kept_same}
use Rattle.depth2.proofs.Columns.{between_start, between_next, between_stop, between_end}
use Rattle.depth2.proofs.search_columns.Goals as goal

pub loop-column-init : goal.loop-column-init
loop-column-init c =
    record {
      between = between_start (sheet_in c.args.sheet.now) c.args.terms;
      kept = kept_same c.args.sheet.now.measured.size.rows c.args.scratch.now;
    }

pub search_column-standing-requires : goal.search_column-standing-requires
search_column-standing-requires c =
    let loop = c.loop-column in
    record {
      whole = c.requires.0;
      here = c.loop-column-test.true;
      enough = kept_enough c.args.sheet.now.measured.size.rows c.args.scratch.now loop.scratch c.requires.1 loop.invariant.kept;
      few = omega (arith, loop.invariant.between.few, c.loop-column-test.true, c.requires.0.sound.limited.columns_most);
    }

pub returns-then-standing-terms : goal.returns-then-standing-terms
returns-then-standing-terms c =
    let s : Sheet = sheet_in c.args.sheet.now in
    let loop = c.loop-column in
    let call = c.search_column-standing in
    let e = ap (λ (z : Standing). z.error) call.ensures.standing_is in
    record {
      standing_is =
          call.ensures.standing_is
          ∙ between_stop s c.args.terms loop.column loop.standing c.requires.0 c.loop-column-test.true loop.invariant.between
          (omega (arith, e, c.if-standing-terms.true));
      kept = kept_then s.rows c.args.scratch.now loop.scratch _ loop.invariant.kept call.ensures.kept;
    }

pub loop-column-preserved : goal.loop-column-preserved
loop-column-preserved c =
    let s : Sheet = sheet_in c.args.sheet.now in
    let loop = c.loop-column in
    let call = c.search_column-standing in
    let e = ap (λ (z : Standing). z.error) call.ensures.standing_is in
    record {
      between =
          subst (BetweenColumns s c.args.terms (loop.column + 1)) (sym call.ensures.standing_is)
          (between_next s c.args.terms loop.column loop.standing c.requires.0 c.loop-column-test.true loop.invariant.between
          (omega (arith, e, c.if-standing-terms.false)));
      kept = kept_then s.rows c.args.scratch.now loop.scratch _ loop.invariant.kept call.ensures.kept;
    }

pub returns : goal.returns
returns c =
    let s : Sheet = sheet_in c.args.sheet.now in
    let loop = c.loop-column in
    let all : loop.column ≡ s.columns = omega (arith, loop.auto.column-end, c.loop-column-test.false) in
    record {
      standing_is = between_end s c.args.terms loop.column loop.standing all loop.invariant.between;
      kept = loop.invariant.kept;
    }
