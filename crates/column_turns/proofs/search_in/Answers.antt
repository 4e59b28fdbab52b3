-- `column_turns::search_in` meets its contract. By whether there is a feasible cut.
use mathlib.Core.Path.{refl, ap, ◌∙◌}
use Rattle.std.proofs.Common.{rules}
use native.Mathlib.Omega.{arith}
use Rattle.sheet.specs.Sheet.{Sheet}
use Rattle.sheet.specs.Lent.{sheet_in}
use Rattle.cuts.specs.declared.Run.{Run}
use Rattle.column_turns.proofs.Places.{placed_in}
use Rattle.column_turns.proofs.Loop.{feasible_is, column_none, column_some}
use Rattle.column_turns.proofs.search_in.Goals as goal

pub places_of-requires : goal.places_of-requires
places_of-requires c =
    let start = c in
    let a = start.args in
    placed_in a.sheet.now a.column start.requires.whole start.requires.here

pub returns-then-run : goal.returns-then-run
returns-then-run c =
    let start = c in
    let a = start.args in
    let pre = start.requires in
    let s : Sheet = sheet_in a.sheet.now in
    let run = c.support_feasible_splits-run in
    let f = feasible_is s a.terms a.column pre.whole pre.here _ _ run.result c.places_of.ensures refl run.ensures.1 in
    record {
      standing_is = column_none s a.terms a.column a.standing (omega (arith, ap (λ (z : Run). z.first) f, ap (λ (z : Run). z.end) f, c.if-run.true));
      table_size = refl;
      ring_size = refl;
      marks_size = refl;
    }

pub search_cuts-requires : goal.search_cuts-requires
search_cuts-requires c =
    let start = c in
    let a = start.args in
    let pre = start.requires in
    let s : Sheet = sheet_in a.sheet.now in
    let run = c.support_feasible_splits-run in
    let f = feasible_is s a.terms a.column pre.whole pre.here _ _ run.result c.places_of.ensures refl run.ensures.1 in
    let limited = pre.whole.sound.limited in
    record {
      begun =
          record {
            whole = pre.whole;
            here = pre.here;
            some = omega (arith, ap (λ (z : Run). z.first) f, ap (λ (z : Run). z.end) f, c.if-run.false);
            enough =
                record { some = limited.rows_some; few = limited.rows_most; table_size = pre.table_size; ring_size = pre.ring_size; marks_size = pre.marks_size };
          };
      few = pre.few;
      feasible = f;
    }

pub returns : goal.returns
returns c =
    let start = c in
    let a = start.args in
    let pre = start.requires in
    let s : Sheet = sheet_in a.sheet.now in
    let run = c.support_feasible_splits-run in
    let f = feasible_is s a.terms a.column pre.whole pre.here _ _ run.result c.places_of.ensures refl run.ensures.1 in
    record {
      standing_is = c.search_cuts.ensures.standing_is ∙ column_some s a.terms a.column a.standing (omega (arith, ap (λ (z : Run). z.first) f, ap (λ (z : Run). z.end) f, c.if-run.false));
      table_size = search rules;
      ring_size = search rules;
      marks_size = search rules;
    }
