-- An accepted sheet is stored from the front.
use mathlib.Core.Path.{sym, ◌∙◌}
use native.Mathlib.Omega.{arith}
use Rattle.std.proofs.lemmas.Grind.{common_steps}
use Rattle.basics.specs.Choice.{pick}
use Rattle.sheet_bytes.specs.Read.{head_cells, value_read, code_of, values_of, codes_of, read_answer, values_in, codes_in}
use Rattle.sheet_bytes.proofs.Stores.{in_front}
use Rattle.sheet_bytes.proofs.Stages.{accepted, small_accepted, valued_accepted}
use Rattle.sheet_bytes.proofs.read_sheet.Goals as goal

pub invariant_of-read : goal.invariant_of-read
invariant_of-read c = record { small = small_accepted c.args.bytes.now c.in_ok-head.head (accepted c.args.bytes.now c.in_ok-head.head (sym c.check_sheet.ensures ∙ c.in_ok-head.was)) }

pub fill_values-requires : goal.fill_values-requires
fill_values-requires c =
    let bytes = c.args.bytes.now in
    let h = c.in_ok-head.head in
    let good = accepted bytes h (sym c.check_sheet.ensures ∙ c.in_ok-head.was) in
    (omega (arith, (small_accepted bytes h good).cells_most), valued_accepted bytes h good)

pub fill_codes-requires : goal.fill_codes-requires
fill_codes-requires c =
    let s = small_accepted c.args.bytes.now c.in_ok-head.head (accepted c.args.bytes.now c.in_ok-head.head (sym c.check_sheet.ensures ∙ c.in_ok-head.was)) in
    omega (arith, s.rows_most)

pub returns : goal.returns
unfolding read_answer values_in codes_in values_of codes_of pick
returns c =
    let a = c.args in
    let h = c.in_ok-head.head in
    let bytes = a.bytes.now in
    let s = small_accepted bytes h (accepted bytes h (sym c.check_sheet.ensures ∙ c.in_ok-head.was)) in
    record {
      answers = grind (arith, common_steps);
      stored = c.fill_values.ensures ∙ in_front (value_read bytes h) (head_cells h) a.values.now (omega (arith, s.cells_most));
      coded = c.fill_codes.ensures ∙ in_front (code_of bytes h) h.size.rows a.codes.now (omega (arith, s.rows_most));
    }
