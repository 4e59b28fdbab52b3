-- A refusal is told as it is, and what was read is searched.
use mathlib.Core.Path.{◌≡◌, refl, sym, ◌∙◌}
use native.Mathlib.Omega.{arith}
use lib.Seq.{length-take-le}
use Rattle.std.specs.Prelude.{Err}
use Rattle.sheet_bytes.specs.Read.{read_of}
use Rattle.rule_finder.proofs.Laws.{refused}
use Rattle.rule_finder.proofs.Filled.{answer_read, filled, product_fits, prepared, search_read}
use Rattle.rule_finder.proofs.answer_to.Goals as goal

pub overflow_mul-cells : goal.overflow_mul-cells
overflow_mul-cells c =
    let w = filled c.read_sheet.ensures (answer_read c.args.bytes.now) c.in-Ok.is in
    record { fits = product_fits _ _ (omega (arith, w.small.columns_most, w.labels_most)) (omega (arith, w.small.rows_most, w.small.columns_most)) }

pub slice_bounds-values-end : goal.slice_bounds-values-end
slice_bounds-values-end c = (filled c.read_sheet.ensures (answer_read c.args.bytes.now) c.in-Ok.is).values_long

pub slice_bounds-measured-end : goal.slice_bounds-measured-end
slice_bounds-measured-end c =
    sym (length-take-le _ c.read_sheet.new.values (filled c.read_sheet.ensures (answer_read c.args.bytes.now) c.in-Ok.is).values_long)

pub slice_bounds-codes-end : goal.slice_bounds-codes-end
slice_bounds-codes-end c = (filled c.read_sheet.ensures (answer_read c.args.bytes.now) c.in-Ok.is).codes_long

pub slice_bounds-measured-end-in-Ok : goal.slice_bounds-measured-end-in-Ok
slice_bounds-measured-end-in-Ok c =
    sym (length-take-le _ c.read_sheet.new.codes (filled c.read_sheet.ensures (answer_read c.args.bytes.now) c.in-Ok.is).codes_long)

pub find-requires : goal.find-requires
find-requires c =
    let w = filled c.read_sheet.ensures (answer_read c.args.bytes.now) c.in-Ok.is in
    prepared c.args.bytes.now c.in-Ok.head w.read _ refl w.values_taken

pub returns-in-Ok : goal.returns-in-Ok
returns-in-Ok c =
    let w = filled c.read_sheet.ensures (answer_read c.args.bytes.now) c.in-Ok.is in
    c.find.ensures ∙ search_read c.args.bytes.now c.in-Ok.head w.read _ _ w.values_taken w.codes_taken

pub returns-in-Err : goal.returns-in-Err
returns-in-Err c =
    let bytes = c.args.bytes.now in
    let e : read_of bytes ≡ Err c.in-Err.refusal = sym (answer_read bytes) ∙ sym c.read_sheet.ensures.answers ∙ c.in-Err.is in
    cc (refused bytes c.in-Err.refusal e)
