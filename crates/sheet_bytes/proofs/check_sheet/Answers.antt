-- Once reasons 1 and 21 are ruled out the sheet is small.
use Rattle.sheet_bytes.proofs.Stages.{small}
use Rattle.sheet_bytes.proofs.check_sheet.Goals as goal

pub invariant_of-read : goal.invariant_of-read
invariant_of-read c = record { small = small c.head_of-head.result c.size_holds.ensures c.if-not-size_holds.false c.too_large.ensures c.if-too_large.false }
