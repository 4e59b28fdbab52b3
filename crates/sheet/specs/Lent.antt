-- For a signer. The sheet that lent slices hold. Definitions only.
use Rattle.std.specs.Prelude.{[]}
use Rattle.sheet.specs.declared.lent.Measured.{Measured}
use Rattle.sheet.specs.declared.lent.LentSheet.{LentSheet}
use Rattle.sheet.specs.Sheet.{Sheet}
use Rattle.sheet.specs.Check.{sheet_of}

-- what was measured, with no order, cuts and counts
abbrev pub measured_in : Measured → Sheet
measured_in m = sheet_of m.size m.values.now m.codes.now [] [] []

-- the whole sheet
abbrev pub sheet_in : LentSheet → Sheet
sheet_in s = sheet_of s.measured.size s.measured.values.now s.measured.codes.now s.order.now s.cuts.now s.counts.now
