-- For a signer. Document 01, "Reasons a call turns back": the number of each reason, once, and what a call that turns back reports. Definitions only.
use Rattle.std.specs.Prelude.{ℕ, Result, Ok, Err}
use Rattle.std.proofs.Math.Option.{Option, none, some}
use Rattle.tree.specs.declared.Answer.{Answer}
use Rattle.tree.specs.declared.Answer.TheVariants.{TurnedBack}
use Rattle.sheet.specs.declared.refusals.Reason.{Reason}
use Rattle.sheet.specs.declared.refusals.Reason.TheVariants.{SizeOutside, LengthWrong, ScratchShort, TermAbove, ValueOutside, LabelHigh, OrderWrong, ValueFalls, CutsWrong, ColumnHigh, LeafHigh, ThresholdEndless, HeadWrong, SheetLarge, RowWrong, BytesLeft}
use Rattle.sheet.specs.declared.refusals.Refusal.{Refusal}

-- SizeOutside: "rows, columns or labels outside limits"
-- LengthWrong: "an input slice of the wrong length"
-- ScratchShort: "scratch too short, or the preparer's order, cuts or counts not of exact length"
-- TermAbove: "support, gap, error or bound above its limit"
-- ValueOutside: "value not finite or too large"
-- LabelHigh: "label code too high"
-- OrderWrong: "order entry not below rows, or a row met before in its column"
-- ValueFalls: "sorted value below its predecessor"
-- CutsWrong: "count or cuts not exactly the value changes"
-- ColumnHigh: "judge: tree column too high"
-- LeafHigh: "judge: leaf label too high"
-- ThresholdEndless: "judge: threshold not finite"
-- HeadWrong: "header short or mismarked"
-- SheetLarge: "more than 2,048 rows or 8,192 cells"
-- RowWrong: "row short or mismarked"
-- BytesLeft: "further bytes"
abbrev pub number_of : Reason → ℕ
number_of SizeOutside = 1
number_of LengthWrong = 2
number_of ScratchShort = 3
number_of TermAbove = 4
number_of ValueOutside = 5
number_of LabelHigh = 6
number_of OrderWrong = 7
number_of ValueFalls = 8
number_of CutsWrong = 9
number_of ColumnHigh = 10
number_of LeafHigh = 11
number_of ThresholdEndless = 12
number_of HeadWrong = 20
number_of SheetLarge = 21
number_of RowWrong = 22
number_of BytesLeft = 23

-- turned back for a reason, at a place
abbrev pub refused : Reason → ℕ → Refusal
refused reason place = record { reason = reason; place = place }

-- the same as a search's answer, by document 01's number
abbrev pub turned_back_for : Refusal → Answer
turned_back_for refusal = TurnedBack (number_of refusal.reason) refusal.place

-- document 01's number and place of what a call answers, if it turns back
abbrev pub reason_of : {V : Type 0} → Result V Refusal → Option (ℕ × ℕ)
reason_of (Ok value) = none
reason_of (Err refusal) = some (number_of refusal.reason, refusal.place)
