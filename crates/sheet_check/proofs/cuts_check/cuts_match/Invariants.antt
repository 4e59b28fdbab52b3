-- `sheet_check::cuts_check::cuts_match` meets its contract. The loop's invariant: the listed places up to the number found are the cuts passed.
use Rattle.sheet.specs.Lent.{sheet_in}
use Rattle.sheet_check.proofs.Matched.{Matched}
use Rattle.sheet_check.proofs.cuts_check.cuts_match.Given as goal

abbrev pub invariant-loop-place : goal.invariant-loop-place
invariant-loop-place l = Matched (sheet_in l.sheet) l.column l.found l.place
