-- `sheet_check::cuts_check::first_bad_cuts` meets its contract. The loop's invariant: no column passed is bad.
use Rattle.sheet.specs.Check.{bad_cuts}
use Rattle.sheet.specs.Lent.{sheet_in}
use Rattle.sheet.proofs.Search.{Clean}
use Rattle.sheet_check.proofs.cuts_check.first_bad_cuts.Given as goal

abbrev pub invariant-loop-column : goal.invariant-loop-column
invariant-loop-column l = Clean (bad_cuts (sheet_in l.sheet)) l.column
