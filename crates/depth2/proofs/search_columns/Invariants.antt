-- `depth2::search_columns` meets its contract. The loop's invariant: the standing is that of a progress from which the definition comes to its end.
use Rattle.sheet.specs.Lent.{sheet_in}
use Rattle.column_turns.specs.Lent.{RestKept}
use Rattle.depth2.specs.Columns.{BetweenColumns}
use Rattle.depth2.proofs.search_columns.Given as goal

abbrev pub invariant-loop-column : goal.invariant-loop-column
invariant-loop-column l =
    record {
      between : BetweenColumns (sheet_in l.sheet) l.terms l.column l.standing;
      kept : RestKept l.sheet.measured.size.rows l.initial.scratch l.scratch;
    }
