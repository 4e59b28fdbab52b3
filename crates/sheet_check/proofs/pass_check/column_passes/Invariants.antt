-- `sheet_check::pass_check::column_passes` meets its contract. The loop's invariant: what the pass has seen.
use mathlib.Core.Path.{◌≡◌}
use lib.ListN.{length}
use Rattle.sheet.specs.Laws.{Doubles}
use Rattle.sheet.specs.Lent.{sheet_in}
use Rattle.sheet_check.proofs.Seen.{Seen}
use Rattle.sheet_check.proofs.pass_check.column_passes.Given as goal

abbrev pub invariant-loop-place : goal.invariant-loop-place
invariant-loop-place l =
    record {
      size : length l.marks ≡ length l.initial.marks;
      doubles : Doubles (sheet_in l.sheet);
      seen : Seen (sheet_in l.sheet) l.column l.found l.place l.mark l.last l.marks;
    }
