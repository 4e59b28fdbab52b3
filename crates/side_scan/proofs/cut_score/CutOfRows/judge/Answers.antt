-- `side_scan::cut_score::CutOfRows::judge` meets its contract: at either outcome of the test.
use Rattle.std.proofs.Common.{sym, ◌∙◌}
use Rattle.basics.specs.Choice.{pick}
use Rattle.side_scan.specs.Scored.{verdict_of}
use Rattle.side_scan.proofs.cut_score.CutOfRows.judge.Goals as goal
use Rattle.side_scan.proofs.cut_score.CutOfRows.judge.Goals.{then-taken, else-taken}

pub returns : goal.returns
unfolding verdict_of pick
returns c =
    elim c.if-taken.branch [
      | then-taken w ↦
          let e = sym c.is_taken-taken.ensures ∙ w.if-taken.true in
          rw (c.is_closing.ensures, c.is_taken-taken.ensures, e, c.total-total.ensures, w.next-is)
      | else-taken w ↦
          let e = sym c.is_taken-taken.ensures ∙ w.if-taken.false in
          rw (c.is_closing.ensures, c.is_taken-taken.ensures, e, w.next-is, w.saturating_sub-next.ensures, c.total-total.ensures)
    ]
