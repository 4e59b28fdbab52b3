-- `leaves_score::column_scan::take_row` meets its contract: the row of an open side is only counted, which `advance` would do too.
use mathlib.Core.Path.{sym, ◌∙◌}
use Rattle.side_scan.proofs.Steps.{counts}
use Rattle.leaves_score.proofs.column_scan.take_row.Goals as goal

pub returns-then-is_only_counting : goal.returns-then-is_only_counting
returns-then-is_only_counting c =
    c.count.ensures ∙ counts _ c.args.column _ _ c.requires.open (sym c.is_only_counting.ensures ∙ c.if-is_only_counting.true)
