-- `sheet_check::check_lists` meets its contract: lists that pass give no reason.
use mathlib.Core.Path.{sym}
use Rattle.sheet.proofs.Search.{truth}
use Rattle.sheet_check.proofs.check_lists.Goals as goal

pub returns-then-lists_pass : goal.returns-then-lists_pass
returns-then-lists_pass c = sym (c.lists_pass.ensures (truth c.if-lists_pass.true))
