-- The preparer does not turn back, so the search is that of the prepared sheet.
use mathlib.Core.Path.{◌∙◌}
use lib.ListN.{length}
use Rattle.rule_finder.proofs.Calling.{search_prepared}
use Rattle.rule_finder.proofs.sheet_search.prepare_and_search.Goals as goal

pub returns : goal.returns
returns c =
    let a = c.args in
    c.certified_search.ensures.searched.answers
    ∙ search_prepared a.measured.now a.terms a.order.now a.cuts.now a.counts.now c.prepare.result _ _ _ (length a.scratch.now) c.requires c.prepare.ensures
