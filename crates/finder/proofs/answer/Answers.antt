-- `answer` meets its contract: there is room for every answer's text. Assumes nothing.
use Rattle.std.proofs.Common.{arith}
use Rattle.listing.proofs.Room.{written_within}
use Rattle.rule_finder.proofs.Laws.{text_written}
use Rattle.finder.proofs.answer.Goals as goal

pub returns-clause-within : goal.returns-clause-within
returns-clause-within c =
    let r = c.run in
    written_within _ _ r.new.out r.result r.ensures

pub returns-clause-said : goal.returns-clause-said
returns-clause-said c =
    let r = c.run in
    text_written _ _ r.result r.new.out r.ensures (omega arith)
