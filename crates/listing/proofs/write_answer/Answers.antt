-- `listing::write_answer` meets its contract: there is room for every listing.
use Rattle.std.proofs.Common.{rules}
use Rattle.listing.proofs.Room.{listed}
use Rattle.listing.proofs.write_answer.Goals as goal

pub returns : goal.returns
returns c = listed c.args.answer c.args.out.now _ _ _ c.if-out-lt-LONGEST.false c.put_answer.ensures.stored (search rules)
