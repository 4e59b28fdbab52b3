-- `listing::put_rule` meets its contract: its parts are stored one after the other.
use Rattle.listing.specs.Listing.{rule_lines}
use Rattle.digits.proofs.Puts.{joined}
use Rattle.listing.proofs.put_rule.Goals as goal

pub returns-clause-stored : goal.returns-clause-stored
unfolding rule_lines
returns-clause-stored c =
    joined (joined c.put_found.ensures.stored c.put_side.ensures.stored) c.put_side-2.ensures.stored
