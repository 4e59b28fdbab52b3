-- `listing::put_score` meets its contract: its two parts are stored one after the other.
use Rattle.listing.specs.Listing.{score_of}
use Rattle.digits.proofs.Puts.{joined}
use Rattle.listing.proofs.put_score.Goals as goal

pub returns-clause-stored : goal.returns-clause-stored
unfolding score_of
returns-clause-stored c = joined c.put_field.ensures.stored (rw c.from.ensures at c.put_field-2.ensures.stored)
