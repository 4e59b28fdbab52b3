-- `listing::put_question` meets its contract: its two parts are stored one after the other.
use Rattle.listing.specs.Listing.{question_of}
use Rattle.digits.proofs.Puts.{joined}
use Rattle.listing.proofs.put_question.Goals as goal

pub returns-clause-stored : goal.returns-clause-stored
unfolding question_of
returns-clause-stored c = joined c.put_field.ensures.stored c.put_threshold.ensures.stored
