-- `listing::put_split` meets its contract: its parts are stored one after the other.
use Rattle.listing.specs.Listing.{split_of}
use Rattle.digits.proofs.Puts.{joined}
use Rattle.listing.proofs.put_split.Goals as goal

pub returns-clause-stored : goal.returns-clause-stored
unfolding split_of
returns-clause-stored c =
    joined (joined (joined c.put_question.ensures.stored c.put_score.ensures.stored) c.put_score-2.ensures.stored) c.put_bytes.ensures.text
