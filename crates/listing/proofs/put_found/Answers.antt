-- `listing::put_found` meets its contract: its parts are stored one after the other.
use Rattle.listing.specs.Listing.{found_of}
use Rattle.digits.proofs.Puts.{joined}
use Rattle.listing.proofs.put_found.Goals as goal

pub returns-clause-stored : goal.returns-clause-stored
unfolding found_of
returns-clause-stored c =
    let scored = rw c.from.ensures at c.put_field.ensures.stored in
    let counted = rw c.from-2.ensures at c.put_field-2.ensures.stored in
    joined (joined (joined scored c.put_question.ensures.stored) counted) c.put_bytes.ensures.text
