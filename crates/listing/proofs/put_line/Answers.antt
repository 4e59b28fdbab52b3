-- `listing::put_line` meets its contract: its parts are stored one after the other.
use Rattle.listing.specs.Listing.{line_of}
use Rattle.digits.proofs.Puts.{joined}
use Rattle.listing.proofs.put_line.Goals as goal

pub returns-clause-stored : goal.returns-clause-stored
unfolding line_of
returns-clause-stored c = joined (joined c.put_field.ensures.stored c.put_field-2.ensures.stored) c.put_bytes.ensures.text
