-- `listing::put_field` meets its contract: the word is stored, and then the number.
use Rattle.listing.specs.Listing.{field}
use Rattle.digits.proofs.Puts.{joined}
use Rattle.listing.proofs.put_field.Goals as goal

pub returns-clause-stored : goal.returns-clause-stored
unfolding field
returns-clause-stored c = joined c.put_bytes.ensures.text c.put_decimal.ensures.text.0
