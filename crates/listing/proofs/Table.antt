-- Document 01's listings, computed: one list, one proof. Assumes nothing.
use mathlib.Core.Path.{◌≡◌, refl}
use mathlib.Core.List.{map}
use lib.Ieee.{of_bits, to_bits}
use Rattle.basics.specs.Choice.{pick}
use Rattle.basics.specs.Walk.{walk}
use Rattle.digits.specs.Digits.{digit_of, digits_in, decimal_of, hex_of}
use Rattle.listing.specs.Listing.{field, spot_of, question_of, score_of, line_of, leaf_of, split_of, side_line, found_of, kept_of, refused_of, rule_lines, listing_of}
use Rattle.listing.specs.Table.{ListingEntry, entry1, entry2, entry3, entry4, table_listed}

pub table_t_lem : map (λ (e : ListingEntry). listing_of e.answer) table_listed ≡ map (λ (e : ListingEntry). e.text) table_listed
unfolding table_listed entry1 entry2 entry3 entry4 listing_of rule_lines refused_of kept_of found_of side_line split_of leaf_of line_of score_of question_of spot_of field hex_of decimal_of digits_in digit_of pick walk of_bits to_bits
table_t_lem = refl
