-- Document 01's sheets, from bytes to text: every entry computes from the definitions, in one proof. Assumes nothing.
use mathlib.Core.Path.{◌≡◌, refl}
use mathlib.Core.List.{map}
use lib.Ieee.{of_bits, to_bits, lt, le, eq, add, div}
use Rattle.basics.specs.Choice.{pick}
use Rattle.basics.specs.Walk.{walk}
use Rattle.threshold.specs.Threshold.{midpoint_of, threshold_of, goes_left, within}
use Rattle.sheet.specs.Sheet.{value_of, label_of, row_at, value_at, is_cut, count_of, place_of, places_of}
use Rattle.sheet.specs.Check.{grid_holds, size_holds, lengths_hold, scratch_holds, terms_hold, bad_value, bad_label, met, bad_order, falls, cuts_of, same, bad_cuts, reason, content_of, check_of}
use Rattle.sheet.specs.Rows.{sent_left}
use Rattle.cuts.specs.Lookups.{place, first_from, end_of, sought_from}
use Rattle.cuts.specs.Feasible.{feasible_of}
use Rattle.column_search.proofs.Computes as column
use Rattle.leaves_score.specs.Scan as scan
use Rattle.leaves_score.specs.Root.{preceding_place, cut_threshold, sides_at, errors_at}
use Rattle.column_turns.specs.Try.{tree_at}
use Rattle.depth2.specs.Search.{cut_after, with_column, progress_after_column, search_columns, searched, answer_holding, answer_after, search_of}
use Rattle.row_sort.specs.Sorting.{rows_from, insert, sorted}
use Rattle.prepare.specs.Lists as column_lists
use Rattle.prepare.specs.Prepared as prepared
use Rattle.sheet_bytes.specs.Bytes.{number_at, marked}
use Rattle.sheet_bytes.specs.Read as read
use Rattle.digits.specs.Digits as digits
use Rattle.listing.specs.Listing as listing
use Rattle.listing.specs.Table.{entry1, entry2, entry3, entry4}
use Rattle.rule_finder.specs.Run.{answer_to, run_of}
use Rattle.rule_finder.specs.Table.{RunEntry, table_p}

pub table_p_lem : map (λ (e : RunEntry). listing.listing_of (run_of e.bytes)) table_p ≡ map (λ (e : RunEntry). e.text) table_p
unfolding of_bits to_bits lt le eq add div pick walk midpoint_of threshold_of goes_left within value_of label_of row_at value_at is_cut count_of place_of places_of grid_holds size_holds lengths_hold scratch_holds terms_hold bad_value bad_label met bad_order falls cuts_of same bad_cuts reason content_of check_of place first_from end_of sought_from feasible_of column.computes scan.scan_computes preceding_place cut_threshold sent_left sides_at errors_at tree_at cut_after with_column progress_after_column search_columns searched answer_holding answer_after search_of rows_from insert sorted prepared.column_values column_lists.precedes column_lists.rows_in_order column_lists.row_is_cut column_lists.cuts_along column_lists.cut_places column_lists.cut_count column_lists.padded column_lists.cut_slots prepared.columns_joined prepared.order_list prepared.cut_list prepared.count_list number_at marked read.head_of read.row_start read.code_of read.cell_at read.bits_of read.value_read read.values_of read.codes_of read.head_bad read.size_bad read.too_large read.row_bad read.further read.terms_bad read.value_bad read.code_bad read.first_bad read.from_terms read.read_of digits.digit_of digits.digits_in digits.decimal_of digits.hex_of listing.field listing.spot_of listing.question_of listing.score_of listing.line_of listing.leaf_of listing.split_of listing.side_line listing.found_of listing.kept_of listing.refused_of listing.rule_lines listing.listing_of entry1 entry2 entry3 entry4 answer_to run_of table_p
table_p_lem = refl
