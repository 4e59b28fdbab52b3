-- Table T holds: every entry computes, from the definitions, in one proof. Assumes nothing.
use mathlib.Core.Path.{refl}
use lib.Ieee.{of_bits, to_bits, lt, le, eq, add, div}
use Rattle.basics.specs.Choice.{pick}
use Rattle.basics.specs.Walk.{walk}
use Rattle.threshold.specs.Threshold.{midpoint_of, threshold_of, goes_left, within}
use Rattle.sheet.specs.Sheet.{value_of, label_of, row_at, value_at, is_cut, count_of, place_of, places_of}
use Rattle.sheet.specs.Check.{grid_holds, size_holds, lengths_hold, scratch_holds, terms_hold, bad_value, bad_label, met, bad_order, falls, cuts_of, same, bad_cuts, reason, content_of, check_of}
use Rattle.sheet.specs.Rows.{sent_left}
use Rattle.cuts.specs.Lookups.{place, first_from, end_of, sought_from}
use Rattle.cuts.specs.Feasible.{feasible_of}
use Rattle.column_search.proofs.Computes as column
use Rattle.leaves_score.specs.Scan as scan
use Rattle.leaves_score.specs.Root.{preceding_place, cut_threshold, sides_at, errors_at}
use Rattle.column_turns.specs.Try.{tree_at}
use Rattle.depth2.specs.Search.{cut_after, with_column, progress_after_column, search_columns, searched, answer_holding, answer_after, search_of}
use Rattle.depth2.specs.Table.{table_t, TableHolds}

pub table_t_lem : TableHolds
unfolding of_bits to_bits lt le eq add div pick walk midpoint_of threshold_of goes_left within value_of label_of row_at value_at is_cut count_of place_of places_of grid_holds size_holds lengths_hold scratch_holds terms_hold bad_value bad_label met bad_order falls cuts_of same bad_cuts reason content_of check_of place first_from end_of sought_from feasible_of column.computes scan.scan_computes preceding_place cut_threshold sent_left sides_at errors_at tree_at cut_after with_column progress_after_column search_columns searched answer_holding answer_after search_of table_t
table_t_lem = (refl, (refl, (refl, (refl, (refl, (refl, (refl, (refl, (refl, (refl, (refl, tt)))))))))))
