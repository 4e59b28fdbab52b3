-- `unfolding computes` opens every definition of the search at once, so that a run on numbers computes. Assumes nothing.
use Rattle.basics.specs.Choice.{pick}
use Rattle.basics.specs.Walk.{walk}
use Rattle.cuts.specs.Lookups.{place, first_from, end_of, sought_from}
use Rattle.interval_pruner.specs.Column.{left_error, right_error}
use Rattle.interval_pruner.specs.Pruner.{highest_zero, lowest_zero, zeros_after, held_error, hopeless, past, short, start_after, interval_within, end_above, end_before, shrunk_of, upper_from, lower_near, lower_to, parts_of}
use Rattle.column_search.specs.Search.{zeros_of, part, queued, try_cut, after_shrink, turn_on, turns, column_run}

unfoldable pub computes : Unit {0}
unfolding pick walk place first_from end_of sought_from left_error right_error highest_zero lowest_zero zeros_after held_error hopeless past short start_after interval_within end_above end_before shrunk_of upper_from lower_near lower_to parts_of zeros_of part queued try_cut after_shrink turn_on turns column_run
computes = tt
