-- The room is just that of the sheet.
use mathlib.Core.Path.{sym}
use Rattle.rule_finder.proofs.Room.{cells_room, columns_room, room}
use Rattle.rule_finder.proofs.sheet_search.find.Goals as goal

pub slice_bounds-prepare_and_search-end : goal.slice_bounds-prepare_and_search-end
slice_bounds-prepare_and_search-end c = let start = c in sym (cells_room start.args.measured.now start.requires)

pub slice_bounds-prepare_and_search-end-2 : goal.slice_bounds-prepare_and_search-end-2
slice_bounds-prepare_and_search-end-2 c = let start = c in sym (cells_room start.args.measured.now start.requires)

pub slice_bounds-prepare_and_search-end-3 : goal.slice_bounds-prepare_and_search-end-3
slice_bounds-prepare_and_search-end-3 c = let start = c in sym (columns_room start.args.measured.now start.requires)

pub prepare_and_search-requires : goal.prepare_and_search-requires
prepare_and_search-requires c = let start = c in room start.args.measured.now start.requires
