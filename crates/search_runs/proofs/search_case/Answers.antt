-- `search_case` shows as much of its text as was written. Assumes nothing.
use Rattle.listing.proofs.Room.{written_within}
use Rattle.search_runs.proofs.search_case.Goals as goal

pub slice_bounds-text-end : goal.slice_bounds-text-end
slice_bounds-text-end g c =
    let write = c.write_answer-length in
    (written_within _ _ write.new.out write.result write.ensures).0

pub slice_bounds-write_all-end : goal.slice_bounds-write_all-end
slice_bounds-write_all-end g c =
    let write = c.write_answer-length in
    (written_within _ _ write.new.out write.result write.ensures).1
