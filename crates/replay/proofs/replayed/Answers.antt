-- `replayed` compares as much of its text as was written. Assumes nothing.
use Rattle.listing.proofs.Room.{written_within}
use Rattle.replay.proofs.replayed.Goals as goal

pub slice_bounds-text-end : goal.slice_bounds-text-end
slice_bounds-text-end c =
    let run = c.run-length in
    (written_within _ _ run.new.out run.result run.ensures).0

pub slice_bounds-ne-end : goal.slice_bounds-ne-end
slice_bounds-ne-end c =
    let run = c.run-length in
    (written_within _ _ run.new.out run.result run.ensures).1
