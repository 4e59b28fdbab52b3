-- `side_scan::best_counts::commonest_label` meets its contract (`LeafLabel.antt`).
use Rattle.side_scan.proofs.LeafLabel.{countable_none, leaf_is}
use Rattle.side_scan.proofs.best_counts.commonest_label.Goals as goal

pub find_peaks-requires : goal.find_peaks-requires
find_peaks-requires c = countable_none _ _ c.requires.0 c.requires.1

pub returns : goal.returns
returns c = leaf_is _ _ c.find_peaks.result c.find_peaks.ensures
