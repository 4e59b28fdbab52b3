-- `side_scan::SideScan::begin` meets its contract: the leaf's count is the callee's.
use lib.Ieee.{of_bits}
use Rattle.side_scan.specs.Counts.{peak_of}
use Rattle.side_scan.proofs.SideScan.begin.Goals as goal

pub returns : goal.returns
unfolding peak_of of_bits
returns c = rw c.commonest_label-commonest.ensures
