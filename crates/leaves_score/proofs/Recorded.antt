-- The recorded behaviour at an unsupported pure remainder, computed from the definitions. Assumes nothing.
use mathlib.Core.Path.{refl}
use lib.Ieee.{eq, lt, add, div, sum, round, units, odd, span, climb, size}
use Rattle.threshold.specs.Threshold.{midpoint_of, threshold_of}
use Rattle.sheet.specs.Sheet.{value_of, label_of, row_at}
use Rattle.leaves_score.specs.Scan.{scan_computes}
use Rattle.leaves_score.specs.Recorded.{RemainderCloses, RemainderTaken}

pub remainder_closes : RemainderCloses
unfolding scan_computes value_of label_of row_at midpoint_of threshold_of eq lt add div sum round units odd span climb size
remainder_closes = refl

pub remainder_taken : RemainderTaken
unfolding scan_computes value_of label_of row_at midpoint_of threshold_of eq lt add div sum round units odd span climb size
remainder_taken = refl
