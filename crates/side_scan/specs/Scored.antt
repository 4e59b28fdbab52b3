-- For a signer. The cut before a row, scored (document 01, "Scan of the two sides"): what it comes to, and the split that it makes; by numbers, so that the
-- definition of the scan and the code say the same once. Definitions only.
use Rattle.std.specs.Prelude.{ℕ, ◌+◌, ◌-◌, Bool, false, ◌&&◌, ◌||◌, leb, ltb, eqb, Float, Option, Some, None}
use Rattle.basics.specs.Choice.{pick}
use Rattle.threshold.specs.Order.{same_value}
use Rattle.threshold.specs.Threshold.{threshold_of}
use Rattle.side_scan.specs.declared.cut_score.Cut.{Cut}
use Rattle.side_scan.specs.declared.cut_score.Best.{Best}
use Rattle.side_scan.specs.declared.cut_score.CutVerdict.{CutVerdict}
use Rattle.side_scan.specs.Counts.{leaf_by}

-- "skip falls by 1, not below 0"
abbrev pub fallen : ℕ → ℕ
fallen skip = skip - 1

-- "If the value equals the side's previous one, or skip is still above 0, the row is only counted." A side's first row has no previous value.
abbrev pub repeated : Option Float → Float → Bool
repeated None value = false
repeated (Some previous) value = same_value previous value

abbrev pub quiet_by : Option Float → Float → ℕ → Bool
quiet_by previous value skip = repeated previous value || ltb 0 skip

-- ---- a cut by numbers: the best counts about it, the rows before it, and the rest, from it on; `least` that each part must have

-- "best count before plus best count from here on"
abbrev pub total_by : Cut → ℕ
total_by k = k.peaks.before.count + k.peaks.after.count

-- "If both parts have at least max(support, 1) rows and the total beats the score, the split is taken"
abbrev pub supported_by : Cut → ℕ → Bool
supported_by k least = leb least k.counted && leb least k.rest

abbrev pub taken_by : Cut → ℕ → ℕ → Bool
taken_by k least score = supported_by k least && ltb score (total_by k)

-- "The side closes for this column if all rows from here on have one label, or if skip is at least their number."
abbrev pub closed_by : Cut → ℕ → Bool
closed_by k skip = eqb k.peaks.after.count k.rest || leb k.rest skip

-- "Otherwise the cut before it is scored: best count before plus best count from here on. .. Otherwise skip becomes score minus total, not below 0." Where the split is
-- taken, skip stays as it fell.
unfoldable pub verdict_of : Cut → ℕ → ℕ → ℕ → CutVerdict
verdict_of k least score skip =
    let taken = taken_by k least score in
    let next = pick taken skip (score - total_by k) in
    record { taken = taken; total = total_by k; skip = next; closed = closed_by k next }

-- "threshold of the previous and this value, labels, errors": the one place where a split's numbers become a best
unfoldable pub split_by : Cut → ℕ → Float → Float → Best
split_by k column previous value =
    record {
      score = total_by k;
      question = record { column = column; threshold = threshold_of previous value };
      left = leaf_by k.peaks.before k.counted;
      right = leaf_by k.peaks.after k.rest;
    }
