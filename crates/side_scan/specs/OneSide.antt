-- For a signer. The scan of one side of a root split (document 01, "Scan of the two sides"): its leaf, what a row does to it, and the side that it ends in;
-- over the record that the code keeps. Definitions only.
use Rattle.std.specs.Prelude.{ℕ, ◌+◌, ◌-◌, Bool, false, List, get_or, set, eqb, pos, Float, Some, None, unwrap_or}
use Rattle.std.specs.Float.{fin}
use Rattle.basics.specs.Choice.{pick}
use Rattle.tree.specs.declared.Side.{Side}
use Rattle.tree.specs.declared.Side.TheVariants.{Leaf, Split}
use Rattle.side_scan.specs.declared.best_counts.Peaks.{Peaks}
use Rattle.side_scan.specs.declared.cut_score.Best.{Best}
use Rattle.side_scan.specs.declared.cut_score.Cut.{Cut}
use Rattle.side_scan.specs.declared.cut_score.CutVerdict.{CutVerdict}
use Rattle.side_scan.specs.declared.SideScan.{SideScan}
use Rattle.side_scan.specs.Commonest.{commonest, most_of}
use Rattle.side_scan.specs.Counts.{no_rows, peaks_of}
use Rattle.side_scan.specs.Scored.{fallen, quiet_by, supported_by, verdict_of, split_by}

-- 0.0
abbrev pub nought : Float
nought = fin false 0 (pos 0)

-- ---- "A side starts as a leaf: its commonest label, smallest code on ties; its score is that count."

abbrev pub own_at : SideScan → ℕ → ℕ
own_at t l = get_or t.own l 0

unfoldable pub leaf_label : SideScan → ℕ
leaf_label t = commonest (own_at t) t.labels

unfoldable pub leaf_score : SideScan → ℕ
leaf_score t = most_of (own_at t) t.labels

-- a best whose question and leaves are not read
abbrev pub blank_best : ℕ → Float → Best
blank_best score threshold =
    record {
      score = score;
      question = record { column = 0; threshold = threshold };
      left = record { label = 0; error = 0 };
      right = record { label = 0; error = 0 };
    }

-- no split is taken yet
abbrev pub leaf_best : ℕ → Best
leaf_best score = blank_best score nought

-- "a column starts with counts, skip, closed mark and previous value cleared": a side of those rows, with that best, at a column's start
abbrev pub at_start : List ℕ → ℕ → ℕ → ℕ → Best → SideScan
at_start own size labels least best =
    record {
      own = own;
      size = size;
      labels = labels;
      least = least;
      best = best;
      seen = no_rows;
      counted = 0;
      skip = 0;
      closed = false;
      previous = None;
    }

unfoldable pub restarted : SideScan → SideScan
restarted t = at_start t.own t.size t.labels t.least t.best

-- ---- a row of an open side

-- whether the row is only counted
unfoldable pub quiet : SideScan → Float → Bool
quiet t value = quiet_by t.previous value (fallen t.skip)

-- rows of label l counted so far, and those from here on
abbrev pub counted_of : SideScan → ℕ → ℕ
counted_of t l = get_or t.seen l 0

abbrev pub later : SideScan → ℕ → ℕ
later t l = get_or t.own l 0 - get_or t.seen l 0

-- all the side's rows from here on
abbrev pub rows_left : SideScan → ℕ
rows_left t = t.size - t.counted

-- Otherwise the cut before it is scored: what it comes to, and its split, are those of cut_score, which says them by numbers.
abbrev pub peaks_at : SideScan → Peaks
peaks_at t = peaks_of t.own t.seen t.labels

abbrev pub cut_at : SideScan → Cut
cut_at t = record { peaks = peaks_at t; counted = t.counted; rest = rows_left t }

abbrev pub verdict_at : SideScan → CutVerdict
verdict_at t = verdict_of (cut_at t) t.least t.best.score (fallen t.skip)

-- a side's first row has no previous value, and the cut before it is never taken, since it leaves no row before it
abbrev pub split_at : SideScan → ℕ → Float → Best
split_at t column value = split_by (cut_at t) column (unwrap_or t.previous nought) value

-- the words that the laws of the scan use for their parts
abbrev pub left_best : SideScan → ℕ
left_best t = (peaks_at t).before.count

abbrev pub right_best : SideScan → ℕ
right_best t = (peaks_at t).after.count

abbrev pub total_of : SideScan → ℕ
total_of t = left_best t + right_best t

abbrev pub supported : SideScan → Bool
supported t = supported_by (cut_at t) t.least

abbrev pub takes : SideScan → Bool
takes t = (verdict_at t).taken

abbrev pub skip_after : SideScan → ℕ
skip_after t = (verdict_at t).skip

abbrev pub closes : SideScan → Bool
closes t = (verdict_at t).closed

unfoldable pub best_after : SideScan → ℕ → Float → Best
best_after t column value = pick (takes t) (split_at t column value) t.best

-- "Then the row is counted."
unfoldable pub raised : List ℕ → ℕ → List ℕ
raised counts label = set counts label (get_or counts label 0 + 1)

unfoldable pub count_row : SideScan → Best → ℕ → Bool → ℕ → Float → SideScan
count_row t best skip closed label value =
    record {
      own = t.own;
      size = t.size;
      labels = t.labels;
      least = t.least;
      best = best;
      seen = raised t.seen label;
      counted = t.counted + 1;
      skip = skip;
      closed = closed;
      previous = Some value;
    }

-- a row gone past, but for its label and the skip
abbrev pub gone_past : SideScan → Float → SideScan
gone_past t value = record t { counted = t.counted + 1; previous = Some value }

-- the cut before a row scored, where skip has fallen already; the row is still to be counted
abbrev pub cut_scored : SideScan → ℕ → Float → SideScan
cut_scored t column value =
    let v : CutVerdict = verdict_of (cut_at t) t.least t.best.score t.skip in
    record t { best = pick v.taken (split_at t column value) t.best; skip = v.skip; closed = v.closed }

unfoldable pub only_counted : SideScan → ℕ → Float → SideScan
only_counted t label value = count_row t t.best (fallen t.skip) t.closed label value

unfoldable pub scored : SideScan → ℕ → ℕ → Float → SideScan
scored t column label value = count_row t (best_after t column value) (skip_after t) (closes t) label value

-- "At a row of an open side": what a row of that label and that value in that column does to its side
unfoldable pub step_of : SideScan → ℕ → ℕ → Float → SideScan
step_of t column label value = pick t.closed t (pick (quiet t value) (only_counted t label value) (scored t column label value))

-- ---- the side that the scan ends in

-- "A side whose score equals its leaf's stays a leaf."
unfoldable pub side_of : SideScan → Side
side_of t =
    let b : Best = t.best in
    pick (eqb b.score (leaf_score t)) (Leaf (record { label = leaf_label t; error = t.size - leaf_score t })) (Split b.question b.left b.right)

-- `unfolding side_computes` opens every definition of a side's scan at once
unfoldable pub side_computes : Unit {0}
unfolding pick commonest most_of leaf_label leaf_score restarted quiet peaks_of verdict_of split_by best_after raised count_row only_counted scored step_of side_of
side_computes = tt
