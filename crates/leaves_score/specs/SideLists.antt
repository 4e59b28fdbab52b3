-- For proofs only. What the scan of a column reads of the lent lists, and what its functions go by and leave.
use Rattle.std.specs.Prelude.{ℕ, ◌+◌, ◌*◌, ◌≤◌, ◌<◌, ◌≡◌, Bool, false, List, [], ◌∷◌, length, get_or, None}
use Rattle.std.specs.Float.{nan}
use Rattle.basics.specs.Lists.{those}
use Rattle.sheet.specs.Limits.{most_labels, most_rows}
use Rattle.sheet.specs.Sheet.{Sheet, label_of, row_at}
use Rattle.sheet.specs.Rows.{rows_at}
use Rattle.side_scan.specs.declared.SideScan.{SideScan}
use Rattle.side_scan.specs.OneSide.{blank_best, restarted}
use Rattle.leaves_score.specs.declared.two_sides.Part.{Part}
use Rattle.leaves_score.specs.Column.{Two, other, own_of}
use Rattle.leaves_score.specs.Lists.{go_left}
use Rattle.leaves_score.specs.Kept.{rows_to_come, Live}

-- ---- the rows parted among the sides

-- the rows alone: neither values nor order tell a side's own counts
abbrev pub rows_only : ℕ → List ℕ → Sheet
rows_only rows codes = record { rows = rows; columns = 0; labels = 0; values = []; codes = codes; order = []; cuts = []; counts = [] }

abbrev pub part_of : ℕ → List ℕ → (ℕ → Bool) → Part
part_of rows codes mine = record { own = own_of (rows_only rows codes) mine; size = rows_at (rows_only rows codes) mine }

abbrev pub parts_of : ℕ → List ℕ → List ℕ → List Part
parts_of rows codes marks = part_of rows codes (go_left marks) ∷ part_of rows codes (other (go_left marks)) ∷ []

pub record ReadyRows (rows : ℕ) (codes marks : List ℕ) : Type 0 where
  pub few : rows ≤ most_rows
  pub coded : rows ≤ length codes
  pub marked : rows ≤ length marks
  pub labelled : (r : ℕ) → r < rows → get_or codes r 0 < most_labels
  pub numbered : (r : ℕ) → r < rows → get_or marks r 0 < 2

-- ---- the sides' records by the side's number: the left one is 0, the right one 1

-- what a list of records has past its end
abbrev pub no_side : SideScan
no_side =
    record {
      own = [];
      size = 0;
      labels = 0;
      least = 0;
      best = blank_best 0 nan;
      seen = [];
      counted = 0;
      skip = 0;
      closed = false;
      previous = None;
    }

-- the record of side number k, and both
abbrev pub side_at : List SideScan → ℕ → SideScan
side_at sides k = get_or sides k no_side

abbrev pub both_of : List SideScan → Two
both_of sides = record { left = side_at sides 0; right = side_at sides 1 }

-- neither has counted more rows than it has
abbrev pub Within : List SideScan → Type 0
Within sides = (k : ℕ) → k < 2 → (side_at sides k).counted ≤ (side_at sides k).size

-- What the scan of a column goes by: the lists are long enough, the order's entries are rows, a row's code is a label and its mark the number of its
-- side, and the rows to come add up to each side's own.
pub record ReadyColumn (s : Sheet) (marks : List ℕ) (c : ℕ) (b : Two) : Type 0 where
  pub some : 1 ≤ s.rows
  pub few : s.rows ≤ most_rows
  pub ordered : c * s.rows + s.rows ≤ length s.order
  pub valued : c * s.rows + s.rows ≤ length s.values
  pub coded : s.rows ≤ length s.codes
  pub marked : s.rows ≤ length marks
  pub numbered : (r : ℕ) → r < s.rows → get_or marks r 0 < 2
  pub in_rows : (i : ℕ) → i < s.rows → row_at s c i < s.rows
  pub labelled : (r : ℕ) → r < s.rows → label_of s r < s.labels
  pub left_labels : b.left.labels ≡ s.labels
  pub right_labels : b.right.labels ≡ s.labels
  pub left_small : b.left.size ≤ most_rows
  pub right_small : b.right.size ≤ most_rows
  pub left_live : Live s (those (go_left marks) (rows_to_come s c s.rows 0)) (restarted b.left)
  pub right_live : Live s (those (other (go_left marks)) (rows_to_come s c s.rows 0)) (restarted b.right)
