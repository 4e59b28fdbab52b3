-- For a signer. What the scan does not look at: the cut lists, and marks past the rows. Statements.
use Rattle.std.specs.Prelude.{◌≡◌, ℕ, ◌<◌, Bool, List}
use Rattle.sheet.specs.Sheet.{Sheet}
use Rattle.sheet.specs.Sound.{Sound}
use Rattle.leaves_score.specs.Scan.{sides_of}

-- the sheet with other cut lists
abbrev pub with_cuts : Sheet → List ℕ → List ℕ → Sheet
with_cuts s cuts counts =
    record {
      rows = s.rows;
      columns = s.columns;
      labels = s.labels;
      values = s.values;
      codes = s.codes;
      order = s.order;
      cuts = cuts;
      counts = counts;
    }

abbrev pub CutsUnread : Type 0
CutsUnread = (s : Sheet) (cuts counts : List ℕ) (support : ℕ) (mark : ℕ → Bool) → sides_of (with_cuts s cuts counts) support mark ≡ sides_of s support mark

-- marks that agree on the sheet's rows give the same sides
abbrev pub SameMarks : Type 0
SameMarks =
    (s : Sheet) → Sound s → (support : ℕ) (mark twin : ℕ → Bool) → ((r : ℕ) → r < s.rows → mark r ≡ twin r)
    → sides_of s support mark ≡ sides_of s support twin
