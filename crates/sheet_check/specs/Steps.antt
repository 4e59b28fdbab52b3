-- For proofs only. What the steps of the input check say.
use Rattle.std.specs.Prelude.{◌≡◌, ℕ, ◌-◌, ◌≤◌, ◌<◌, ◌⊎◌, Bool, not, ◌&&◌, List, length, get_or, set, T}
use Rattle.std.specs.Float.{binary64}
use Rattle.std.specs.Float.Ieee.{fits}
use Rattle.threshold.specs.Order.{is_at_most}
use Rattle.threshold.specs.Threshold.{within}
use Rattle.sheet.specs.Sheet.{Sheet, value_at, places_of}
use Rattle.sheet.specs.Ready.{Shaped}
use Rattle.sheet.specs.Check.{bad_order, cuts_of, same}

-- the listed places of column c are its cuts
abbrev pub cuts_match : Sheet → ℕ → Bool
cuts_match s c = same (places_of s c) (cuts_of s c)

-- ---- one pass over a column

-- it is a row of the sheet that had not this mark, and has it now
pub record Taken (rows row mark : ℕ) (marks marks' : List ℕ) : Type 0 where
  pub in_rows : row < rows
  pub unmarked : get_or marks row 0 ≡ mark → ⊥
  pub marked : marks' ≡ set marks row mark

-- it is no row of the sheet, or had this mark, and the marks are as they were
pub record Left (rows row mark : ℕ) (marks marks' : List ℕ) : Type 0 where
  pub why : (rows ≤ row) ⊎ (get_or marks row 0 ≡ mark)
  pub same : marks' ≡ marks

-- c is a column of a shaped sheet, and each row has a word, with no mark of this column or a later one
pub record Entering (s : Sheet) (c : ℕ) (marks : List ℕ) : Type 0 where
  pub shaped : Shaped s
  pub column_in : c < s.columns
  pub room : s.rows ≤ length marks
  pub lower_marks : (r : ℕ) → get_or marks r 0 ≤ c

-- what the pass over column c shows: neither reason 7 nor 9 holds there, nor does 8, as each value is at least the one before. (Each is a double, as
-- those of every slice of f64 are.)
pub record Passed (s : Sheet) (c : ℕ) : Type 0 where
  pub in_order : (i : ℕ) → i < s.rows → T (not (bad_order s c i))
  pub double : (i : ℕ) → T (fits binary64 (value_at s c i))
  pub climbs : (i : ℕ) → 1 ≤ i → i < s.rows → T (is_at_most (value_at s c (i - 1)) (value_at s c i))
  pub matches : T (cuts_match s c)

-- its lowest and its highest value are in range
abbrev pub ends_hold : Sheet → ℕ → Bool
ends_hold s c = within (value_at s c 0) && within (value_at s c (s.rows - 1))
