-- For a signer. What holds of every sheet that the input check accepts: all that the search goes by. Statements only.
use Rattle.std.specs.Prelude.{◌≡◌, ℕ, suc, ◌≤◌, ◌<◌, Bool, T}
use Rattle.basics.specs.Lists.{tally}
use Rattle.threshold.specs.Order.{key}
use Rattle.threshold.specs.Laws.{Measured}
use Rattle.sheet.specs.Limits.{most_rows, most_columns, most_labels}
use Rattle.sheet.specs.Sheet.{Sheet, value_of, label_of, row_at, value_at, is_cut, count_of, place_of, every_row, order_of}

-- the limits
pub record Limited (s : Sheet) : Type 0 where
  pub rows_some : 1 ≤ s.rows
  pub rows_most : s.rows ≤ most_rows
  pub columns_some : 1 ≤ s.columns
  pub columns_most : s.columns ≤ most_columns
  pub labels_some : 1 ≤ s.labels
  pub labels_most : s.labels ≤ most_labels

-- the cut list of column c holds its cuts, every one of them, ascending, and nothing else
pub record Cuts (s : Sheet) (c : ℕ) : Type 0 where
  pub count_most : count_of s c < s.rows
  pub place_low : (k : ℕ) → k < count_of s c → 1 ≤ place_of s c k
  pub place_high : (k : ℕ) → k < count_of s c → place_of s c k < s.rows
  pub ascend : (k : ℕ) → suc k < count_of s c → place_of s c k < place_of s c (suc k)
  pub cut : (k : ℕ) → k < count_of s c → T (is_cut s c (place_of s c k))
  pub every : (i : ℕ) → i < s.rows → T (is_cut s c i) → (k : ℕ) × (k < count_of s c) × (place_of s c k ≡ i)

pub record SoundColumn (s : Sheet) (c : ℕ) : Type 0 where
  -- every value is finite and of magnitude at most 10 ^ 12
  pub measured : (r : ℕ) → r < s.rows → Measured (value_of s c r)
  -- the order list has rows of the sheet, and each as often as the sheet has it: whatever is counted over it is counted over the rows
  pub in_rows : (i : ℕ) → i < s.rows → row_at s c i < s.rows
  pub each_once : (p : ℕ → Bool) → tally p (order_of s c) ≡ tally p (every_row s)
  -- values ascend along it
  pub ascends : (i j : ℕ) → i ≤ j → j < s.rows → key (value_at s c i) ≤ key (value_at s c j)
  pub cuts : Cuts s c

pub record Sound (s : Sheet) : Type 0 where
  pub limited : Limited s
  pub labelled : (r : ℕ) → r < s.rows → label_of s r < s.labels
  pub column : (c : ℕ) → c < s.columns → SoundColumn s c
