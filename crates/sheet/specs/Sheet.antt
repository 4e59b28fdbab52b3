-- For a signer. Document 01, "The sheet and its numbers": what the lists of the lent slices say. Definitions only.
use Rattle.std.specs.Prelude.{ℕ, ◌+◌, ◌*◌, max, Bool, List, get_or, Float}
use Rattle.std.specs.Float.{nan}
use Rattle.basics.specs.Lists.{table}
use Rattle.threshold.specs.Order.{cut_at}

-- A sheet: its three numbers, and the contents of the slices that hold its values, label codes, order, cuts and counts of cuts.
pub record Sheet : Type 0 where
  pub rows : ℕ
  pub columns : ℕ
  pub labels : ℕ
  pub values : List Float
  pub codes : List ℕ
  pub order : List ℕ
  pub cuts : List ℕ
  pub counts : List ℕ

-- "Value of row r in column c lies at c·rows+r."
unfoldable pub value_of : Sheet → ℕ → ℕ → Float
value_of s c r = get_or s.values (c * s.rows + r) nan

-- the label of row r
unfoldable pub label_of : Sheet → ℕ → ℕ
label_of s r = get_or s.codes r 0

-- "The order list has, at c·rows+i, the row at sorted place i, ascending."
unfoldable pub row_at : Sheet → ℕ → ℕ → ℕ
row_at s c i = get_or s.order (c * s.rows + i) 0

-- the value at sorted place i of column c
unfoldable pub value_at : Sheet → ℕ → ℕ → Float
value_at s c i = value_of s c (row_at s c i)

-- the same of lists, of the column that begins at `base`
abbrev pub value_listed : List Float → List ℕ → ℕ → ℕ → Float
value_listed values order base i = get_or values (base + get_or order (base + i) 0) nan

-- a cut of column c
unfoldable pub is_cut : Sheet → ℕ → ℕ → Bool
is_cut s c i = cut_at (value_at s c) i

-- "a count per column says how many": the number of column c's cuts
unfoldable pub count_of : Sheet → ℕ → ℕ
count_of s c = get_or s.counts c 0

-- "The cut list holds column c's cuts, ascending, from c·rows on": the place of its cut number k, an index of the column's order
unfoldable pub place_of : Sheet → ℕ → ℕ → ℕ
place_of s c k = get_or s.cuts (c * s.rows + k) 0

-- every row of the sheet, and the rows of column c in sorted order
abbrev pub every_row : Sheet → List ℕ
every_row s = table (λ r. r) s.rows

unfoldable pub order_of : Sheet → ℕ → List ℕ
order_of s c = table (row_at s c) s.rows

-- the places of column c's cuts
unfoldable pub places_of : Sheet → ℕ → List ℕ
places_of s c = table (place_of s c) (count_of s c)

-- The rows before a sorted place of column c are as many as its index. Where rows are counted, and not places named, this is the number.
abbrev pub rows_before : Sheet → ℕ → ℕ → ℕ
rows_before s c i = i

-- the rows before its cut number k, and before each of its cuts
abbrev pub before_cut : Sheet → ℕ → ℕ → ℕ
before_cut s c k = rows_before s c (place_of s c k)

abbrev pub before_cuts : Sheet → ℕ → List ℕ
before_cuts s c = places_of s c

-- "Support 0 to 4,096 (0 acts as 1)."
abbrev pub least_rows : ℕ → ℕ
least_rows support = max support 1
