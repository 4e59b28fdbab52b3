-- For a signer. One column's lists (document 01, "The sheet and its numbers"). Definitions only.
use Rattle.std.specs.Prelude.{ℕ, ◌-◌, Bool, List, ◌++◌, length, get_or, replicate, Float}
use Rattle.std.specs.Float.{nan}
use Rattle.basics.specs.Lists.{those}
use Rattle.threshold.specs.Order.{same_value, is_below, cut_at, precedes_by}
use Rattle.row_sort.specs.Sorting.{rows_from, sorted}

-- the value of a row
abbrev pub value_in : List Float → ℕ → Float
value_in column r = get_or column r nan

-- a row precedes another by their values
unfoldable pub precedes : List Float → ℕ → ℕ → Bool
precedes column a b = precedes_by (λ x y. is_below (value_in column x) (value_in column y)) (λ x y. same_value (value_in column x) (value_in column y)) a b

-- "The order list has, at c·rows+i, the row at sorted place i, ascending."
unfoldable pub rows_in_order : ℕ → List Float → List ℕ
rows_in_order rows column = sorted (precedes column) (rows_from 0 rows)

-- a cut of a column in some order
unfoldable pub row_is_cut : List Float → List ℕ → ℕ → Bool
row_is_cut column order i = cut_at (λ k. value_in column (get_or order k 0)) i

-- the cuts of a column in some order, ascending
unfoldable pub cuts_along : List Float → List ℕ → List ℕ
cuts_along column order = those (row_is_cut column order) (rows_from 0 (length order))

-- a column's cuts
unfoldable pub cut_places : ℕ → List Float → List ℕ
cut_places rows column = cuts_along column (rows_in_order rows column)

-- "a count per column says how many"
unfoldable pub cut_count : ℕ → List Float → ℕ
cut_count rows column = length (cut_places rows column)

-- "unused cut places become 0": that many places
unfoldable pub padded : ℕ → List ℕ → List ℕ
padded n places = places ++ replicate (n - length places) 0

unfoldable pub cut_slots : ℕ → List Float → List ℕ
cut_slots rows column = padded rows (cut_places rows column)
