-- For proofs only. What the steps of preparing one column go by.
use Rattle.std.specs.Prelude.{ℕ, ◌≤◌, ◌<◌, ◌≡◌, List, length, Float}
use Rattle.basics.specs.Lists.{All}
use Rattle.row_sort.specs.Steps.{Comparable}

-- a column's rows in some order, and a list as long for its cuts
pub record Ordering (column : List Float) (order cuts : List ℕ) : Type 0 where
  pub some_row : 1 ≤ length order
  pub narrow : length order ≤ 65536
  pub cut_room : length cuts ≡ length order
  pub inside : All (λ r. r < length column) order

-- a column, with lists as long for its order and its cuts
pub record OneColumn (column : List Float) (order cuts : List ℕ) : Type 0 where
  pub comparables : Comparable column
  pub some_row : 1 ≤ length column
  pub narrow : length column ≤ 65536
  pub order_room : length order ≡ length column
  pub cut_room : length cuts ≡ length column
