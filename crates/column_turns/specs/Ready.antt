-- For proofs only. What the functions behind the search may count on once the input check has accepted the sheet, and what they leave. Statements only.
use Rattle.std.specs.Prelude.{◌≡◌, ℕ, zero, suc, ◌+◌, ◌*◌, ◌≤◌, ◌<◌, Bool, List, length, get_or, ltb}
use Rattle.basics.specs.Choice.{pick}
use Rattle.sheet.specs.declared.Size.{Size}
use Rattle.sheet.specs.Limits.{most_rows, most_columns}
use Rattle.sheet.specs.declared.lent.LentSheet.{LentSheet}
use Rattle.sheet.specs.Sheet.{Sheet, count_of}
use Rattle.tree.specs.declared.Tree.{Tree}
use Rattle.column_turns.specs.declared.Words.{Words}
use Rattle.column_turns.specs.Promise.{Whole}
use Rattle.column_turns.specs.Try.{tried_tree}

-- ---- the lent words

-- the same memory, and as much of it
pub record SameWords (was words : Words) : Type 0 where
  pub table_memory : words.table.ghost_name ≡ was.table.ghost_name
  pub ring_memory : words.ring.ghost_name ≡ was.ring.ghost_name
  pub marks_memory : words.marks.ghost_name ≡ was.marks.ghost_name
  pub table_size : length words.table.now ≡ length was.table.now
  pub ring_size : length words.ring.now ≡ length was.ring.now
  pub marks_size : length words.marks.now ≡ length was.marks.now

-- two words of the table for each row, four of the ring, and a mark
pub record EnoughWords (rows : ℕ) (words : Words) : Type 0 where
  pub some : 1 ≤ rows
  pub few : rows ≤ most_rows
  pub table_size : length words.table.now ≡ 2 * rows
  pub ring_size : length words.ring.now ≡ 4 * rows
  pub marks_size : length words.marks.now ≡ rows

-- ---- the side marks

-- the column's order has rows, and there is a mark for each
pub record Marking (size : Size) (order : List ℕ) (column : ℕ) (marks : List ℕ) : Type 0 where
  pub rows_most : size.rows ≤ most_rows
  pub columns_most : column < most_columns
  pub ordered : column * size.rows + size.rows ≤ length order
  pub marked : size.rows ≤ length marks
  pub in_rows : (i : ℕ) → i < size.rows → get_or order (column * size.rows + i) 0 < size.rows

-- If a question sends left just the rows placed before the cut, then of the first n places the rows that go left have mark 0, and the others mark 1.
abbrev pub MarkedTo : Size → List ℕ → ℕ → ℕ → List ℕ → ℕ → Type 0
MarkedTo size order column place marks n =
    (left : ℕ → Bool) → ((i : ℕ) → i < size.rows → left (get_or order (column * size.rows + i) 0) ≡ ltb i place)
    → (i : ℕ) → i < n
    → get_or marks (get_or order (column * size.rows + i) 0) 0 ≡ pick (left (get_or order (column * size.rows + i) 0)) 0 1

-- the same, with a cut of the list
pub record MarkingCut (l : LentSheet) (column cut : ℕ) (marks : List ℕ) : Type 0 where
  pub marking : Marking l.measured.size l.order.now column marks
  pub listed : column * l.measured.size.rows + cut < length l.cuts.now

-- the marks of a cut
pub record CutMarked (l : LentSheet) (column cut : ℕ) (was marks : List ℕ) : Type 0 where
  pub size : length marks ≡ length was
  pub marked : MarkedTo l.measured.size l.order.now column (get_or l.cuts.now (column * l.measured.size.rows + cut) 0) marks l.measured.size.rows

-- ---- a try

-- "the preceding cut's place (place 0 for cut number 0)", in a cut list whose column begins at `base`
unfoldable pub place_before : List ℕ → ℕ → ℕ → ℕ
place_before cuts base zero = 0
place_before cuts base (suc k) = get_or cuts (base + k) 0

-- the column's cut is one of its list, and so is the one before it; the order's entries are rows, and every row has a value
pub record TryingCut (l : LentSheet) (column cut : ℕ) : Type 0 where
  pub rows_some : 1 ≤ l.measured.size.rows
  pub rows_most : l.measured.size.rows ≤ most_rows
  pub columns_most : column < most_columns
  pub ordered : column * l.measured.size.rows + l.measured.size.rows ≤ length l.order.now
  pub valued : column * l.measured.size.rows + l.measured.size.rows ≤ length l.measured.values.now
  pub listed : column * l.measured.size.rows + cut < length l.cuts.now
  pub placed : (k : ℕ) → k ≤ cut → get_or l.cuts.now (column * l.measured.size.rows + k) 0 < l.measured.size.rows
  pub in_rows : (i : ℕ) → i < l.measured.size.rows → get_or l.order.now (column * l.measured.size.rows + i) 0 < l.measured.size.rows

-- a listed cut of an accepted sheet, and a mark for each row
pub record Trying (s : Sheet) (column cut : ℕ) (marks : List ℕ) : Type 0 where
  pub whole : Whole s
  pub here : column < s.columns
  pub cut_in : cut < count_of s column
  pub marked : length marks ≡ s.rows

-- the tree that it makes, and as many marks as before
abbrev pub CutTried : Sheet → ℕ → ℕ → ℕ → List ℕ → Tree → List ℕ → Type 0
CutTried s support column cut was tree marks = (tree ≡ tried_tree s support column cut) × (length marks ≡ length was)

-- ---- a column's cuts

-- the column's list lies in the cut lists
pub record PlacedIn (l : LentSheet) (column : ℕ) : Type 0 where
  pub rows_most : l.measured.size.rows ≤ most_rows
  pub columns_most : column < most_columns
  pub counted : column < length l.counts.now
  pub listed : column * l.measured.size.rows + get_or l.counts.now column 0 ≤ length l.cuts.now
