-- For a signer. What the search of one column looks at, and nothing else. Definitions only.
use Rattle.std.specs.Prelude.{ℕ, ◌+◌, ◌*◌, Bool, List, get_or}
use Rattle.cuts.specs.Lookups as cuts

-- The cuts' places, each as many as the rows before the cut, ascending; the left and the right error of each cut number; the gap; whether support is at most 1.
pub record Column : Type 0 where
  pub places : List ℕ
  pub errors : ℕ → ℕ × ℕ
  pub gap : ℕ
  pub small : Bool

abbrev pub place_in : Column → ℕ → ℕ
place_in c k = cuts.place c.places k

unfoldable pub left_error : Column → ℕ → ℕ
left_error c k = (c.errors k).0

unfoldable pub right_error : Column → ℕ → ℕ
right_error c k = (c.errors k).1

abbrev pub error_of : Column → ℕ → ℕ
error_of c k = left_error c k + right_error c k

-- the table of errors in lent memory: those of cut number k at 2k and 2k + 1
unfoldable pub recorded : List ℕ → ℕ → ℕ × ℕ
recorded table k = (get_or table (2 * k) 0, get_or table (2 * k + 1) 0)

-- the column as the code has it: the cuts' places, and the errors of the cuts tried so far
abbrev pub recorded_column : List ℕ → List ℕ → ℕ → Bool → Column
recorded_column places table gap small = record { places = places; errors = recorded table; gap = gap; small = small }
