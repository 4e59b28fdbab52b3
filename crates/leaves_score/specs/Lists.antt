-- For a signer. What the scan reads of the lent lists, and what it asks of them: facts that an accepted sheet has. Definitions and statements only.
use Rattle.std.specs.Prelude.{◌≡◌, ℕ, ◌*◌, ◌≤◌, ◌<◌, Bool, List, [], length, get_or, eqb}
use Rattle.basics.specs.Lists.{tally}
use Rattle.sheet.specs.Sheet.{Sheet, label_of, row_at, every_row, order_of}
use Rattle.sheet.specs.Sound.{Limited}

-- a row whose mark is 0 goes left
abbrev pub go_left : List ℕ → ℕ → Bool
go_left marks r = eqb (get_or marks r 0) 0

-- the sheet that a scan reads: cuts are no part of it, and `proofs/Accepted.antt` shows that it answers the same with them
abbrev pub scan_of : Sheet → Sheet
scan_of s =
    record { rows = s.rows; columns = s.columns; labels = s.labels; values = s.values; codes = s.codes; order = s.order; cuts = []; counts = [] }

-- the lists are long enough: one order entry and value to a row and column, one code and mark to a row; and a mark is 0 or 1
pub record Lent (s : Sheet) (marks : List ℕ) : Type 0 where
  pub ordered : s.columns * s.rows ≤ length s.order
  pub valued : s.columns * s.rows ≤ length s.values
  pub coded : s.rows ≤ length s.codes
  pub marked : s.rows ≤ length marks
  pub numbered : (r : ℕ) → r < s.rows → get_or marks r 0 < 2

-- an accepted sheet has it (`Sound`), whatever its cuts
pub record Scannable (s : Sheet) (marks : List ℕ) : Type 0 where
  pub limited : Limited s
  pub lent : Lent s marks
  pub labelled : (r : ℕ) → r < s.rows → label_of s r < s.labels
  pub in_rows : (c : ℕ) → c < s.columns → (i : ℕ) → i < s.rows → row_at s c i < s.rows
  pub each_once : (c : ℕ) → c < s.columns → (p : ℕ → Bool) → tally p (order_of s c) ≡ tally p (every_row s)
