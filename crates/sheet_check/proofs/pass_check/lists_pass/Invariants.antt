-- `sheet_check::pass_check::lists_pass` meets its contract. The loop's invariant: every column before this one passed.
use mathlib.Core.Path.{◌≡◌}
use Prim.Native.Nat.{ℕ, ◌≤◌, ◌<◌}
use lib.ListN.{length, get_or}
use lib.Dec.{T}
use Rattle.sheet.specs.Lent.{sheet_in}
use Rattle.sheet_check.specs.Steps.{Passed, ends_hold}
use Rattle.sheet_check.proofs.pass_check.lists_pass.Given as goal

abbrev pub invariant-loop-column : goal.invariant-loop-column
invariant-loop-column l =
    record {
      size : length l.marks ≡ length l.initial.marks;
      marked : (r : ℕ) → get_or l.marks r 0 ≤ l.column;
      passed : (c : ℕ) → c < l.column → Passed (sheet_in l.sheet) c × T (ends_hold (sheet_in l.sheet) c);
    }
