-- Each byte so far stands where it was read.
use mathlib.Core.Path.{◌≡◌}
use Prim.Native.Nat.{ℕ, ◌+◌, ◌<◌}
use lib.ListN.{length, get_or}
use Rattle.sheet_bytes.specs.Bytes.{byte_at}
use Rattle.sheet_bytes.proofs.bytes_at.Given as goal

abbrev pub invariant-loop-i : goal.invariant-loop-i
invariant-loop-i g l = (length l.read ≡ g.row.N) × ((k : ℕ) → k < l.i → get_or l.read k 0 ≡ byte_at l.bytes (l.at + k))
