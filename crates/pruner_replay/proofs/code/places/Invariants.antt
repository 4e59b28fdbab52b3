-- `places` has stored no more places than it went over. Assumes nothing.
use Rattle.std.proofs.Common.{◌≡◌, ◌≤◌, length}
use Rattle.pruner_replay.proofs.code.places.Given as goal

abbrev pub invariant-loop-bit : goal.invariant-loop-bit
invariant-loop-bit l = (l.count ≤ l.bit) × (length l.list ≡ 8)
