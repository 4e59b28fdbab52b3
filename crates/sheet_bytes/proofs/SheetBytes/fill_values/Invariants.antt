-- Storing the values that are left from here on gives the whole.
use mathlib.Core.Path.{◌≡◌}
use lib.ListN.{length, drop}
use lib.Seq.{sets}
use Rattle.sheet_bytes.specs.Read.{values_of}
use Rattle.sheet_bytes.proofs.SheetBytes.fill_values.Given as goal

abbrev pub invariant-loop-index : goal.invariant-loop-index
invariant-loop-index l =
    (length l.values ≡ length l.initial.values)
    × (sets l.values l.index (drop l.index (values_of l.self.bytes.now l.self.head)) ≡ sets l.initial.values 0 (values_of l.self.bytes.now l.self.head))
