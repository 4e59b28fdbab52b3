-- Storing the codes that are left from here on gives the whole.
use mathlib.Core.Path.{◌≡◌}
use lib.ListN.{length, drop}
use lib.Seq.{sets}
use Rattle.sheet_bytes.specs.Read.{codes_of}
use Rattle.sheet_bytes.proofs.SheetBytes.fill_codes.Given as goal

abbrev pub invariant-loop-row : goal.invariant-loop-row
invariant-loop-row l =
    (length l.codes ≡ length l.initial.codes) × (sets l.codes l.row (drop l.row (codes_of l.self.bytes.now l.self.head)) ≡ sets l.initial.codes 0 (codes_of l.self.bytes.now l.self.head))
