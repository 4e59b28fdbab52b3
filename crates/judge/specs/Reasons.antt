-- For a signer. Document 01, "Reasons a call turns back": the places that the judge's own reasons report; their numbers stand in crate sheet. Definitions
-- only.
use Rattle.std.specs.Prelude.{ℕ}

-- "question: 0 root, 1 left, 2 right"; "side: 1 left, 2 right"
abbrev pub at_root : ℕ
at_root = 0

abbrev pub at_left : ℕ
at_left = 1

abbrev pub at_right : ℕ
at_right = 2

-- how many places there are
abbrev pub places : ℕ
places = 3
