-- For a signer. What a function that writes text into lent memory leaves there. Definitions only.
use Rattle.std.specs.Prelude.{◌≡◌, ℕ, ◌+◌, ◌≤◌, List, length}
use Rattle.std.proofs.lemmas.List.Edits.{sets}
use Rattle.digits.specs.declared.Text.{Text}

-- the bytes of `text` are stored one by one from place `at` on, nothing else is, and `next` is the place past them
pub record Put (before : List ℕ) (at : ℕ) (text : List ℕ) (next : ℕ) (after : List ℕ) : Type 0 where
  pub past : next ≡ at + length text
  pub stored : after ≡ sets before at text

-- a number's text is stored, and takes so many places at most
abbrev pub PutWithin : List ℕ → ℕ → List ℕ → ℕ → ℕ → List ℕ → Type 0
PutWithin before at text most next after = Put before at text next after × (next ≤ at + most)

-- or exactly so many
abbrev pub PutExactly : List ℕ → ℕ → List ℕ → ℕ → ℕ → List ℕ → Type 0
PutExactly before at text places next after = Put before at text next after × (next ≡ at + places)

-- ---- the same of a text, which has its place with it

-- so many bytes fit in past its place
abbrev pub HasRoom : Text → ℕ → Type 0
HasRoom text bytes = text.at + bytes ≤ length text.out.now

-- it still writes into the memory that it was made of, as much as there was
abbrev pub SameMemory : Text → Text → Type 0
SameMemory before after = (after.out.ghost_name ≡ before.out.ghost_name) × (length after.out.now ≡ length before.out.now)

abbrev pub Wrote : Text → List ℕ → Text → Type 0
Wrote before bytes after = Put before.out.now before.at bytes after.at after.out.now

abbrev pub WroteWithin : Text → List ℕ → ℕ → Text → Type 0
WroteWithin before bytes most after = PutWithin before.out.now before.at bytes most after.at after.out.now

abbrev pub WroteExactly : Text → List ℕ → ℕ → Text → Type 0
WroteExactly before bytes places after = PutExactly before.out.now before.at bytes places after.at after.out.now
