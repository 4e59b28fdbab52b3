-- For a signer. What holds of the finder's answers, as statements; `proofs/` proves each.
use Rattle.std.specs.Prelude.{◌≡◌, ℕ, ◌+◌, ◌≤◌, List, length, take, Ok}
use Rattle.std.proofs.Math.Option.{none, some}
use Rattle.sheet.specs.Reasons.{reason_of}
use Rattle.sheet.specs.Check.{check_of}
use Rattle.tree.specs.declared.Answer.TheVariants.{TurnedBack}
use Rattle.tree.specs.Answer.{turned_back}
use Rattle.listing.specs.Listing.{listing_of, longest, ListedIn}
use Rattle.certificate.specs.Certificate.{Certified}
use Rattle.sheet_bytes.specs.declared.Head.{Head}
use Rattle.sheet_bytes.specs.Read.{read_of}
use Rattle.sheet_bytes.specs.Room.{largest_sheet}
use Rattle.rule_finder.specs.Run.{sheet_read, run_of, words_lent}

-- "Order: 20, 1, 21, 22, 23, 4, 5, 6.": these are the reader's, and a sheet that is read is never turned back
abbrev pub NeverTurnedBack : Type 0
NeverTurnedBack = (bytes : List ℕ) (h : Head) → read_of bytes ≡ Ok h → turned_back (run_of bytes) ≡ none

-- so what is refused is just what the reader refuses, with its number and place
pub record RefusedIf (bytes : List ℕ) (number place : ℕ) : Type 0 where
  pub told : reason_of (read_of bytes) ≡ some (number, place) → run_of bytes ≡ TurnedBack number place
  pub only : run_of bytes ≡ TurnedBack number place → reason_of (read_of bytes) ≡ some (number, place)

abbrev pub RefusedExactly : Type 0
RefusedExactly = (bytes : List ℕ) (number place : ℕ) → RefusedIf bytes number place

-- the three sentences of the certificate, of the answer to a sheet that is read: the input check that they ask for accepts it
pub record Signed (bytes : List ℕ) (h : Head) : Type 0 where
  pub accepted : check_of (sheet_read bytes h) h.terms words_lent ≡ Ok tt
  pub certified : Certified (sheet_read bytes h) h.terms words_lent (run_of bytes)

abbrev pub EverySigned : Type 0
EverySigned = (bytes : List ℕ) (h : Head) → read_of bytes ≡ Ok h → Signed bytes h

-- nothing longer than the largest sheet is read ..
abbrev pub NoneLonger : Type 0
NoneLonger = (bytes : List ℕ) (h : Head) → read_of bytes ≡ Ok h → length bytes ≤ largest_sheet

-- .. and one byte past it is enough to say what is refused, and why: whatever follows changes no answer
abbrev pub OneMoreSuffices : Type 0
OneMoreSuffices = (bytes : List ℕ) → run_of (take (largest_sheet + 1) bytes) ≡ run_of bytes

-- what was written lies within the memory
abbrev pub WrittenWithin : Type 0
WrittenWithin = (bytes out : List ℕ) (count : ℕ) (after : List ℕ) → ListedIn (run_of bytes) out count after → count ≤ length after

-- and where there is room for every answer it is the answer's text
abbrev pub TextWritten : Type 0
TextWritten =
    (bytes out : List ℕ) (count : ℕ) (after : List ℕ) → ListedIn (run_of bytes) out count after → longest ≤ length out → take count after ≡ listing_of (run_of bytes)

-- "show that two outcomes fitting the contract coincide"
abbrev pub RunsCoincide : Type 0
RunsCoincide =
    (bytes out : List ℕ) (m n : ℕ) (after other : List ℕ) → ListedIn (run_of bytes) out m after → ListedIn (run_of bytes) out n other → (m ≡ n) × (after ≡ other)
