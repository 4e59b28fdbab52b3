-- For a signer. What the check and the preparer tell a C caller, and how words come into a lent answer. Definitions only.
use Rattle.std.specs.Prelude.{ℕ, List, [], ◌∷◌, ◌++◌, length, drop, leb, Ok, Err}
use Rattle.basics.specs.Choice.{pick}
use Rattle.sheet.specs.Check.{Verdict}
use Rattle.sheet.specs.Reasons.{number_of}

-- the words stand at the start of the lent answer and the rest stays; an answer too short for them is left alone
unfoldable pub written : List ℕ → List ℕ → List ℕ
written words answer = pick (leb (length words) (length answer)) (words ++ drop (length words) answer) answer

-- what the first word says
abbrev pub says_turned_back : ℕ
says_turned_back = 0

abbrev pub says_taken : ℕ
says_taken = 1

-- three words: "Turned back (number, place)", or 1, 0, 0
unfoldable pub verdict_words : Verdict → List ℕ
verdict_words (Ok taken) = says_taken ∷ 0 ∷ 0 ∷ []
verdict_words (Err refusal) = says_turned_back ∷ number_of refusal.reason ∷ refusal.place ∷ []

abbrev pub verdict_told : Verdict → List ℕ → List ℕ
verdict_told verdict answer = written (verdict_words verdict) answer
