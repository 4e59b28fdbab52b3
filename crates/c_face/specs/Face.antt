-- For a signer. What is answered for the numbers that a call from C hands over. Definitions only.
use Rattle.std.specs.Prelude.{◌≡◌, ℕ, List, length, get_or, Float}
use Rattle.sheet.specs.Sheet.{Sheet}
use Rattle.sheet.specs.Check.{Verdict, sheet_of, check_of, scratch_after}
use Rattle.prepare.specs.Prepared.{prepare_of, PreparedOf}
use Rattle.tree.specs.declared.Answer.{Answer}
use Rattle.depth2.specs.Search.{search_of, scratch_of}
use Rattle.c_face.specs.Numbers.{size_in, terms_in}
use Rattle.c_face.specs.Told.{written, verdict_told}
use Rattle.c_face.specs.Rule.{search_words}

-- the sheet that a call hands over
abbrev pub sheet_in : List ℕ → List Float → List ℕ → List ℕ → List ℕ → List ℕ → Sheet
sheet_in numbers values codes order cuts counts = sheet_of (size_in numbers) values codes order cuts counts

-- ---- what the calls answer

-- the preparer, for rows and columns, and lent lists of these lengths
abbrev pub prepare_answer : List ℕ → List Float → List ℕ → List ℕ → List ℕ → Verdict
prepare_answer numbers values order cuts counts =
    prepare_of (get_or numbers 0 0) (get_or numbers 1 0) values (length order) (length cuts) (length counts)

-- the input check, with a scratch of that many words
abbrev pub check_answer : List ℕ → List Float → List ℕ → List ℕ → List ℕ → List ℕ → ℕ → Verdict
check_answer numbers values codes order cuts counts words =
    check_of (sheet_in numbers values codes order cuts counts) (terms_in numbers) words

-- the search, with a scratch of that many words
abbrev pub search_answer : List ℕ → List Float → List ℕ → List ℕ → List ℕ → List ℕ → ℕ → Answer
search_answer numbers values codes order cuts counts words = search_of (sheet_in numbers values codes order cuts counts) (terms_in numbers) words

-- ---- what the calls leave

pub record PrepareCalled (numbers : List ℕ) (values : List Float) (order cuts counts answer order' cuts' counts' answer' : List ℕ) : Type 0 where
  pub prepared : PreparedOf (get_or numbers 0 0) (get_or numbers 1 0) values order cuts counts (prepare_answer numbers values order cuts counts) order' cuts' counts'
  pub told : answer' ≡ verdict_told (prepare_answer numbers values order cuts counts) answer

pub record CheckCalled (numbers : List ℕ) (values : List Float) (codes order cuts counts scratch answer scratch' answer' : List ℕ) : Type 0 where
  pub told : answer' ≡ verdict_told (check_answer numbers values codes order cuts counts (length scratch)) answer
  pub words : scratch' ≡ scratch_after (check_answer numbers values codes order cuts counts (length scratch)) (get_or numbers 0 0) scratch

pub record SearchCalled (numbers : List ℕ) (values : List Float) (codes order cuts counts scratch answer scratch' answer' : List ℕ) : Type 0 where
  pub told : answer' ≡ written (search_words (search_answer numbers values codes order cuts counts (length scratch))) answer
  pub words : scratch' ≡ scratch_of (sheet_in numbers values codes order cuts counts) (terms_in numbers) scratch
