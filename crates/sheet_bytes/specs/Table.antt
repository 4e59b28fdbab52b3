-- For a signer. Document 01's worked sheet by its bytes, and what becomes of it damaged: each reason once, in the order of the checks.
-- Definitions only; `proofs/Table.antt` computes them all at once.
use Rattle.std.specs.Prelude.{ℕ, List, [], ◌∷◌, ◌++◌, take, set, Result, Ok, Err}
use Rattle.sheet.specs.Reasons.{refused}
use Rattle.sheet.specs.declared.refusals.Reason.TheVariants.{SizeOutside, TermAbove, ValueOutside, LabelHigh, HeadWrong, SheetLarge, RowWrong, BytesLeft}
use Rattle.sheet.specs.declared.refusals.Refusal.{Refusal}
use Rattle.sheet_bytes.specs.declared.Head.{Head}

-- "One column, values 1, 2, 3, 4, labels 0, 1, 0, 1 of two, support 1, gap 0, error 2, bound 1,000,000"
abbrev pub worked : List ℕ
worked =
    72 ∷ 68 ∷ 4 ∷ 0 ∷ 1 ∷ 2 ∷ 1 ∷ 0 ∷ 0 ∷ 0 ∷ 0 ∷ 0 ∷ 2 ∷ 0 ∷ 0 ∷ 0 ∷ 64 ∷ 66 ∷ 15 ∷ 0
    ∷ 82 ∷ 87 ∷ 0 ∷ 0 ∷ 0 ∷ 0 ∷ 0 ∷ 0 ∷ 0 ∷ 240 ∷ 63
    ∷ 82 ∷ 87 ∷ 1 ∷ 0 ∷ 0 ∷ 0 ∷ 0 ∷ 0 ∷ 0 ∷ 0 ∷ 64
    ∷ 82 ∷ 87 ∷ 0 ∷ 0 ∷ 0 ∷ 0 ∷ 0 ∷ 0 ∷ 0 ∷ 8 ∷ 64
    ∷ 82 ∷ 87 ∷ 1 ∷ 0 ∷ 0 ∷ 0 ∷ 0 ∷ 0 ∷ 0 ∷ 16 ∷ 64
    ∷ []

abbrev pub worked_head : Head
worked_head =
    record { size = record { rows = 4; columns = 1; labels = 2 }; terms = record { support = 1; gap = 0; error = 2; bound = 1000000 } }

pub record ReadEntry : Type 0 where
  pub bytes : List ℕ
  pub answer : Result Head Refusal

unfoldable pub table_r : List ReadEntry
table_r =
    record { bytes = worked; answer = Ok worked_head }
    -- a header short, or mismarked
    ∷ record { bytes = take 19 worked; answer = Err (refused HeadWrong 0) }
    ∷ record { bytes = set worked 1 82; answer = Err (refused HeadWrong 0) }
    -- no rows
    ∷ record { bytes = set worked 2 0; answer = Err (refused SizeOutside 0) }
    -- 2,049 rows
    ∷ record { bytes = set (set worked 2 1) 3 8; answer = Err (refused SheetLarge 0) }
    -- the last row short: `REFUSED 22 place=3`
    ∷ record { bytes = take 63 worked; answer = Err (refused RowWrong 3) }
    -- a row with the header's mark
    ∷ record { bytes = set (set worked 31 72) 32 68; answer = Err (refused RowWrong 1) }
    -- a further byte
    ∷ record { bytes = worked ++ (0 ∷ []); answer = Err (refused BytesLeft 0) }
    -- a support of 4,097
    ∷ record { bytes = set (set worked 6 1) 7 16; answer = Err (refused TermAbove 0) }
    -- an infinity, and a NaN
    ∷ record { bytes = set (set worked 40 240) 41 127; answer = Err (refused ValueOutside 1) }
    ∷ record { bytes = set (set worked 40 248) 41 127; answer = Err (refused ValueOutside 1) }
    -- a label code of 2
    ∷ record { bytes = set worked 44 2; answer = Err (refused LabelHigh 2) }
    ∷ []
