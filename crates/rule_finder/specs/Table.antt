-- For a signer. The listings that document 01 prints, each from the bytes of its sheet. Definitions only; `proofs/Table.antt` computes them
-- all at once.
use Rattle.std.specs.Prelude.{ℕ, List, [], ◌∷◌, take, set}
use Rattle.sheet_bytes.specs.Table.{worked}
use Rattle.listing.specs.Table as listing

pub record RunEntry : Type 0 where
  pub bytes : List ℕ
  pub text : List ℕ

unfoldable pub table_p : List RunEntry
table_p =
    -- T5, "prints in full": `FOUND error=0 column=0 at=4004000000000000 tried=1`, with two lines `SPLIT`
    record { bytes = worked; text = (listing.entry1).text }
    -- T8, support 2 and starting error 3: `FOUND error=2 column=0 at=4004000000000000 tried=1`, with two lines `LEAF`
    ∷ record { bytes = set (set worked 6 2) 12 3; text = (listing.entry2).text }
    -- T6, gap 2: `KEPT error=2 tried=0`
    ∷ record { bytes = set worked 8 2; text = (listing.entry3).text }
    -- the last row short: `REFUSED 22 place=3`
    ∷ record { bytes = take 63 worked; text = (listing.entry4).text }
    ∷ []
