-- For a signer. A sheet's bytes, as a house writes them (document 01, "Program (added)"), and that reading them gives the sheet back.
-- Definitions and statements.
use Rattle.std.specs.Prelude.{◌≡◌, ℕ, zero, suc, ◌+◌, ◌*◌, ◌/◌, ◌%◌, ◌<◌, not, List, [], ◌∷◌, ◌++◌, length, get_or, T, Float, Ok}
use Rattle.std.specs.Float.{nan, binary64}
use Rattle.std.specs.Float.Ieee.{to_bits}
use Rattle.threshold.specs.Laws.{Measured}
use Rattle.sheet_bytes.specs.Room.{value_size}
use Rattle.sheet_bytes.specs.declared.Head.{Head}
use Rattle.sheet_bytes.specs.Bytes.{head_mark, row_mark}
use Rattle.sheet_bytes.specs.Read.{head_cells, size_bad, too_large, terms_bad, read_of, values_of, codes_of}

-- "little-endian": a number in `width` bytes, the least first
abbrev pub bytes_of : ℕ → ℕ → List ℕ
bytes_of zero n = []
bytes_of (suc width) n = n % 256 ∷ bytes_of width (n / 256)

-- f 0, .., f (n − 1), one after the other
abbrev pub in_turn : (ℕ → List ℕ) → ℕ → List ℕ
in_turn f zero = []
in_turn f (suc n) = f 0 ++ in_turn (λ k. f (suc k)) n

-- "`HD`: rows u16, columns u8, labels u8, support u16, gap u32, error u32, bound u32."
unfoldable pub head_bytes : Head → List ℕ
head_bytes h =
    head_mark.first
    ∷ head_mark.second
    ∷ (bytes_of 2 h.size.rows
    ++ bytes_of 1 h.size.columns
    ++ bytes_of 1 h.size.labels
    ++ bytes_of 2 h.terms.support
    ++ bytes_of 4 h.terms.gap
    ++ bytes_of 4 h.terms.error
    ++ bytes_of 4 h.terms.bound)

-- "Then per row `RW`: label u8, then the columns' f64 bits."
unfoldable pub row_bytes : Head → List Float → List ℕ → ℕ → List ℕ
row_bytes h values codes row =
    row_mark.first
    ∷ row_mark.second
    ∷ get_or codes row 0
    ∷ in_turn (λ column. bytes_of value_size (to_bits binary64 (get_or values (column * h.size.rows + row) nan))) h.size.columns

unfoldable pub encode_of : Head → List Float → List ℕ → List ℕ
encode_of h values codes = head_bytes h ++ in_turn (row_bytes h values codes) h.size.rows

-- a sheet within the limits
pub record WithinLimits (h : Head) (values : List Float) (codes : List ℕ) : Type 0 where
  pub size_good : T (not (size_bad h))
  pub not_large : T (not (too_large h))
  pub terms_good : T (not (terms_bad h))
  pub cells : length values ≡ head_cells h
  pub rows : length codes ≡ h.size.rows
  pub measured : (index : ℕ) → index < head_cells h → Measured (get_or values index nan)
  pub coded : (row : ℕ) → row < h.size.rows → get_or codes row 0 < h.size.labels

-- bytes that are accepted, and say just this sheet
pub record Decodes (bytes : List ℕ) (h : Head) (values : List Float) (codes : List ℕ) : Type 0 where
  pub taken : read_of bytes ≡ Ok h
  pub values_back : values_of bytes h ≡ values
  pub codes_back : codes_of bytes h ≡ codes

-- every sheet within the limits, encoded, is accepted and decodes to itself
abbrev pub RoundTrip : Type 0
RoundTrip = (h : Head) (values : List Float) (codes : List ℕ) → WithinLimits h values codes → Decodes (encode_of h values codes) h values codes

-- what is accepted decodes to these numbers: bytes that are accepted are just the encoding of what they decode to
abbrev pub Exact : Type 0
Exact =
    (bytes : List ℕ) (h : Head) → ((at : ℕ) → get_or bytes at 0 < 256) → read_of bytes ≡ Ok h
    → encode_of h (values_of bytes h) (codes_of bytes h) ≡ bytes
