-- For a signer. Numbers and marks in bytes (document 01, "Program (added)"): "little-endian, each record after a two-byte mark". Definitions
-- only.
use Rattle.std.specs.Prelude.{ℕ, zero, suc, ◌+◌, ◌*◌, Bool, ◌&&◌, List, get_or, eqb}

-- the byte at a place, 0 past the end
abbrev pub byte_at : List ℕ → ℕ → ℕ
byte_at bytes at = get_or bytes at 0

-- the number in `width` bytes from a place on, the least byte first
unfoldable pub number_at : ℕ → List ℕ → ℕ → ℕ
number_at zero bytes at = 0
number_at (suc width) bytes at = byte_at bytes at + 256 * number_at width bytes (suc at)

-- a two-byte mark, in ASCII
abbrev pub mark_size : ℕ
mark_size = 2

pub record Mark : Type 0 where
  pub first : ℕ
  pub second : ℕ

-- `HD`
abbrev pub head_mark : Mark
head_mark = record { first = 72; second = 68 }

-- `RW`
abbrev pub row_mark : Mark
row_mark = record { first = 82; second = 87 }

unfoldable pub marked : Mark → List ℕ → ℕ → Bool
marked mark bytes at = eqb (byte_at bytes at) mark.first && eqb (byte_at bytes (at + 1)) mark.second
