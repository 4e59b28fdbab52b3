-- For a signer. What written numbers say, as statements; `proofs/` proves each.
use Rattle.std.specs.Prelude.{◌≡◌, ℕ, ◌+◌, ◌-◌, ◌*◌, ◌^◌, ◌<◌, List, [], ◌∷◌, length, get_or, ltb}
use Rattle.std.specs.Float.{nan, binary64}
use Rattle.std.specs.Float.Ieee.{to_bits}
use Rattle.basics.specs.Choice.{pick}
use Rattle.digits.specs.Digits.{decimal_of, hex_of, most_places, hex_places}

-- the digit that an ASCII code stands for, and the number that digits say in a base, the most significant first
unfoldable pub digit_said : ℕ → ℕ
digit_said code = pick (ltb code 65) (code - 48) (code - 55)

abbrev pub number_said : ℕ → ℕ → List ℕ → ℕ
number_said base before [] = before
number_said base before (code ∷ codes) = number_said base (before * base + digit_said code) codes

-- decimal digits say the number, every u64 among them, and none is a leading zero
abbrev pub DecimalSays : Type 0
DecimalSays = (n : ℕ) → n < 10 ^ most_places → number_said 10 0 (decimal_of n) ≡ n

abbrev pub NoLeadingZero : Type 0
NoLeadingZero = (n : ℕ) → n < 10 ^ most_places → 1 < length (decimal_of n) → get_or (decimal_of n) 0 0 ≡ 48 → ⊥

-- sixteen hex digits say a double's bits
abbrev pub HexSays : Type 0
HexSays = (bits : ℕ) → bits < 2 ^ 64 → (number_said 16 0 (hex_of bits) ≡ bits) × (length (hex_of bits) ≡ hex_places)

-- the bits that a NaN prints as
abbrev pub NanBits : Type 0
NanBits = to_bits binary64 nan ≡ 0x7FF8000000000000
