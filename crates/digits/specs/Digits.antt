-- For a signer. Numbers as text: decimal without a leading zero, and sixteen hex digits. Definitions only.
use Rattle.std.specs.Prelude.{ℕ, zero, suc, ◌+◌, ◌/◌, ◌%◌, ◌^◌, List, [], ◌∷◌, ◌++◌, ltb}
use Rattle.basics.specs.Choice.{pick}
use Rattle.basics.specs.Walk.{walk}

-- the ASCII code of a digit below 16: `0` to `9` from 48 on, then `A` to `F` from 65 on
unfoldable pub digit_of : ℕ → ℕ
digit_of d = pick (ltb d 10) (48 + d) (55 + d)

-- the last `count` digits of n in a base, the most significant first
abbrev pub digits_of : ℕ → ℕ → ℕ → List ℕ
digits_of base zero n = []
digits_of base (suc count) n = digits_of base count (n / base) ++ (digit_of (n % base) ∷ [])

-- the decimal digits of the largest u64
abbrev pub most_places : ℕ
most_places = 20

-- the fewest decimal digits that hold n, one at least: the first k from 1 on with n below 10 ^ k, sought up to that many
unfoldable pub digits_in : ℕ → ℕ
digits_in n = walk (λ k. ltb n (10 ^ k)) 19 1

unfoldable pub decimal_of : ℕ → List ℕ
decimal_of n = digits_of 10 (digits_in n) n

-- a double's bits are sixteen hex digits
abbrev pub hex_places : ℕ
hex_places = 16

unfoldable pub hex_of : ℕ → List ℕ
hex_of bits = digits_of 16 hex_places bits
