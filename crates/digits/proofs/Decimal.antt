-- How many decimal digits a number has: one more than the highest power of ten that is not above it, and one for 0. Assumes nothing.
use mathlib.Core.Path.{◌≡◌, sym}
use Prim.Native.Nat.{ℕ, suc, ◌+◌, ◌*◌, ◌^◌, ◌≤◌, ◌<◌}
use native.Mathlib.Omega.{arith}
use native.Mathlib.Nat.{pow-le-pow_right, pow-suc}
use lib.ListN.{length}
use lib.Dec.{ltb, lt→ltb, ltb→lt, not_T}
use Rattle.std.specs.Prelude.{Option, Some, None, IfSome, IfNone, unwrap_or}
use Rattle.basics.proofs.Walk.{walked, walk_unique}
use Rattle.digits.specs.Digits.{digits_in, decimal_of, most_places}
use Rattle.digits.proofs.Puts.{length_digits}

counted : (n power : ℕ) → power < most_places → ((j : ℕ) → j ≤ power → 1 ≤ j → 10 ^ j ≤ n) → n < 10 ^ (1 + power) → 1 + power ≡ digits_in n
unfolding digits_in
counted n power few low high =
    sym (walk_unique (λ k. ltb n (10 ^ k)) 19 1 (1 + power)
    (record {
      low = omega arith;
      high = omega arith;
      before = λ j a b. not_T (ltb n (10 ^ j)) (λ t. let h = low j (omega arith) a in omega (arith, ltb→lt n (10 ^ j) t));
      found = λ _. lt→ltb n (10 ^ (1 + power)) high;
    }))

-- by the logarithm, where n has one
pub places_by : (n : ℕ) (log : Option ℕ) → IfNone log (n ≡ 0) → IfSome log (λ k. 10 ^ k ≤ n) → IfSome log (λ k. n < 10 * 10 ^ k) → IfSome log (λ k. k < 20)
    → 1 + unwrap_or log 0 ≡ digits_in n
places_by n None zero low high few = counted n 0 (omega arith) (λ j a b. absurd (omega arith)) (omega arith)
places_by n (Some k) zero low high few =
    counted n k few (λ j a b. let h : 10 ^ j ≤ 10 ^ k = pow-le-pow_right {n = 10} (omega arith) a in omega arith)
    (let next : 1 + k ≡ suc k = omega arith in rw next (omega (arith, pow-suc 10 k)))

-- ---- the room that they take

pub places_most : (n : ℕ) → digits_in n ≤ most_places
unfolding digits_in
places_most n = (walked (λ k. ltb n (10 ^ k)) 19 1).high

pub decimal_most : (n : ℕ) → length (decimal_of n) ≤ most_places
unfolding decimal_of
decimal_most n = omega (arith, length_digits 10 (digits_in n) n, places_most n)
