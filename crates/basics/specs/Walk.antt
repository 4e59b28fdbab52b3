-- For a signer. The first number that passes a test, by a plain walk. Definitions only.
use Rattle.std.specs.Prelude.{ℕ, zero, suc, ◌+◌, ◌≤◌, ◌<◌, Bool, not, T, ltb, Option, Some, None}
use Rattle.basics.specs.Choice.{pick}

-- the first of the n numbers from k on that passes; k + n if none does
unfoldable pub walk : (ℕ → Bool) → ℕ → ℕ → ℕ
walk ok zero k = k
walk ok (suc n) k = let r = walk ok n (suc k) in pick (ok k) k r

-- the same by a plain statement: none before r passes, and r does, unless it is past the last
pub record Walked (ok : ℕ → Bool) (n k r : ℕ) : Type 0 where
  pub low : k ≤ r
  pub high : r ≤ k + n
  pub before : (j : ℕ) → k ≤ j → j < r → T (not (ok j))
  pub found : r < k + n → T (ok r)

-- a place where it is one of the first n, as a walk's answer is that passed over none of them
abbrev pub place_among : ℕ → ℕ → Option ℕ
place_among n place = pick (ltb place n) (Some place) None
