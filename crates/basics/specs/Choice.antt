-- For a signer. A choice by a test, and what may be missing. Definitions only.
use Rattle.std.specs.Prelude.{ℕ, Bool, true, false}
use Rattle.std.proofs.Math.Option.{Option, none, some}

-- x where the test passes, else y
unfoldable pub pick {ℓ} : {X : Type ℓ} → Bool → X → X → X
pick true x y = x
pick false x y = y

-- 1 where the test passes, else 0
abbrev pub bit : Bool → ℕ
bit true = 1
bit false = 0

-- if there is one, it is such
abbrev pub Given {ℓ} : {A : Type ℓ} → (A → Type 0) → Option A → Type 0
Given P none = Unit {0}
Given P (some a) = P a

-- there is one, and it is such
abbrev pub Hit {ℓ} : {A : Type ℓ} → (A → Type 0) → Option A → Type 0
Hit P none = ⊥
Hit P (some a) = P a
