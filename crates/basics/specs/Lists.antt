-- For a signer. Members, sums and counts of a list. Definitions only.
use Rattle.std.specs.Prelude.{ℕ, zero, suc, ◌+◌, Bool, List, [], ◌∷◌}
use Rattle.basics.specs.Choice.{pick, bit}

-- every member is such
abbrev pub All {ℓ} : {A : Type ℓ} → (A → Type 0) → List A → Type 0
All P [] = Unit {0}
All P (x ∷ xs) = P x × All P xs

-- some member is such
pub data Any {ℓ} {A : Type ℓ} (P : A → Type 0) : List A → Type ℓ where
  here : {x : A} {xs : List A} → P x → Any P (x ∷ xs)
  there : {x : A} {xs : List A} → Any P xs → Any P (x ∷ xs)

-- the sum of a measure over the members
abbrev pub total {ℓ} : {A : Type ℓ} → (A → ℕ) → List A → ℕ
total W [] = 0
total W (x ∷ xs) = W x + total W xs

-- how many members pass
abbrev pub tally {ℓ} : {A : Type ℓ} → (A → Bool) → List A → ℕ
tally p [] = 0
tally p (x ∷ xs) = bit (p x) + tally p xs

-- the members that pass, in their order
abbrev pub those {ℓ} : {A : Type ℓ} → (A → Bool) → List A → List A
those p [] = []
those p (x ∷ xs) = let r = those p xs in pick (p x) (x ∷ r) r

-- f 0, .., f (n − 1)
abbrev pub table {ℓ} : {A : Type ℓ} → (ℕ → A) → ℕ → List A
table f zero = []
table f (suc n) = f 0 ∷ table (λ k. f (suc k)) n
