-- Counts of a list and of a sheet's rows. Assumes nothing.
use mathlib.Core.Path.{◌≡◌, refl, sym}
use Prim.Native.Nat.{ℕ, ◌+◌, ◌≤◌, ◌<◌}
use native.Mathlib.Omega.{arith}
use mathlib.Core.Bool.{Bool, true, false, not, ◌&&◌}
use mathlib.Core.List.{List, [], ◌∷◌}
use lib.ListN.{length}
use Rattle.basics.specs.Choice.{bit}
use Rattle.basics.specs.Lists.{All, tally}
use Rattle.basics.proofs.Lists.{tally_parts}
use Rattle.basics.proofs.Choice.{bit_parts}
use Rattle.sheet.specs.Sheet.{Sheet, every_row}
pub use Rattle.leaves_score.proofs.Marks.{rows_alike}
use Rattle.side_laws.proofs.Fair.{all_table}

pub tally_not {ℓ} : {A : Type ℓ} (q : A → Bool) (xs : List A) → tally q xs + tally (λ x. not (q x)) xs ≡ length xs
tally_not q [] = refl
tally_not q (x ∷ xs) = omega (arith, one (q x), tally_not q xs)
  where
    one : (b : Bool) → bit b + bit (not b) ≡ 1
    one true = refl
    one false = refl

pub tally_always {ℓ} : {A : Type ℓ} (xs : List A) → tally (λ _. true) xs ≡ length xs
tally_always [] = refl
tally_always (x ∷ xs) = omega (arith, tally_always xs)

tally_shift : (p q u v : ℕ → Bool) (xs : List ℕ) → All (λ r. bit (p r) + bit (q r) ≤ bit (u r) + bit (v r)) xs
    → tally p xs + tally q xs ≤ tally u xs + tally v xs
tally_shift p q u v [] h = omega arith
tally_shift p q u v (x ∷ xs) h = omega (arith, h.0, tally_shift p q u v xs h.1)

pub rows_shift : (s : Sheet) (p q u v : ℕ → Bool) → ((r : ℕ) → r < s.rows → bit (p r) + bit (q r) ≤ bit (u r) + bit (v r))
    → tally p (every_row s) + tally q (every_row s) ≤ tally u (every_row s) + tally v (every_row s)
rows_shift s p q u v h =
    tally_shift p q u v (every_row s) (all_table (λ r. bit (p r) + bit (q r) ≤ bit (u r) + bit (v r)) (λ r. r) s.rows h)

-- the rows of a set, by a question
pub both_parts : (s : Sheet) (mine q : ℕ → Bool)
    → tally (λ r. mine r && q r) (every_row s) + tally (λ r. mine r && not (q r)) (every_row s) ≡ tally mine (every_row s)
both_parts s mine q = sym (tally_parts (λ r. mine r && q r) (λ r. mine r && not (q r)) mine (λ r. bit_parts (mine r) (q r)) (every_row s))
