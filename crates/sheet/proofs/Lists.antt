-- Laws of the test that two lists are the same. Assumes nothing.
use mathlib.Core.Path.{◌≡◌, refl, ap, ◌∙◌}
use Prim.Native.Nat.{ℕ}
use mathlib.Core.Bool.{not}
use mathlib.Core.List.{List, [], ◌∷◌}
use lib.Dec.{T, not_T, eqb, eqb→eq, eqb_refl}
use Rattle.basics.proofs.Choice.{and_left, and_right, and_both}
use Rattle.sheet.specs.Check.{same}

pub same_refl : (xs : List ℕ) → T (same xs xs)
unfolding same
same_refl [] = tt
same_refl (x ∷ xs) = and_both (eqb x x) (same xs xs) (eqb_refl x) (same_refl xs)

pub same_yes : (xs ys : List ℕ) → T (same xs ys) → xs ≡ ys
unfolding same
same_yes [] [] t = refl
same_yes [] (y ∷ ys) t = absurd t
same_yes (x ∷ xs) [] t = absurd t
same_yes (x ∷ xs) (y ∷ ys) t =
    ap (λ z. z ∷ xs) (eqb→eq x y (and_left (eqb x y) (same xs ys) t)) ∙ ap (λ l. y ∷ l) (same_yes xs ys (and_right (eqb x y) (same xs ys) t))

pub same_no : (xs ys : List ℕ) → (xs ≡ ys → ⊥) → T (not (same xs ys))
same_no xs ys f = not_T (same xs ys) (λ t. f (same_yes xs ys t))
