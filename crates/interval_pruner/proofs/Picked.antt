-- A choice by a test whose value is known. Assumes nothing.
use mathlib.Core.Path.{◌≡◌, ap}
use mathlib.Core.Bool.{Bool, true, false}
use Rattle.basics.specs.Choice.{pick}

module _ {ℓ} {X : Type ℓ} (b : Bool) (x y : X) where
  pub pick_yes : b ≡ true → pick b x y ≡ x
  unfolding pick
  pick_yes e = ap (λ (t : Bool). pick t x y) e

  pub pick_no : b ≡ false → pick b x y ≡ y
  unfolding pick
  pick_no e = ap (λ (t : Bool). pick t x y) e
