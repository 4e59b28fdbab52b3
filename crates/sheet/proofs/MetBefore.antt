-- A row met before in its column, by a plain statement. Assumes nothing.
use mathlib.Core.Path.{◌≡◌, subst}
use Prim.Native.Nat.{ℕ, ◌<◌}
use native.Mathlib.Omega.{arith}
use mathlib.Core.Bool.{Bool, not}
use lib.Dec.{T, T_not, not_T, ltb, eqb, ltb→lt, lt→ltb, eqb→eq, eqb_refl}
use Rattle.basics.proofs.Choice.{order}
use Rattle.basics.specs.Walk.{walk}
use Rattle.basics.proofs.Walk.{walked}
use Rattle.sheet.specs.Sheet.{Sheet, row_at}
use Rattle.sheet.specs.Check.{met}

module _ (s : Sheet) (c i : ℕ) where
  abbrev alike : ℕ → Bool
  alike j = eqb (row_at s c j) (row_at s c i)

  pub met_yes : (j : ℕ) → j < i → row_at s c j ≡ row_at s c i → T (met s c i)
  unfolding met
  met_yes j h e =
      lt→ltb (walk alike i 0) i
      (order (walk alike i 0) j (λ l. omega arith)
      (λ g.
      absurd
      (T_not (alike j) ((walked alike i 0).before j (omega arith) g) (subst (λ x. T (eqb (row_at s c j) x)) e (eqb_refl (row_at s c j))))))

  pub met_no : ((j : ℕ) → j < i → row_at s c j ≡ row_at s c i → ⊥) → T (not (met s c i))
  unfolding met
  met_no f =
      not_T (ltb (walk alike i 0) i)
      (λ t.
      let h : walk alike i 0 < i = ltb→lt (walk alike i 0) i t in
      f (walk alike i 0) h (eqb→eq (row_at s c (walk alike i 0)) (row_at s c i) ((walked alike i 0).found (omega arith))))

  pub met_where : T (met s c i) → (j : ℕ) × (j < i) × (row_at s c j ≡ row_at s c i)
  unfolding met
  met_where t =
      let h : walk alike i 0 < i = ltb→lt (walk alike i 0) i t in
      (walk alike i 0, h, eqb→eq (row_at s c (walk alike i 0)) (row_at s c i) ((walked alike i 0).found (omega arith)))
