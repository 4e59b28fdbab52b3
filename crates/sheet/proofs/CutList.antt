-- The cuts of a column before a place, and before the next. Assumes nothing.
use mathlib.Core.Path.{◌≡◌, refl, ap, ◌∙◌}
use Prim.Native.Nat.{ℕ, ◌+◌}
use mathlib.Core.Bool.{not}
use mathlib.Core.List.{List, [], ◌∷◌, ◌++◌}
use lib.Dec.{T}
use Rattle.basics.specs.Lists.{those, table}
use Rattle.basics.proofs.Choice.{pick_true, pick_false}
use Rattle.basics.proofs.Lists.{table_more, those_append}
use Rattle.sheet.specs.Sheet.{Sheet, is_cut}

module _ (s : Sheet) (c : ℕ) where
  -- the cuts before place i
  abbrev pub cuts_to : ℕ → List ℕ
  cuts_to i = those (is_cut s c) (table (λ r. r) i)

  pub cuts_skip : (i : ℕ) → T (not (is_cut s c i)) → cuts_to (i + 1) ≡ cuts_to i
  cuts_skip i t =
      ap (λ l. those (is_cut s c) l) (table_more (λ r. r) i)
      ∙ those_append (is_cut s c) (table (λ r. r) i) (i ∷ [])
      ∙ ap (λ l. cuts_to i ++ l) (pick_false (is_cut s c i) (i ∷ []) [] t)
      ∙ append_nil_lem (cuts_to i)
    where
      append_nil_lem : (xs : List ℕ) → xs ++ [] ≡ xs
      append_nil_lem [] = refl
      append_nil_lem (x ∷ xs) = ap (λ l. x ∷ l) (append_nil_lem xs)

  pub cuts_take : (i : ℕ) → T (is_cut s c i) → cuts_to (i + 1) ≡ cuts_to i ++ (i ∷ [])
  cuts_take i t =
      ap (λ l. those (is_cut s c) l) (table_more (λ r. r) i)
      ∙ those_append (is_cut s c) (table (λ r. r) i) (i ∷ [])
      ∙ ap (λ l. cuts_to i ++ l) (pick_true (is_cut s c i) (i ∷ []) [] t)
