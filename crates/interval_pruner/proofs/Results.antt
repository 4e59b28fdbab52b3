-- What a result leaves behind: the table has the new errors at the cut and the old ones elsewhere, and the marks name cuts that were tried. Assumes nothing.
use mathlib.Core.Path.{◌≡◌, ◌∙◌, subst}
use Prim.Native.Nat.{ℕ, ◌+◌, ◌*◌, ◌<◌, max, min}
use native.Mathlib.Omega.{arith}
use mathlib.Core.List.{List}
use lib.ListN.{length, get_or, set, length-set}
use lib.Seq.{get_or-set_same, get_or-set_other}
use lib.Dec.{eqb}
use Rattle.basics.proofs.Choice.{by_test, order}
use Rattle.std.specs.Prelude.{Option, Some, None}
use Rattle.interval_pruner.specs.declared.Zeros.{Zeros}
use Rattle.interval_pruner.specs.Column.{recorded}
use Rattle.interval_pruner.specs.Pruner.{Held, highest_zero, lowest_zero, zeros_after, recorded_after}

-- ---- the table

module _ (table : List ℕ) (k left right : ℕ) where
  pub recorded_length : length (recorded_after table k left right) ≡ length table
  unfolding recorded_after
  recorded_length = simp length-set

  pub recorded_here : 2 * k + 1 < length table → recorded (recorded_after table k left right) k ≡ (left, right)
  unfolding recorded_after recorded
  recorded_here h =
      let once : List ℕ = set table (2 * k) left in
      let l : get_or (set once (2 * k + 1) right) (2 * k) 0 ≡ left =
      get_or-set_other once (2 * k + 1) (2 * k) right 0 (λ q. omega arith) ∙ get_or-set_same table (2 * k) left 0 (omega arith) in
      let r : get_or (set once (2 * k + 1) right) (2 * k + 1) 0 ≡ right =
      get_or-set_same once (2 * k + 1) right 0 (omega (arith, length-set table (2 * k) left)) in
      λ i. (l i, r i)

  pub recorded_other : (j : ℕ) → (j ≡ k → ⊥) → recorded (recorded_after table k left right) j ≡ recorded table j
  unfolding recorded_after recorded
  recorded_other j h =
      let once : List ℕ = set table (2 * k) left in
      let l : get_or (set once (2 * k + 1) right) (2 * j) 0 ≡ get_or table (2 * j) 0 =
      get_or-set_other once (2 * k + 1) (2 * j) right 0 (λ q. omega arith) ∙
      get_or-set_other table (2 * k) (2 * j) left 0 (λ q. h (omega arith)) in
      let r : get_or (set once (2 * k + 1) right) (2 * j + 1) 0 ≡ get_or table (2 * j + 1) 0 =
      get_or-set_other once (2 * k + 1) (2 * j + 1) right 0 (λ q. h (omega arith)) ∙
      get_or-set_other table (2 * k) (2 * j + 1) left 0 (λ q. omega arith) in
      λ i. (l i, r i)

-- ---- the marks

pub max_either : (P : ℕ → Type 0) (a b : ℕ) → P a → P b → P (max a b)
max_either P a b h g = order a b (λ l. subst P (omega arith) g) (λ l. subst P (omega arith) h)

pub min_either : (P : ℕ → Type 0) (a b : ℕ) → P a → P b → P (min a b)
min_either P a b h g = order a b (λ l. subst P (omega arith) h) (λ l. subst P (omega arith) g)

module _ (P : ℕ → Type 0) (k : ℕ) (h : P k) where
  highest_held : (t : Option ℕ) → Held P t → Held P (highest_zero k t)
  unfolding highest_zero
  highest_held None p = h
  highest_held (Some z) p = max_either P z k p h

  lowest_held : (t : Option ℕ) → Held P t → Held P (lowest_zero k t)
  unfolding lowest_zero
  lowest_held None p = h
  lowest_held (Some z) p = min_either P z k p h

  -- what holds of the marked cuts and of the tried one holds of those marked afterwards
  pub left_held : (z : Zeros) (left right : ℕ) → Held P z.left → Held P (zeros_after z k left right).left
  unfolding zeros_after
  left_held z left right p = by_test (Held P) (eqb left 0) (λ _. highest_held z.left p) (λ _. p)

  pub right_held : (z : Zeros) (left right : ℕ) → Held P z.right → Held P (zeros_after z k left right).right
  unfolding zeros_after
  right_held z left right p = by_test (Held P) (eqb right 0) (λ _. lowest_held z.right p) (λ _. p)
