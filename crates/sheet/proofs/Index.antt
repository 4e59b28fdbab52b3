-- The index c·rows+i of sorted place i in column c, and what a search column by column says of the whole list. Assumes nothing.
use mathlib.Core.Path.{◌≡◌, sym, ap, ◌∙◌, subst}
use Prim.Native.Nat.{ℕ, ◌+◌, ◌-◌, ◌*◌, ◌/◌, ◌%◌, ◌≤◌, ◌<◌}
use native.Mathlib.Omega.{arith}
use native.Mathlib.Nat.{mul-add-div_right, div-eq_of_lt, mul-add-mod_self_right, mod-eq_of_lt, mul-le-mul_right, mul-le-mul, suc-mul}
use native.Mathlib.Numerals.{add-one}
use mathlib.Core.Bool.{Bool, not}
use lib.Dec.{T}
use Rattle.basics.proofs.Choice.{order}
use Rattle.std.specs.Prelude.{Option, Some, None}
use Rattle.basics.specs.Walk.{walk, place_among}
use Rattle.basics.proofs.Walk.{place_some, place_none}
use Rattle.sheet.specs.Sheet.{Sheet}
use Rattle.sheet.specs.Check.{at_index}
use Rattle.sheet.specs.Ready.{Shaped}
use Rattle.sheet.proofs.Search.{Clean, clean_found, clean_walk, walk_most, walk_bad}

-- a column of the sheet ends inside the lists
pub column_in : (rows columns c : ℕ) → c < columns → c * rows + rows ≤ columns * rows
column_in rows columns c h = omega (arith, mul-le-mul_right rows h, suc-mul c rows)

pub next_column : (rows c : ℕ) → (c + 1) * rows ≡ c * rows + rows
next_column rows c = rw add-one (suc-mul c rows)

pub cells_most : (rows columns : ℕ) → rows ≤ 4096 → columns ≤ 16 → columns * rows ≤ 65536
cells_most rows columns h g = mul-le-mul g h

-- a column's entries lie inside a list of rows×columns entries, which is short
pub record Room (rows c entries : ℕ) : Type 0 where
  pub inside : c * rows + rows ≤ entries
  pub small : entries ≤ 65536

pub room : {s : Sheet} {c : ℕ} → Shaped s → c < s.columns → (n : ℕ) → n ≡ s.columns * s.rows → Room s.rows c n
room {s} {c} shaped h n e =
    record {
      inside = omega (arith, column_in s.rows s.columns c h);
      small = omega (arith, cells_most s.rows s.columns shaped.limited.rows_most shaped.limited.columns_most);
    }

pub column_none : (bad : ℕ → ℕ → Bool) (rows : ℕ) → Clean (at_index bad rows) (0 * rows)
column_none bad rows = record { none = λ j h. absurd (omega arith) }

module _ (bad : ℕ → ℕ → Bool) {rows : ℕ} (some : 1 ≤ rows) (c : ℕ) where
  quotient : (i : ℕ) → i < rows → (c * rows + i) / rows ≡ c
  quotient i h = mul-add-div_right some c i ∙ ap (λ (q : ℕ). c + q) (div-eq_of_lt h) ∙ (omega arith)

  remainder : (i : ℕ) → i < rows → (c * rows + i) % rows ≡ i
  remainder i h = mul-add-mod_self_right c rows i ∙ mod-eq_of_lt h

  pub at_column : (i : ℕ) → i < rows → bad c i ≡ at_index bad rows (c * rows + i)
  at_column i h =
      sym (ap (λ (q : ℕ). bad q ((c * rows + i) % rows)) (quotient i h) ∙ ap (λ (r : ℕ). bad c r) (remainder i h))

  -- places before the column, and places of it
  pub clean_column : (i : ℕ) → i ≤ rows → Clean (at_index bad rows) (c * rows) → Clean (bad c) i → Clean (at_index bad rows) (c * rows + i)
  clean_column i h past here =
      record {
        none = λ j l.
            order (c * rows) j
            (λ g.
            let k : ℕ = j - c * rows in
            let e : c * rows + k ≡ j = omega arith in
            subst (λ n. T (not (at_index bad rows n))) e
            (subst (λ b. T (not b)) (at_column k (omega arith)) (here.none k (omega arith))))
            (λ g. past.none j g);
      }

  module _ (place : Option ℕ) (is : place ≡ place_among rows (walk (bad c) rows 0)) (past : Clean (at_index bad rows) (c * rows)) where
    -- a search of the column that found a place, and one that found none
    pub column_found : (columns p : ℕ) → c < columns → place ≡ Some p
        → Some (c * rows + p) ≡ place_among (columns * rows) (walk (at_index bad rows) (columns * rows) 0)
    column_found columns p h e =
        let w = place_some rows (walk (bad c) rows 0) p (sym is ∙ e) in
        clean_found (clean_column p (omega (arith, w.0, w.1)) past (subst (λ n. Clean (bad c) n) w.0 (clean_walk (bad c) rows)))
        (omega (arith, column_in rows columns c h, w.0, w.1))
        (subst (λ b. T b) (at_column p (omega (arith, w.0, w.1))) (subst (λ n. T (bad c n)) w.0 (walk_bad (bad c) rows w.1)))

    pub column_passed : place ≡ None → Clean (at_index bad rows) ((c + 1) * rows)
    column_passed e =
        let w : walk (bad c) rows 0 ≡ rows = omega (arith, place_none rows (walk (bad c) rows 0) (sym is ∙ e), walk_most (bad c) rows) in
        subst (λ n. Clean (at_index bad rows) n) (sym (next_column rows c))
        (clean_column rows (omega arith) past (subst (λ n. Clean (bad c) n) w (clean_walk (bad c) rows)))
