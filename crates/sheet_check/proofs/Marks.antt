-- Rows met so far in a column, by their marks: a row's word holds the column's mark exactly if it was met. Assumes nothing.
use mathlib.Core.Path.{◌≡◌, sym, ap, ◌∙◌, subst}
use Prim.Native.Nat.{ℕ, ◌+◌, ◌≤◌, ◌<◌}
use native.Mathlib.Omega.{arith}
use mathlib.Core.Bool.{not}
use mathlib.Core.List.{List}
use lib.ListN.{length, get_or, set, drop, replicate, length-append, length-drop, length-replicate, get_or-replicate, get_or-eq_default, get_or-append}
use lib.Seq.{get_or-set_same, get_or-set_other}
use lib.Dec.{T, not_T, leb, leb→le, le→leb}
use Rattle.basics.proofs.Choice.{order, reach, or_left, or_right, nor_both}
use Rattle.sheet.specs.Sheet.{Sheet, row_at}
use Rattle.sheet.specs.Check.{met, bad_order, cleared}
use Rattle.sheet.proofs.MetBefore.{met_yes, met_no}

-- cleared words are 0
pub zeros : (n : ℕ) (marks : List ℕ) → length marks ≡ n → (r : ℕ) → get_or (cleared n marks) r 0 ≤ 0
zeros n marks e r =
    order n r
    (λ h. omega (arith, get_or-eq_default (cleared n marks) 0 {n = r} (simp (length-append, length-replicate, length-drop) (omega arith))))
    (λ h. omega (arith, get_or-append {A = ℕ} (replicate n 0) (drop n marks) 0 r (simp length-replicate h), get_or-replicate {A = ℕ} n r 0 0 h))

-- the same number or another
same_or {ℓ} : {X : Type ℓ} (a b : ℕ) → (a ≡ b → X) → ((a ≡ b → ⊥) → X) → X
same_or a b f g =
    order a b (λ l. reach a b l f (λ h. g (λ e. absurd (omega arith)))) (λ h. g (λ e. absurd (omega arith)))

pub record Marks (s : Sheet) (c i mark : ℕ) (marks : List ℕ) : Type 0 where
  pub most : (r : ℕ) → get_or marks r 0 ≤ mark
  pub here : (j : ℕ) → j < i → get_or marks (row_at s c j) 0 ≡ mark
  pub only : (r : ℕ) → get_or marks r 0 ≡ mark → (j : ℕ) × (j < i) × (row_at s c j ≡ r)

pub marks_none : (s : Sheet) (c mark : ℕ) (marks : List ℕ) → ((r : ℕ) → get_or marks r 0 < mark) → Marks s c 0 mark marks
marks_none s c mark marks f =
    record {
      most = λ r. omega (arith, f r);
      here = λ j h. absurd (omega arith);
      only = λ r e. absurd (omega (arith, f r));
    }

module _ (s : Sheet) (c i mark : ℕ) (marks : List ℕ) (m : Marks s c i mark marks) (row : ℕ) (e : row ≡ row_at s c i) where
  pub bad_high : s.rows ≤ row → T (bad_order s c i)
  unfolding bad_order
  bad_high h = or_left (leb s.rows (row_at s c i)) (met s c i) (le→leb s.rows (row_at s c i) (omega arith))

  pub bad_met : get_or marks row 0 ≡ mark → T (bad_order s c i)
  unfolding bad_order
  bad_met h =
      let w = m.only row h in
      or_right (leb s.rows (row_at s c i)) (met s c i) (met_yes s c i w.0 w.1 (w.2 ∙ e))

  pub good : row < s.rows → (get_or marks row 0 ≡ mark → ⊥) → T (not (bad_order s c i))
  unfolding bad_order
  good h f =
      nor_both (leb s.rows (row_at s c i)) (met s c i)
      (not_T (leb s.rows (row_at s c i)) (λ t. absurd (omega (arith, leb→le s.rows (row_at s c i) t))))
      (met_no s c i (λ j l g. f (ap (λ (x : ℕ). get_or marks x 0) (e ∙ sym g) ∙ m.here j l)))

  pub marks_more : row < length marks → Marks s c (i + 1) mark (set marks row mark)
  marks_more l =
      record {
        most = λ r.
            same_or r row
            (λ q. subst (λ x. get_or (set marks row mark) x 0 ≤ mark) (sym q) (omega (arith, get_or-set_same marks row mark 0 l)))
            (λ q. omega (arith, get_or-set_other marks row r mark 0 q, m.most r));
        here = λ j h.
            same_or (row_at s c j) row
            (λ q. subst (λ x. get_or (set marks row mark) x 0 ≡ mark) (sym q) (get_or-set_same marks row mark 0 l))
            (λ q. get_or-set_other marks row (row_at s c j) mark 0 q
            ∙ reach j i (omega arith) (λ p. absurd (q (ap (λ (x : ℕ). row_at s c x) p ∙ sym e))) (λ p. m.here j p));
        only = λ r h.
            same_or r row
            (λ q. (i, omega arith, sym e ∙ sym q))
            (λ q. let w = m.only r (sym (get_or-set_other marks row r mark 0 q) ∙ h) in (w.0, omega (arith, w.1), w.2));
      }
