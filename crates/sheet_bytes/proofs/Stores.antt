-- A list stored element by element from the front. Assumes nothing.
use mathlib.Core.Path.{◌≡◌, sym, ap, ◌∙◌, subst}
use Prim.Native.Nat.{ℕ, suc, ◌+◌, ◌≤◌, ◌<◌}
use native.Mathlib.Omega.{arith}
use native.Mathlib.Nat.{zero-add}
use mathlib.Core.List.{List, ◌++◌}
use lib.ListN.{length, drop, set}
use lib.Seq.{sets, sets-eq, drop-cons, drop-length}
use Rattle.basics.specs.Lists.{table}
use Rattle.basics.proofs.Lists.{get_d_table, length_table}

module _ {A : Type 0} (f : ℕ → A) (n : ℕ) (l : List A) where
  -- one more
  pub next : (i : ℕ) (d : A) → i < n → sets l i (drop i (table f n)) ≡ sets (set l i (f i)) (i + 1) (drop (i + 1) (table f n))
  next i d h =
      let e : suc i ≡ i + 1 = omega arith in
      let inside : i < length (table f n) = subst (λ (k : ℕ). i < k) (sym (length_table f n)) h in
      ap (sets l i) (drop-cons (table f n) i d inside)
      ∙ ap (λ (a : A). sets (set l i a) (suc i) (drop (suc i) (table f n))) (get_d_table f n i d h)
      ∙ ap (λ (k : ℕ). sets (set l i (f i)) k (drop k (table f n))) e

  pub none_left : (i : ℕ) → n ≤ i → i ≤ n → sets l i (drop i (table f n)) ≡ l
  none_left i h k =
      let e : i ≡ n = omega arith in
      ap (sets l i) (ap (λ (m : ℕ). drop m (table f n)) (e ∙ sym (length_table f n)) ∙ drop-length (table f n))

  pub in_front : n ≤ length l → sets l 0 (table f n) ≡ table f n ++ drop n l
  in_front h =
      sets-eq (table f n) l 0 (omega (arith, length_table f n))
      ∙ ap (λ (k : ℕ). table f n ++ drop k l) (zero-add (length (table f n)) ∙ length_table f n)
