-- Finding cuts: the cuts among the first places, and then one place more. Assumes nothing.
use mathlib.Core.Path.{◌≡◌, refl, sym, ap, ◌∙◌}
use Prim.Native.Nat.{ℕ, zero, suc, ◌+◌, ◌-◌, ◌≤◌, ◌<◌}
use native.Mathlib.Omega.{arith}
use native.Mathlib.Numerals.{add-one}
use mathlib.Core.Bool.{Bool, true, false, not, ◌&&◌}
use mathlib.Core.List.{List, [], ◌∷◌, ◌++◌, append_assoc}
use lib.ListN.{length, get_or, take, drop, set, replicate, length-append, length-set}
use lib.Seq.{drop-cons, set_at, take_at}
use lib.Dec.{T, leb-zero, leb-suc-suc}
use lib.Ieee.{Float, nan, lt}
use borrow.Rule.Slice.PartMut.{put_mid, mid_of}
use Rattle.basics.specs.Lists.{those}
use Rattle.basics.proofs.Choice.{pick_false}
use Rattle.basics.proofs.Lists.{all_at}
use Rattle.row_sort.specs.Sorting.{rows_from}
use Rattle.prepare.specs.Lists.{row_is_cut, cuts_along, padded}
use Rattle.prepare.specs.ListSteps.{Ordering}
use Rattle.row_sort.proofs.Rows.{one_row, those_more, those_same}
use Rattle.row_sort.proofs.Parts.{put_tail, length_tail}

module _ (column : List Float) (order : List ℕ) where
  -- the first place is no cut; another one is as its test says
  pub no_cut : T (not (row_is_cut column order 0))
  unfolding row_is_cut
  no_cut = tt

  abbrev rise : ℕ → Bool
  rise i = lt (get_or column (get_or order (i - 1) 0) nan) (get_or column (get_or order i 0) nan)

  cut_is : (i : ℕ) → 1 ≤ i → row_is_cut column order i ≡ rise i
  unfolding row_is_cut
  cut_is zero h = absurd (omega arith)
  cut_is (suc i) h = ap (λ (b : Bool). b && rise (suc i)) (leb-suc-suc 0 i ∙ leb-zero i)

  abbrev P : ℕ → List ℕ
  P i = those (row_is_cut column order) (rows_from 0 i)

-- the places below i are looked at
pub record Cutting (column : List Float) (order old new : List ℕ) (count i : ℕ) : Type 0 where
  pub low : 1 ≤ i
  pub high : i ≤ length order
  pub long : length new ≡ length old
  pub counted : count ≡ length (those (row_is_cut column order) (rows_from 0 i))
  pub fewer : count < i
  pub words : new ≡ those (row_is_cut column order) (rows_from 0 i) ++ drop count old

module _ (column : List Float) (order old : List ℕ) (O : Ordering column order old) where
  none_yet : P column order 1 ≡ []
  none_yet = ap (those (row_is_cut column order)) (one_row 0) ∙ pick_false (row_is_cut column order 0) (0 ∷ []) [] (no_cut column order)

  pub start : Cutting column order old old 0 1
  start =
      record {
        low = omega arith;
        high = O.some_row;
        long = refl;
        counted = sym (ap length none_yet);
        fewer = omega arith;
        words = sym (ap (λ (l : List ℕ). l ++ old) none_yet);
      }

  module _ (new : List ℕ) (count i : ℕ) (m : Cutting column order old new count i) (h : i < length order) where
    pub cut : rise column order i ≡ true → Cutting column order old (set new count i) (count + 1) (i + 1)
    cut t =
        let e = those_more (row_is_cut column order) i (rw (cut_is column order i m.low, t) tt) in
        let n : count < length old = omega (arith, O.cut_room, m.fewer) in
        record {
          low = omega arith;
          high = omega arith;
          long = length-set new count i ∙ m.long;
          counted = ap (λ (c : ℕ). c + 1) m.counted ∙ sym (ap length e ∙ length-append (P column order i) (i ∷ []));
          fewer = omega (arith, m.fewer);
          words =
              ap (λ (l : List ℕ). set l count i) (m.words ∙ ap (λ (l : List ℕ). P column order i ++ l) (drop-cons old count 0 n))
              ∙ set_at (P column order i) (get_or old count 0) (drop (suc count) old) i count (sym m.counted)
              ∙ sym (append_assoc (P column order i) (i ∷ []) (drop (suc count) old))
              ∙ ap (λ (l : List ℕ). l ++ drop (suc count) old) (sym e)
              ∙ ap (λ (c : ℕ). P column order (i + 1) ++ drop c old) (sym (add-one count));
        }

    pub no_rise : rise column order i ≡ false → Cutting column order old new count (i + 1)
    no_rise t =
        let e = those_same (row_is_cut column order) i (rw (cut_is column order i m.low, t) tt) in
        record {
          low = omega arith;
          high = omega arith;
          long = m.long;
          counted = m.counted ∙ sym (ap length e);
          fewer = omega (arith, m.fewer);
          words = m.words ∙ ap (λ (l : List ℕ). l ++ drop count old) (sym e);
        }

    -- the two rows looked at are rows of the column
    pub earlier : get_or order (i - 1) 0 < length column
    earlier = all_at (λ r. r < length column) order (i - 1) O.inside (omega (arith, m.low))

    pub later : get_or order i 0 < length column
    later = all_at (λ r. r < length column) order i O.inside h

  module _ (new : List ℕ) (count i : ℕ) (m : Cutting column order old new count i) (h : length order ≤ i) where
    all_places : P column order i ≡ cuts_along column order
    unfolding cuts_along
    all_places = ap (λ (n : ℕ). P column order n) (omega (arith, m.high))

    pub total : count ≡ length (cuts_along column order)
    total = m.counted ∙ ap length all_places

    pub cleared : (zeros : List ℕ) → zeros ≡ replicate (length (mid_of count (length new - count) new)) 0
        → put_mid count (length new - count) new zeros ≡ padded (length order) (cuts_along column order)
    unfolding padded
    cleared zeros e =
        put_tail count new zeros (omega (arith, m.fewer, m.high, m.long, O.cut_room))
        ∙ ap (λ (l : List ℕ). take count l ++ zeros) m.words
        ∙ ap (λ (l : List ℕ). l ++ zeros) (take_at (P column order i) (drop count old) count (sym m.counted) ∙ all_places)
        ∙ ap (λ (l : List ℕ). cuts_along column order ++ l) (e ∙ ap (λ (n : ℕ). replicate n 0)
        (length_tail count new ∙ left (length new) (length order) count (length (cuts_along column order)) (m.long ∙ O.cut_room) total))
      where
        left : (a b c d : ℕ) → a ≡ b → c ≡ d → a - c ≡ b - d
        left a b c d e f = omega arith
