-- A sheet whose columns all passed gives none of reasons 5 to 9. A column's values ascend, so each lies between the first and the last; and each
-- row has a place, so no value is left out. Assumes nothing.
use mathlib.Core.Path.{◌≡◌, refl, sym, ap, ◌∙◌, subst}
use Prim.Native.Nat.{ℕ, zero, suc, ◌+◌, ◌-◌, ◌*◌, ◌/◌, ◌%◌, ◌≤◌, ◌<◌}
use native.Mathlib.Omega.{arith}
use native.Mathlib.Nat.{div-add-mod', div-lt_iff_lt-mul, mod-lt}
use mathlib.Core.Bool.{Bool, not}
use mathlib.Core.List.{List}
use lib.ListN.{length}
use lib.Dec.{T, T_not, leb, nleb→lt}
use lib.Ieee.{Float, nan, inf, fin, binary64, fits, le, is_nan}
use Rattle.basics.specs.Walk.{walk}
use Rattle.basics.proofs.Choice.{and_left, and_right, and_both, nor_left, nor_right, not_not}
use Rattle.basics.proofs.Lists.{table_place, never_falls}
use Rattle.threshold.specs.Order.{key, comparable, is_at_most}
use Rattle.threshold.specs.Threshold.{within, lowest_value, largest_value}
use Rattle.threshold.proofs.Keys.{le→, →le, →not-lt}
use Rattle.threshold.proofs.Law.{measured_comparable}
use Rattle.std.specs.Prelude.{Option, None, Ok}
use Rattle.basics.specs.Walk.{place_among}
use Rattle.basics.proofs.Walk.{place_none}
use Rattle.sheet.specs.declared.refusals.Reason.{Reason}
use Rattle.sheet.specs.declared.refusals.Reason.TheVariants.{ValueOutside, LabelHigh, OrderWrong, ValueFalls, CutsWrong}
use Rattle.sheet.specs.Ready.{Shaped, Ordered}
use Rattle.sheet.specs.Sheet.{Sheet, row_at, value_at, value_of, places_of}
use Rattle.sheet.specs.Check.{cells_of, bad_value, bad_label, first_bad_label, bad_order, met, falls, bad_cuts, cuts_of, same, at_index, Verdict, reason, content_of}
use Rattle.sheet.proofs.Search.{Clean, clean_all, clean_walk, walk_most, falsity}
use Rattle.sheet.proofs.MetBefore.{met_yes}
use Rattle.sheet.proofs.Values.{falls_no, falls_first}
use Rattle.sheet.proofs.Index.{at_column, column_in}
use Rattle.sheet.proofs.Once.{each_once}
use Rattle.sheet.proofs.Answer.{rest6, rest7, rest8, rest9}
use Rattle.sheet_check.specs.Steps.{Passed, ends_hold}
use Rattle.sheet_check.proofs.Found.{reason_past, content}

-- what something is at most is no NaN
above_number : (x y : Float) → T (le x y) → T (not (is_nan y))
unfolding le is_nan
above_number nan nan t = absurd t
above_number (inf s) nan t = absurd t
above_number (fin s m e) nan t = absurd t
above_number x (inf s) t = tt
above_number x (fin s m e) t = tt

ends_comparable : T (comparable lowest_value) × T (comparable largest_value)
unfolding fits is_nan
ends_comparable = (tt, tt)

-- ---- a column

-- its entries of the order list are rows
pub row_below : (s : Sheet) (c : ℕ) → Passed s c → (i : ℕ) → i < s.rows → row_at s c i < s.rows
unfolding bad_order
row_below s c p i h = nleb→lt s.rows (row_at s c i) (nor_left (leb s.rows (row_at s c i)) (met s c i) (p.in_order i h))

-- no label is too high
pub labels_clean : (codes : List ℕ) (labels rows : ℕ) (row : Option ℕ) → length codes ≡ rows → row ≡ place_among (length codes) (first_bad_label codes labels)
    → row ≡ None → Clean (bad_label codes labels) rows
labels_clean codes labels rows row e f g =
    let bad : ℕ → Bool = bad_label codes labels in
    let q : walk bad (length codes) 0 ≡ rows =
    omega (arith, place_none (length codes) (first_bad_label codes labels) (sym f ∙ g), walk_most bad (length codes)) in
    subst (λ n. Clean bad n) q (clean_walk bad (length codes))

module _ (s : Sheet) (c : ℕ) (p : Passed s c) (e : T (ends_hold s c)) where
  low_end : T (within (value_at s c 0))
  low_end = and_left (within (value_at s c 0)) (within (value_at s c (s.rows - 1))) e

  high_end : T (within (value_at s c (s.rows - 1)))
  high_end = and_right (within (value_at s c 0)) (within (value_at s c (s.rows - 1))) e

  climb : (i : ℕ) → suc i < s.rows → T (is_at_most (value_at s c i) (value_at s c (suc i)))
  climb i h = subst (λ n. T (is_at_most (value_at s c n) (value_at s c (suc i)))) (before i) (p.climbs (suc i) (omega arith) h)
    where
      before : (i : ℕ) → suc i - 1 ≡ i
      before i = omega arith

  number : (i : ℕ) → i < s.rows → T (comparable (value_at s c i))
  number zero h = measured_comparable (value_at s c 0) (record { double = p.double 0; limited = low_end })
  number (suc i) h =
      and_both (fits binary64 (value_at s c (suc i))) (not (is_nan (value_at s c (suc i)))) (p.double (suc i))
      (above_number (value_at s c i) (value_at s c (suc i)) (climb i h))

  -- from one place to another
  step : (i : ℕ) → suc i < s.rows → key (value_at s c i) ≤ key (value_at s c (suc i))
  step i h = le→ (value_at s c i) (value_at s c (suc i)) (number i (omega arith)) (number (suc i) h) (climb i h)

  ascending : (i j : ℕ) → i ≤ j → j < s.rows → key (value_at s c i) ≤ key (value_at s c j)
  ascending = never_falls (λ i. key (value_at s c i)) s.rows step

  no_fall : (i : ℕ) → i < s.rows → T (not (falls s c i))
  no_fall zero h = falls_first s c
  no_fall (suc i) h =
      let v : Float = value_at s c (suc i) in
      let w : Float = value_at s c i in
      falls_no s c (suc i) v w refl (ap (value_at s c) (before i)) (falsity _ (→not-lt v w (number (suc i) h) (number i (omega arith)) (step i h)))
    where
      before : (i : ℕ) → i ≡ suc i - 1
      before i = omega arith

  -- each row has a place
  rows_apart : (i j : ℕ) → j < i → i < s.rows → row_at s c j ≡ row_at s c i → ⊥
  unfolding bad_order
  rows_apart i j l h q =
      T_not (met s c i) (nor_right (leb s.rows (row_at s c i)) (met s c i) (p.in_order i h)) (met_yes s c i j l q)

  place_of_lem : (r : ℕ) → r < s.rows → (i : ℕ) × (i < s.rows) × (row_at s c i ≡ r)
  place_of_lem = table_place (row_at s c) s.rows (each_once s.rows (row_at s c) (row_below s c p) rows_apart)

  between : (i : ℕ) → i < s.rows → T (within (value_at s c i))
  unfolding within
  between i h =
      let v : Float = value_at s c i in
      let a : Float = value_at s c 0 in
      let z : Float = value_at s c (s.rows - 1) in
      let lows : T (le lowest_value a) = and_left (le lowest_value a) (le a largest_value) low_end in
      let highs : T (le z largest_value) = and_right (le lowest_value z) (le z largest_value) high_end in
      let ka : T (comparable a) = number 0 (omega arith) in
      let kz : T (comparable z) = number (s.rows - 1) (omega arith) in
      and_both (le lowest_value v) (le v largest_value)
      (→le lowest_value v ends_comparable.0 (number i h)
      (omega (arith, le→ lowest_value a ends_comparable.0 ka lows, ascending 0 i (omega arith) h)))
      (→le v largest_value (number i h) ends_comparable.1
      (omega (arith, le→ z largest_value kz ends_comparable.1 highs, ascending i (s.rows - 1) (omega arith) (omega arith))))

  in_range : (r : ℕ) → r < s.rows → T (within (value_of s c r))
  unfolding value_at
  in_range r h = let z = place_of_lem r h in subst (λ n. T (within (value_of s c n))) z.2 (between z.0 z.1)

-- ---- the sheet

module _ (s : Sheet) (some : 1 ≤ s.rows) where
  -- no place of any column fails a test, so no index does
  columns_clean : (bad : ℕ → ℕ → Bool) → ((c i : ℕ) → c < s.columns → i < s.rows → T (not (bad c i))) → Clean (at_index bad s.rows) (cells_of s)
  columns_clean bad f = record { none = λ j h. f (j / s.rows) (j % s.rows) ((div-lt_iff_lt-mul some).1 h) (mod-lt j some) }

  values_clean : ((c r : ℕ) → c < s.columns → r < s.rows → T (within (value_of s c r))) → Clean (bad_value s.values) (cells_of s)
  unfolding bad_value value_of
  values_clean f =
      record {
        none = λ j h.
            subst (λ n. T (not (bad_value s.values n))) (div-add-mod' j s.rows)
            (not_not (within (value_of s (j / s.rows) (j % s.rows)))
            (f (j / s.rows) (j % s.rows) ((div-lt_iff_lt-mul some).1 h) (mod-lt j some)));
      }

  -- no place fails the test, so the reason is not given
  goes_on : (why : Reason) (places : ℕ) (bad : ℕ → Bool) (rest : Verdict) → Clean bad places → {r : Verdict} → r ≡ rest → r ≡ reason why places bad rest
  goes_on why places bad rest clean = reason_past why places bad rest (omega (arith, clean_all clean refl))

  pub accepted : Clean (bad_label s.codes s.labels) s.rows → ((c : ℕ) → c < s.columns → Passed s c × T (ends_hold s c))
      → content_of s ≡ Ok tt
  unfolding bad_cuts
  accepted labels f =
      content s
      ∙ sym
      (goes_on ValueOutside (cells_of s) (bad_value s.values) (rest6 s)
      (values_clean (λ c r h g. in_range s c (f c h).0 (f c h).1 r g))
      (goes_on LabelHigh s.rows (bad_label s.codes s.labels) (rest7 s) labels
      (goes_on OrderWrong (cells_of s) (at_index (bad_order s) s.rows) (rest8 s)
      (columns_clean (bad_order s) (λ c i h g. (f c h).0.in_order i g))
      (goes_on ValueFalls (cells_of s) (at_index (falls s) s.rows) (rest9 s)
      (columns_clean (falls s) (λ c i h g. no_fall s c (f c h).0 (f c h).1 i g))
      (goes_on CutsWrong s.columns (bad_cuts s) (Ok tt)
      (record { none = λ c h. not_not (same (places_of s c) (cuts_of s c)) (f c h).0.matches }) refl)))))

-- reason 7 ruled out: every entry of the order list is a row
pub listed : (s : Sheet) → Shaped s → (place : Option ℕ) → place ≡ place_among (s.columns * s.rows) (walk (at_index (bad_order s) s.rows) (s.columns * s.rows) 0)
    → place ≡ None → Ordered s
unfolding bad_order
listed s h place is e =
    let bad : ℕ → Bool = at_index (bad_order s) s.rows in
    let q : walk bad (s.columns * s.rows) 0 ≡ s.columns * s.rows =
    omega (arith, place_none (s.columns * s.rows) (walk bad (s.columns * s.rows) 0) (sym is ∙ e), walk_most bad (s.columns * s.rows)) in
    let clean : Clean bad (s.columns * s.rows) = subst (λ n. Clean bad n) q (clean_walk bad (s.columns * s.rows)) in
    record {
      shaped = h;
      column = λ c g.
          record {
            shaped = h;
            column_in = g;
            in_rows = λ i l.
                nleb→lt s.rows (row_at s c i)
                (nor_left (leb s.rows (row_at s c i)) (met s c i)
                (subst (λ b. T (not b)) (sym (at_column (bad_order s) h.limited.rows_some c i l))
                (clean.none (c * s.rows + i) (omega (arith, column_in s.rows s.columns c g)))));
          };
    }
