-- A cut of a column: its threshold lies between the values on its two sides, and the column is sorted, so the rows placed before the cut go left. Between
-- two neighbouring cuts the values do not change. Assumes nothing.
use mathlib.Core.Path.{◌≡◌, refl, sym, ap, ◌∙◌, subst}
use Prim.Native.Nat.{ℕ, zero, suc, ◌+◌, ◌-◌, ◌≤◌, ◌<◌}
use native.Mathlib.Omega.{arith}
use mathlib.Core.Bool.{not}
use lib.ListN.{get_or}
use lib.Dec.{T, not_T, leb, ltb, leb→le, le→leb, ltb→lt, lt→ltb}
use lib.Ieee.{Float, lt}
use Rattle.basics.specs.Lists.{table}
use Rattle.basics.proofs.Choice.{order, reach, same_bool, and_both, and_right}
use Rattle.basics.proofs.Lists.{get_d_table, length_table, tally_front}
use Rattle.threshold.specs.Order.{key, comparable}
use Rattle.threshold.proofs.Keys.{lt→, →lt}
use Rattle.threshold.specs.Laws.{Measured}
use Rattle.threshold.proofs.Law.{measured_comparable}
use Rattle.sheet.specs.Sheet.{Sheet, row_at, value_at, is_cut, count_of, place_of, every_row, order_of}
use Rattle.sheet.specs.Sound.{Sound}
use Rattle.sheet.specs.Rows.{sent_left, rows_at}
use Rattle.sheet.proofs.CutsExact.{rising as places_rise}
use Rattle.leaves_score.specs.Column.{other}
use Rattle.tree.specs.declared.Question.{Question}
use Rattle.leaves_score.specs.Root.{preceding_place, cut_threshold, cut_question}
use Rattle.side_laws.specs.Root.{AtCuts, Ascends}
use Rattle.side_laws.proofs.Tallies.{tally_not}
use Rattle.side_laws.proofs.Fair.{key_of, can_compare, goes, lower_is, upper_is, threshold_measured}

module _ (s : Sheet) (sound : Sound s) (c : ℕ) (here : c < s.columns) where
  abbrev at : ℕ → ℕ
  at i = key (value_at s c i)

  at_row : (i : ℕ) → at i ≡ key_of s c (row_at s c i)
  at_row i = unfold value_at in refl

  pub rises : (i j : ℕ) → i ≤ j → j < s.rows → at i ≤ at j
  rises i j h k = (sound.column c here).ascends i j h k

  row_in : (i : ℕ) → i < s.rows → row_at s c i < s.rows
  row_in i h = (sound.column c here).in_rows i h

  -- ---- places

  pub ascending : (i j : ℕ) → i < j → j < count_of s c → place_of s c i < place_of s c j
  ascending = places_rise s c (sound.column c here).cuts

  below : (i j : ℕ) → i < count_of s c → j < count_of s c → place_of s c i < place_of s c j → i < j
  below i j h k l =
      order j i (λ g. absurd (reach j i g (λ e. omega (arith, ap (place_of s c) e)) (λ m. omega (arith, ascending j i m h)))) (λ g. g)

  -- ---- a rise is a cut

  comp_at : (i : ℕ) → i < s.rows → T (comparable (value_at s c i))
  unfolding value_at
  comp_at i h = can_compare s sound c here (row_at s c i) (row_in i h)

  pub rise_cut : (q : ℕ) → suc q < s.rows → at q < at (suc q) → (k : ℕ) × (k < count_of s c) × (place_of s c k ≡ suc q)
  unfolding is_cut
  rise_cut q h l =
      (sound.column c here).cuts.every (suc q) h
      (and_both (leb 1 (suc q)) (lt (value_at s c (suc q - 1)) (value_at s c (suc q))) (le→leb 1 (suc q) (omega arith))
      (subst (λ (i : ℕ). T (lt (value_at s c i) (value_at s c (suc q)))) plain (→lt (value_at s c q) (value_at s c (suc q)) (comp_at q (omega arith)) (comp_at (suc q) h) l)))
    where
      plain : q ≡ suc q - 1
      plain = omega arith

  cut_rise : (k : ℕ) → k < count_of s c → at (place_of s c k - 1) < at (place_of s c k)
  unfolding is_cut
  cut_rise k h =
      let i : ℕ = place_of s c k in
      let j : i < s.rows = (sound.column c here).cuts.place_high k h in
      lt→ (value_at s c (i - 1)) (value_at s c i) (comp_at (i - 1) (omega arith)) (comp_at i j)
      (and_right (leb 1 i) (lt (value_at s c (i - 1)) (value_at s c i)) ((sound.column c here).cuts.cut k h))

  -- no rise from a to a + d
  flat : (a d : ℕ) → a + d < s.rows → ((q : ℕ) → a ≤ q → q < a + d → at q < at (suc q) → ⊥) → at (a + d) ≡ at a
  flat a zero h k = ap at (omega arith)
  flat a (suc d) h k =
      let e : at (a + d) ≡ at a = flat a d (omega arith) (λ q l g. k q l (omega arith)) in
      ap at step ∙ order (at (suc (a + d))) (at (a + d))
      (λ l. omega (arith, rises (a + d) (suc (a + d)) (omega arith) (omega arith)))
      (λ l. absurd (k (a + d) (omega arith) (omega arith) l))
    where
      step : a + suc d ≡ suc (a + d)
      step = omega arith

  -- ---- the value just before a cut

  lower_at : (k : ℕ) → k < count_of s c → at (preceding_place s c k) ≡ at (place_of s c k - 1)
  unfolding preceding_place
  lower_at zero h = sym (ap at plain ∙ flat 0 (place_of s c 0 - 1) (omega (arith, high)) (λ q _ g l. none q g (rise_cut q (omega (arith, high)) l)))
    where
      high : place_of s c 0 < s.rows
      high = (sound.column c here).cuts.place_high 0 h

      plain : place_of s c 0 - 1 ≡ 0 + (place_of s c 0 - 1)
      plain = omega arith

      none : (q : ℕ) → q < 0 + (place_of s c 0 - 1) → (k : ℕ) × (k < count_of s c) × (place_of s c k ≡ suc q) → ⊥
      none q g k = omega (arith, below k.0 0 k.1 h (omega (arith, k.2)))
  lower_at (suc i) h =
      sym (ap at plain ∙ flat (place_of s c i) (place_of s c (suc i) - 1 - place_of s c i) (omega (arith, high, risen)) (λ q l g m. none q l g (rise_cut q (omega (arith, high, risen)) m)))
    where
      high : place_of s c (suc i) < s.rows
      high = (sound.column c here).cuts.place_high (suc i) h

      risen : place_of s c i < place_of s c (suc i)
      risen = (sound.column c here).cuts.ascend i h

      plain : place_of s c (suc i) - 1 ≡ place_of s c i + (place_of s c (suc i) - 1 - place_of s c i)
      plain = omega (arith, risen)

      none : (q : ℕ) → place_of s c i ≤ q → q < place_of s c i + (place_of s c (suc i) - 1 - place_of s c i)
          → (k : ℕ) × (k < count_of s c) × (place_of s c k ≡ suc q) → ⊥
      none q l g k =
          omega (
            arith,
            below i k.0 (omega arith) k.1 (omega (arith, k.2)),
            below k.0 (suc i) k.1 h (omega (arith, k.2, risen)),
          )

  preceding_in : (k : ℕ) → k < count_of s c → preceding_place s c k < s.rows
  unfolding preceding_place
  preceding_in zero h = sound.limited.rows_some
  preceding_in (suc i) h = (sound.column c here).cuts.place_high i (omega arith)

  -- ---- the threshold of a cut

  module _ (k : ℕ) (h : k < count_of s c) where
    high : place_of s c k < s.rows
    high = (sound.column c here).cuts.place_high k h

    low : 1 ≤ place_of s c k
    low = (sound.column c here).cuts.place_low k h

    rising : key_of s c (row_at s c (preceding_place s c k)) < key_of s c (row_at s c (place_of s c k))
    rising = unfold value_at in omega (arith, lower_at k h, cut_rise k h)

    lower_in : row_at s c (preceding_place s c k) < s.rows
    lower_in = row_in (preceding_place s c k) (preceding_in k h)

    upper_in : row_at s c (place_of s c k) < s.rows
    upper_in = row_in (place_of s c k) high

    pub cut_measured : Measured (cut_threshold s c k)
    unfolding cut_threshold value_at
    cut_measured = threshold_measured s sound c here (row_at s c (preceding_place s c k)) (row_at s c (place_of s c k)) lower_in upper_in rising

    pub cut_lower : at (place_of s c k - 1) ≤ key (cut_threshold s c k)
    unfolding cut_threshold value_at
    cut_lower =
        omega (
          arith,
          lower_at k h,
          lower_is s sound c here (row_at s c (preceding_place s c k)) (row_at s c (place_of s c k)) lower_in upper_in rising,
        )

    pub cut_upper : key (cut_threshold s c k) < at (place_of s c k)
    unfolding cut_threshold value_at
    cut_upper = upper_is s sound c here (row_at s c (preceding_place s c k)) (row_at s c (place_of s c k)) lower_in upper_in rising

-- ---- a question that parts its column at a place

module _ (s : Sheet) (sound : Sound s) (q : Question) (here : q.column < s.columns) where
  abbrev c : ℕ
  c = q.column

  abbrev t : Float
  t = q.threshold

  -- key t lies from the key before place p on and below the key at p
  module _ (comp : T (comparable t)) (p : ℕ) (p-in : p ≤ s.rows) (from : (i : ℕ) → i < p → key (value_at s c i) ≤ key t) (till : (i : ℕ) → p ≤ i → i < s.rows → key t < key (value_at s c i)) where
    pub parts_at : (i : ℕ) → i < s.rows → sent_left s q (row_at s c i) ≡ ltb i p
    unfolding sent_left
    parts_at i h =
        goes s sound c here t comp (row_at s c i) (row_in s sound c here i h)
        ∙ same_bool (leb (key_of s c (row_at s c i)) (key t)) (ltb i p)
        (λ y. order p i (λ l. absurd (omega (arith, leb→le (key_of s c (row_at s c i)) (key t) y, till i l h, at_row s sound c here i))) (λ l. lt→ltb i p l))
        (λ y. le→leb (key_of s c (row_at s c i)) (key t) (omega (arith, from i (ltb→lt i p y), at_row s sound c here i)))

    pub rows_at_lem : rows_at s (sent_left s q) ≡ p
    unfolding rows_at order_of
    rows_at_lem =
        sym ((sound.column c here).each_once (sent_left s q))
        ∙ tally_front (sent_left s q) (table (row_at s c) s.rows) 0 p (omega (arith, length_table (row_at s c) s.rows))
        (λ i l. sends i (omega arith) l) (λ i l k. keeps i (omega (arith, length_table (row_at s c) s.rows)) l)
      where
        sends : (i : ℕ) → i < s.rows → i < p → T (sent_left s q (get_or (table (row_at s c) s.rows) i 0))
        sends i h l = subst (λ (r : ℕ). T (sent_left s q r)) (sym (get_d_table (row_at s c) s.rows i 0 h)) (subst T (sym (parts_at i h)) (lt→ltb i p l))

        keeps : (i : ℕ) → i < s.rows → p ≤ i → T (not (sent_left s q (get_or (table (row_at s c) s.rows) i 0)))
        keeps i h l =
            subst (λ (r : ℕ). T (not (sent_left s q r))) (sym (get_d_table (row_at s c) s.rows i 0 h))
            (not_T (sent_left s q (row_at s c i)) (λ y. absurd (omega (arith, ltb→lt i p (subst T (parts_at i h) y)))))

pub others_at : (s : Sheet) (q : Question) → rows_at s (sent_left s q) + rows_at s (other (sent_left s q)) ≡ s.rows
unfolding rows_at
others_at s q = tally_not (sent_left s q) (every_row s) ∙ length_table (λ r. r) s.rows

pub at_cuts : AtCuts
at_cuts s sound c k here h =
    let q : Question = cut_question s c k in
    let t : Float = q.threshold in
    let m : Measured t = cut_measured s sound c here k h in
    let comp : T (comparable t) = measured_comparable t m in
    let top : place_of s c k < s.rows = high s sound c here k h in
    let from : (i : ℕ) → i < place_of s c k → key (value_at s c i) ≤ key t =
    λ i l. omega (arith, rises s sound c here i (place_of s c k - 1) (omega arith) (omega arith), cut_lower s sound c here k h) in
    let till : (i : ℕ) → place_of s c k ≤ i → i < s.rows → key t < key (value_at s c i) =
    λ i l g. omega (arith, rises s sound c here (place_of s c k) i l g, cut_upper s sound c here k h) in
    record {
      precedes = lower_at s sound c here k h;
      in_range = m;
      parts = parts_at s sound q here comp (place_of s c k) (omega arith) from till;
      lefts = rows_at_lem s sound q here comp (place_of s c k) (omega arith) from till;
      rights = omega (arith, others_at s q, rows_at_lem s sound q here comp (place_of s c k) (omega arith) from till);
    }

pub ascends : Ascends
ascends s sound c i j here h k = ascending s sound c here i j h k
