-- A reason is given exactly when its condition holds, at no earlier place, and no lower one holds anywhere. Each test of the check passes exactly where
-- the plain condition holds; a walk stops at the first such place; and two answers that both fit the conditions are the same one. Assumes nothing.
use mathlib.Core.Path.{◌≡◌, refl, sym, ap, subst}
use mathlib.Core.Logic.{◌⊎◌, inl, inr, ⊎_elim}
use Prim.Native.Nat.{ℕ, suc, ◌+◌, ◌-◌, ◌*◌, ◌/◌, ◌%◌, ◌≤◌, ◌<◌}
use native.Mathlib.Omega.{arith}
use native.Mathlib.Nat.{div-add-mod', div-lt_iff_lt-mul, mod-lt}
use mathlib.Core.Bool.{Bool, true, false, not, ◌&&◌}
use lib.ListN.{length, get_or-eq_default}
use lib.Dec.{T, T_not, not_T, leb, eqb, leb→le, le→leb, nleb→lt, eqb_refl}
use lib.Ieee.{lt}
use borrow.Author.Tests.{lt-leb}
use Rattle.basics.specs.Walk.{walk}
use Rattle.basics.proofs.Choice.{by_test, either, order, and_left, and_right, and_both, or_left, or_right, nand_left, nand_right, nleb}
use Rattle.threshold.specs.Threshold.{within}
use Rattle.sheet.specs.declared.Terms.{Terms}
use mathlib.Core.Option.{some}
use Rattle.std.specs.Prelude.{Ok, Err}
use Rattle.sheet.specs.declared.refusals.Reason.{Reason}
use Rattle.sheet.specs.declared.refusals.Reason.TheVariants as reasons
use Rattle.sheet.specs.Reasons.{number_of, refused, reason_of}
use Rattle.sheet.specs.Limits.{most_rows, most_columns, most_labels, most_support, most_error, words_per_row}
use Rattle.sheet.specs.Sheet.{Sheet, value_of, label_of, row_at, value_at, places_of}
use Rattle.sheet.specs.Sound.{Limited}
use Rattle.sheet.specs.Check.{cells_of, between, grid_holds, size_holds, lengths_hold, scratch_holds, terms_hold, bad_value, bad_label, bad_order, met, falls, bad_cuts, cuts_of, same, at_index, Verdict, reason, whole, content_of, check_of}
use Rattle.sheet.specs.Laws.{Lengths, conditions_of, Condition, First, GivenExactly, AcceptedExactly, TermAbove, ValueOutside, LabelHigh, OrderWrong, ValueFalls, CutsWrong}
use Rattle.sheet.proofs.Search.{untruth}
use Rattle.sheet.proofs.Numbered.{None, next, none0, first_whole, scanned, same_refusal}
use Rattle.sheet.proofs.Index.{column_in, at_column}
use Rattle.sheet.proofs.MetBefore.{met_yes, met_where}
use Rattle.sheet.proofs.Lists.{same_refl, same_no}
use Rattle.sheet.proofs.CutsExact.{listed_cuts, cuts_listed}
use Rattle.sheet.proofs.Answer.{limited, measured_lists, rest2, rest3, rest4, rest6, rest7, rest8, rest9}

-- ---- tests and conditions: the whole call

pub size_to : (s : Sheet) → (Limited s → ⊥) → T (not (size_holds s.rows s.columns s.labels))
size_to s f = not_T (size_holds s.rows s.columns s.labels) (λ t. f (limited s t))

pub size_from : (s : Sheet) → T (not (size_holds s.rows s.columns s.labels)) → Limited s → ⊥
unfolding size_holds grid_holds
size_from s t l =
    T_not (size_holds s.rows s.columns s.labels) t
    (and_both (between 1 s.rows most_rows && between 1 s.columns most_columns) (between 1 s.labels most_labels)
    (and_both (between 1 s.rows most_rows) (between 1 s.columns most_columns) (inside 1 s.rows most_rows l.rows_some l.rows_most)
    (inside 1 s.columns most_columns l.columns_some l.columns_most))
    (inside 1 s.labels most_labels l.labels_some l.labels_most))
  where
    inside : (least n most : ℕ) → least ≤ n → n ≤ most → T (between least n most)
    inside least n most a b = and_both (leb least n) (leb n most) (le→leb least n a) (le→leb n most b)

lengths_to : (s : Sheet) → (Lengths s → ⊥) → T (not (lengths_hold s))
lengths_to s f = not_T (lengths_hold s) (λ t. f (measured_lists s t))

lengths_from : (s : Sheet) → T (not (lengths_hold s)) → Lengths s → ⊥
unfolding lengths_hold
lengths_from s t l =
    let a : Bool = eqb (length s.values) (cells_of s) in
    let b : Bool = eqb (length s.codes) s.rows in
    let d : Bool = eqb (length s.order) (cells_of s) in
    let e : Bool = eqb (length s.cuts) (cells_of s) in
    let f : Bool = eqb (length s.counts) s.columns in
    T_not (lengths_hold s) t
    (and_both (a && b && d && e) f
    (and_both (a && b && d) e
    (and_both (a && b) d
    (and_both a b (alike (length s.values) (cells_of s) l.values_all) (alike (length s.codes) s.rows l.codes_all))
    (alike (length s.order) (cells_of s) l.order_all))
    (alike (length s.cuts) (cells_of s) l.cuts_all))
    (alike (length s.counts) s.columns l.counts_all))
  where
    alike : (m n : ℕ) → m ≡ n → T (eqb m n)
    alike m n e = subst (λ x. T (eqb m x)) e (eqb_refl m)

scratch_to : (s : Sheet) (words : ℕ) → words < words_per_row * s.rows → T (not (scratch_holds s words))
unfolding scratch_holds
scratch_to s words h = untruth (lt-leb (words_per_row * s.rows) words h)

scratch_from : (s : Sheet) (words : ℕ) → T (not (scratch_holds s words)) → words < words_per_row * s.rows
unfolding scratch_holds
scratch_from s words t = nleb→lt (words_per_row * s.rows) words t

-- the first of some tests that fails
fails : (a b : Bool) → T (not (a && b)) → T (not a) ⊎ T (not b)
fails true b t = inr t
fails false b t = inl tt

module _ (t : Terms) where
  abbrev a1 : Bool
  a1 = leb t.support most_support

  abbrev a2 : Bool
  a2 = leb t.gap most_error

  abbrev a3 : Bool
  a3 = leb t.error most_error

  abbrev a4 : Bool
  a4 = leb t.bound most_error

  terms_to : (p : ℕ) → TermAbove t p → T (not (terms_hold t))
  unfolding terms_hold
  terms_to p x =
      ⊎_elim
      (λ h. nand_left (a1 && a2 && a3) a4 (nand_left (a1 && a2) a3 (nand_left a1 a2 (nleb t.support most_support h))))
      (⊎_elim (λ h. nand_left (a1 && a2 && a3) a4 (nand_left (a1 && a2) a3 (nand_right a1 a2 (nleb t.gap most_error h))))
      (⊎_elim (λ h. nand_left (a1 && a2 && a3) a4 (nand_right (a1 && a2) a3 (nleb t.error most_error h)))
      (λ h. nand_right (a1 && a2 && a3) a4 (nleb t.bound most_error h))))
      x.1

  terms_from : T (not (terms_hold t)) → TermAbove t 0
  unfolding terms_hold
  terms_from n = (
    refl,
    ⊎_elim
        (λ u.
        ⊎_elim
        (λ v.
        ⊎_elim (λ w. inl (nleb→lt t.support most_support w)) (λ w. inr (inl (nleb→lt t.gap most_error w))) (fails a1 a2 v))
        (λ v. inr (inr (inl (nleb→lt t.error most_error v))))
        (fails (a1 && a2) a3 u))
        (λ u. inr (inr (inr (nleb→lt t.bound most_error u))))
        (fails (a1 && a2 && a3) a4 n),
  )

-- ---- tests and conditions: the places of the lists

module _ (s : Sheet) (some : 1 ≤ s.rows) where
  -- an index is that of one place of one column
  record Cell (p : ℕ) : Type 0 where
    column_at : p / s.rows < s.columns
    place_at : p % s.rows < s.rows
    index : p ≡ p / s.rows * s.rows + p % s.rows

  cell : (p : ℕ) → p < cells_of s → Cell p
  cell p h =
      record {
        column_at = (div-lt_iff_lt-mul some).1 h;
        place_at = mod-lt p some;
        index = sym (div-add-mod' p s.rows);
      }

  index_in : (c i p : ℕ) → c < s.columns → i < s.rows → p ≡ c * s.rows + i → p < cells_of s
  index_in c i p h g e = omega (arith, column_in s.rows s.columns c h)

  at_index_lem : (bad : ℕ → ℕ → Bool) (c i p : ℕ) → i < s.rows → p ≡ c * s.rows + i → T (bad c i) → T (at_index bad s.rows p)
  at_index_lem bad c i p g e t =
      subst (λ n. T (at_index bad s.rows n)) (sym e) (subst (λ b. T b) (at_column bad some c i g) t)

  pub value_to : (p : ℕ) → ValueOutside s p → (p < cells_of s) × T (bad_value s.values p)
  unfolding value_of bad_value
  value_to p (c, r, h, g, e, f) =
      (index_in c r p h g e, subst (λ n. T (bad_value s.values n)) (sym e) (not_T (within (value_of s c r)) f))

  pub value_from : (p : ℕ) → p < cells_of s → T (bad_value s.values p) → ValueOutside s p
  unfolding value_of bad_value
  value_from p h t =
      let w = cell p h in (
        p / s.rows,
        p % s.rows,
        w.column_at,
        w.place_at,
        w.index,
        T_not (within (value_of s (p / s.rows) (p % s.rows))) (subst (λ n. T (bad_value s.values n)) w.index t),
      )

  order_to : (p : ℕ) → OrderWrong s p → (p < cells_of s) × T (at_index (bad_order s) s.rows p)
  order_to p (c, i, h, g, e, f) = (index_in c i p h g e, at_index_lem (bad_order s) c i p g e (wrong c i f))
    where
      wrong : (c i : ℕ) → (s.rows ≤ row_at s c i) ⊎ ((j : ℕ) × (j < i) × (row_at s c j ≡ row_at s c i)) → T (bad_order s c i)
      wrong c i (inl h) = unfold bad_order in or_left (leb s.rows (row_at s c i)) (met s c i) (le→leb s.rows (row_at s c i) h)
      wrong c i (inr (j, h, e)) = unfold bad_order in or_right (leb s.rows (row_at s c i)) (met s c i) (met_yes s c i j h e)

  order_from : (p : ℕ) → p < cells_of s → T (at_index (bad_order s) s.rows p) → OrderWrong s p
  unfolding bad_order
  order_from p h t =
      let w = cell p h in
      let c : ℕ = p / s.rows in
      let i : ℕ = p % s.rows in (
        c,
        i,
        w.column_at,
        w.place_at,
        w.index,
        either (leb s.rows (row_at s c i)) (met s c i) t (λ u. inl (leb→le s.rows (row_at s c i) u)) (λ u. inr (met_where s c i u)),
      )

  falls_to : (p : ℕ) → ValueFalls s p → (p < cells_of s) × T (at_index (falls s) s.rows p)
  falls_to p (c, i, h, g, e, l, f) = (index_in c i p h g e, at_index_lem (falls s) c i p g e (wrong c i l f))
    where
      wrong : (c i : ℕ) → 1 ≤ i → T (lt (value_at s c i) (value_at s c (i - 1))) → T (falls s c i)
      wrong c i l f = unfold falls in and_both (leb 1 i) (lt (value_at s c i) (value_at s c (i - 1))) (le→leb 1 i l) f

  falls_from : (p : ℕ) → p < cells_of s → T (at_index (falls s) s.rows p) → ValueFalls s p
  unfolding falls
  falls_from p h t =
      let w = cell p h in
      let c : ℕ = p / s.rows in
      let i : ℕ = p % s.rows in
      let b : Bool = lt (value_at s c i) (value_at s c (i - 1)) in
      (c, i, w.column_at, w.place_at, w.index, leb→le 1 i (and_left (leb 1 i) b t), and_right (leb 1 i) b t)

  cuts_to : (c : ℕ) → CutsWrong s c → (c < s.columns) × T (bad_cuts s c)
  unfolding bad_cuts
  cuts_to c (h, f) = (h, same_no (places_of s c) (cuts_of s c) (λ e. f (listed_cuts s c some e)))

pub cuts_from : (s : Sheet) (c : ℕ) → c < s.columns → T (bad_cuts s c) → CutsWrong s c
unfolding bad_cuts
cuts_from s c h t = (
  h,
  λ w.
      T_not (same (places_of s c) (cuts_of s c)) t
      (subst (λ l. T (same (places_of s c) l)) (cuts_listed s c w) (same_refl (places_of s c))),
)

pub label_to : (s : Sheet) (r : ℕ) → LabelHigh s r → (r < s.rows) × T (bad_label s.codes s.labels r)
unfolding bad_label label_of
label_to s r (h, g) = (h, le→leb s.labels (label_of s r) g)

pub label_from : (s : Sheet) (r : ℕ) → r < s.rows → T (bad_label s.codes s.labels r) → LabelHigh s r
unfolding bad_label label_of
label_from s r h t = (h, leb→le s.labels (label_of s r) t)

-- ---- the answer fits the conditions

module _ (s : Sheet) (t : Terms) (words : ℕ) where
  abbrev C : ℕ → ℕ → Type 0
  C n p = Condition s t words n p

  abbrev Fitting : Verdict → Type 0
  Fitting (Ok accepted) = (n p : ℕ) → C n p → ⊥
  Fitting (Err refusal) = First C (number_of refusal.reason) refusal.place

  by_whole : (why : Reason) (k : ℕ) → suc k ≡ number_of why → (holds : Bool) (rest : Verdict) → ((q : ℕ) → C (suc k) q → T (not holds))
      → (T (not holds) → C (suc k) 0) → None C k → (T holds → None C (suc k) → Fitting rest) → Fitting (whole why holds rest)
  by_whole why k e holds rest to from none go =
      by_test Fitting holds (λ u. go u (next C k none (λ q x. T_not holds (to q x) u)))
      (λ u. subst (λ n. First C n 0) e (first_whole C k none (from u)))

  by_scan : (why : Reason) (k : ℕ) → suc k ≡ number_of why → (places : ℕ) (bad : ℕ → Bool) (rest : Verdict)
      → ((q : ℕ) → C (suc k) q → (q < places) × T (bad q)) → ((q : ℕ) → q < places → T (bad q) → C (suc k) q) → None C k
      → (None C (suc k) → Fitting rest) → Fitting (reason why places bad rest)
  unfolding reason
  by_scan why k e places bad rest to from none go =
      scanned C Fitting k places bad (Err (refused why (walk bad places 0))) rest to from none (λ x. subst (λ n. First C n (walk bad places 0)) e x) go

  beyond : (m q : ℕ) → 9 < m → C m q → ⊥
  beyond m q h x = subst (λ X. X) (get_or-eq_default (conditions_of s t words q) ⊥ {n = m} (omega arith)) x

  pub fitting : Fitting (check_of s t words)
  unfolding check_of content_of
  fitting =
      by_whole reasons.SizeOutside 0 refl (size_holds s.rows s.columns s.labels) (rest2 s t words) (λ q x. size_to s x.1) (λ u. (refl, size_from s u)) (none0 C (λ q x. x))
      (λ a n1.
      let some : 1 ≤ s.rows = (limited s a).rows_some in
      by_whole reasons.LengthWrong 1 refl (lengths_hold s) (rest3 s t words) (λ q x. lengths_to s x.1) (λ u. (refl, lengths_from s u)) n1
      (λ _ n2.
      by_whole reasons.ScratchShort 2 refl (scratch_holds s words) (rest4 s t words) (λ q x. scratch_to s words x.1) (λ u. (refl, scratch_from s words u)) n2
      (λ _ n3.
      by_whole reasons.TermAbove 3 refl (terms_hold t) (content_of s) (terms_to t) (terms_from t) n3
      (λ _ n4.
      by_scan reasons.ValueOutside 4 refl (cells_of s) (bad_value s.values) (rest6 s) (value_to s some) (value_from s some) n4
      (λ n5.
      by_scan reasons.LabelHigh 5 refl s.rows (bad_label s.codes s.labels) (rest7 s) (label_to s) (label_from s) n5
      (λ n6.
      by_scan reasons.OrderWrong 6 refl (cells_of s) (at_index (bad_order s) s.rows) (rest8 s) (order_to s some) (order_from s some) n6
      (λ n7.
      by_scan reasons.ValueFalls 7 refl (cells_of s) (at_index (falls s) s.rows) (rest9 s) (falls_to s some) (falls_from s some) n7
      (λ n8.
      by_scan reasons.CutsWrong 8 refl s.columns (bad_cuts s) (Ok tt) (cuts_to s some) (cuts_from s) n8
      (λ n9 m q x. order m 9 (λ l. n9 m q l x) (λ g. beyond m q g x))))))))))

  -- ---- and no other answer does

  told : (n p : ℕ) (r : Verdict) → Fitting r → reason_of r ≡ some (n, p) → First C n p
  told n p (Ok accepted) x e = absurd cc
  told n p (Err refusal) x e =
      let both : (ℕ × ℕ) = (number_of refusal.reason, refusal.place) in
      let w : both ≡ (n, p) = cc in
      let f : number_of refusal.reason ≡ n = ap (λ (q : ℕ × ℕ). q.0) w in
      let g : refusal.place ≡ p = ap (λ (q : ℕ × ℕ). q.1) w in
      subst (λ q. First C n q) g (subst (λ m. First C m refusal.place) f x)

  tells : (n p : ℕ) (r : Verdict) → Fitting r → First C n p → reason_of r ≡ some (n, p)
  tells n p (Ok accepted) x y = absurd (x n p y.here)
  tells n p (Err refusal) x y = let w = same_refusal C (number_of refusal.reason) refusal.place n p x y in cc

  takes : (r : Verdict) → Fitting r → ((n p : ℕ) → C n p → ⊥) → r ≡ Ok tt
  takes (Ok accepted) x y = refl
  takes (Err refusal) x y = absurd (y (number_of refusal.reason) refusal.place x.here)

-- ---- the laws

pub given_exactly : GivenExactly
given_exactly s t words n p =
    (told s t words n p (check_of s t words) (fitting s t words), tells s t words n p (check_of s t words) (fitting s t words))

pub accepted_exactly : AcceptedExactly
accepted_exactly s t words = (
  λ e. subst (λ r. Fitting s t words r) e (fitting s t words),
  takes s t words (check_of s t words) (fitting s t words),
)
