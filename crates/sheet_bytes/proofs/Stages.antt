-- The order of the reasons, one stage after the other: what a test that passes or fails makes of the answer, and what an accepted sheet passed. Assumes nothing.
use mathlib.Core.Path.{◌≡◌, refl, sym, ap, ◌∙◌, subst}
use Prim.Native.Nat.{ℕ, ◌≤◌, ◌<◌}
use native.Mathlib.Omega.{arith}
use mathlib.Core.Bool.{Bool, true, false, not}
use mathlib.Core.List.{List}
use lib.Dec.{T, ltb, nltb→le}
use borrow.Author.Tests.{le-ltb}
use Rattle.std.specs.Prelude.{Result, Ok, Err}
use Rattle.basics.specs.Choice.{pick}
use Rattle.threshold.specs.Threshold.{within}
use Rattle.basics.specs.Walk.{walk}
use Rattle.basics.proofs.Choice.{nor_left, nor_right, not_not}
use Rattle.sheet.proofs.Search.{truth, untruth, falsity, clean_all, clean_walk}
use Rattle.sheet.specs.Limits.{most_rows, most_columns, most_labels}
use Rattle.sheet.specs.Check.{grid_holds, size_holds, terms_hold}
use Rattle.sheet.specs.Laws.{TermsLimited}
use Rattle.sheet.proofs.Answer.{grid_inside}
use Rattle.sheet.proofs.Answer as answer
use Rattle.sheet_bytes.specs.declared.Head.{Head}
use Rattle.sheet.specs.Reasons.{refused}
use Rattle.sheet.specs.declared.refusals.Reason.{Reason}
use Rattle.sheet.specs.declared.refusals.Reason.TheVariants.{SizeOutside, TermAbove, ValueOutside, LabelHigh, HeadWrong, SheetLarge, RowWrong, BytesLeft}
use Rattle.sheet.specs.declared.refusals.Refusal.{Refusal}
use Rattle.sheet_bytes.specs.Room.{most_read, most_cells}
use Rattle.sheet_bytes.specs.Read.{head_of, head_cells, head_bad, size_bad, too_large, row_bad, further, terms_bad, value_bad, code_bad, first_bad, from_codes, from_values, from_terms, from_end, from_rows, from_large, from_size, read_of, value_read}
use Rattle.sheet_bytes.specs.Reading.{SmallHead, Valued}
use Rattle.sheet_bytes.specs.Laws.{Accepted, Accepts}

-- ---- one test

pub chosen : (b : Bool) (x y : Result Head Refusal) → b ≡ true → pick b x y ≡ x
unfolding pick
chosen b x y e = ap (λ (t : Bool). pick t x y) e

pub passed : (b : Bool) (x y : Result Head Refusal) → b ≡ false → pick b x y ≡ y
unfolding pick
passed b x y e = ap (λ (t : Bool). pick t x y) e

-- ---- the sizes

pub twice_not : (b : Bool) → T (not (not b)) → T b
twice_not true t = tt
twice_not false t = absurd t

module _ (h : Head) (t : T (not (size_bad h))) where
  size_held : T (size_holds h.size.rows h.size.columns h.size.labels)
  unfolding size_bad
  size_held = twice_not (size_holds h.size.rows h.size.columns h.size.labels) t

  pub grid_held : T (grid_holds h.size.rows h.size.columns)
  grid_held = grid_inside h.size.rows h.size.columns h.size.labels size_held

  pub rows_inside : (1 ≤ h.size.rows) × (h.size.rows ≤ most_rows)
  rows_inside = answer.rows_inside h.size.rows h.size.columns grid_held

  pub columns_inside : (1 ≤ h.size.columns) × (h.size.columns ≤ most_columns)
  columns_inside = answer.columns_inside h.size.rows h.size.columns grid_held

  pub labels_inside : (1 ≤ h.size.labels) × (h.size.labels ≤ most_labels)
  labels_inside = answer.labels_inside h.size.rows h.size.columns h.size.labels size_held

  pub small_enough : T (not (too_large h)) → SmallHead h
  unfolding too_large
  small_enough u =
      record {
        rows_some = rows_inside.0;
        rows_most = nltb→le most_read h.size.rows (nor_left (ltb most_read h.size.rows) (ltb most_cells (head_cells h)) u);
        columns_most = columns_inside.1;
        cells_most = nltb→le most_cells (head_cells h) (nor_right (ltb most_read h.size.rows) (ltb most_cells (head_cells h)) u);
      }

module _ (h : Head) {b : Bool} (e : b ≡ size_holds h.size.rows h.size.columns h.size.labels) (f : b ≡ true) where
  fair : T (not (size_bad h))
  unfolding size_bad
  fair = not_not (size_holds h.size.rows h.size.columns h.size.labels) (truth (sym e ∙ f))

  pub columns_most : h.size.columns ≤ most_columns
  columns_most = (columns_inside h fair).1

  pub small : {d : Bool} → d ≡ too_large h → d ≡ false → SmallHead h
  small g k = small_enough h fair (untruth (sym g ∙ k))

-- ---- an accepted sheet

through : (b : Bool) (reason : Reason) (place : ℕ) (rest : Result Head Refusal) (h : Head) → pick b (Err (refused reason place)) rest ≡ Ok h
    → T (not b) × (rest ≡ Ok h)
unfolding pick
through true reason place rest h e = absurd cc
through false reason place rest h e = (tt, e)

through_all : (reason : Reason) (bad : ℕ → Bool) (count : ℕ) (rest : Result Head Refusal) (h : Head) → first_bad reason bad count rest ≡ Ok h
    → ((j : ℕ) → j < count → T (not (bad j))) × (rest ≡ Ok h)
unfolding first_bad
through_all reason bad count rest h e =
    let p = through (ltb (walk bad count 0) count) reason (walk bad count 0) rest h e in
    (λ j l. (clean_walk bad count).none j (omega (arith, l, nltb→le (walk bad count 0) count p.0)), p.1)

same_head : (a b : Head) → ◌≡◌ {A = Result Head Refusal} (Ok a) (Ok b) → a ≡ b
same_head a b e = cc

pub accepted : (bytes : List ℕ) (h : Head) → read_of bytes ≡ Ok h → Accepted bytes h
unfolding read_of from_terms
accepted bytes h e =
    let g = head_of bytes in
    let p1 = through (head_bad bytes) HeadWrong 0 (from_size bytes g) h e in
    let p2 = through (size_bad g) SizeOutside 0 (from_large bytes g) h p1.1 in
    let p3 = through (too_large g) SheetLarge 0 (from_rows bytes g) h p2.1 in
    let p4 = through_all RowWrong (row_bad bytes g) g.size.rows (from_end bytes g) h p3.1 in
    let p5 = through (further bytes g) BytesLeft 0 (from_terms bytes g) h p4.1 in
    let p6 = through (terms_bad g) TermAbove 0 (from_values bytes g) h p5.1 in
    let p7 = through_all ValueOutside (value_bad bytes g) (head_cells g) (from_codes bytes g) h p6.1 in
    let p8 = through_all LabelHigh (code_bad bytes g) g.size.rows (Ok g) h p7.1 in
    subst (Accepted bytes) (same_head g h p8.1)
    (record {
      head = refl;
      head_good = p1.0;
      size_good = p2.0;
      not_large = p3.0;
      rows_good = p4.0;
      no_more = p5.0;
      terms_good = p6.0;
      values_good = p7.0;
      codes_good = p8.0;
    })

pub small_accepted : (bytes : List ℕ) (h : Head) → Accepted bytes h → SmallHead h
small_accepted bytes h a = small_enough h a.size_good a.not_large

-- ---- and what passes is accepted

ends_all : (reason : Reason) (bad : ℕ → Bool) (count : ℕ) (rest : Result Head Refusal) → ((j : ℕ) → j < count → T (not (bad j)))
    → first_bad reason bad count rest ≡ rest
unfolding first_bad
ends_all reason bad count rest p =
    let e : count ≡ walk bad count 0 = clean_all (record { none = p }) refl in
    passed (ltb (walk bad count 0) count) (Err (refused reason (walk bad count 0))) rest (le-ltb (walk bad count 0) count (omega arith))

good_sheet : (bytes : List ℕ) → Accepted bytes (head_of bytes) → read_of bytes ≡ Ok (head_of bytes)
unfolding read_of from_terms
good_sheet bytes a =
    let g = head_of bytes in
    passed (head_bad bytes) (Err (refused HeadWrong 0)) (from_size bytes g) (falsity (head_bad bytes) a.head_good)
    ∙ passed (size_bad g) (Err (refused SizeOutside 0)) (from_large bytes g) (falsity (size_bad g) a.size_good)
    ∙ passed (too_large g) (Err (refused SheetLarge 0)) (from_rows bytes g) (falsity (too_large g) a.not_large)
    ∙ ends_all RowWrong (row_bad bytes g) g.size.rows (from_end bytes g) a.rows_good
    ∙ passed (further bytes g) (Err (refused BytesLeft 0)) (from_terms bytes g) (falsity (further bytes g) a.no_more)
    ∙ passed (terms_bad g) (Err (refused TermAbove 0)) (from_values bytes g) (falsity (terms_bad g) a.terms_good)
    ∙ ends_all ValueOutside (value_bad bytes g) (head_cells g) (from_codes bytes g) a.values_good
    ∙ ends_all LabelHigh (code_bad bytes g) g.size.rows (Ok g) a.codes_good

same_ok : {a b : Head} → a ≡ b → ◌≡◌ {A = Result Head Refusal} (Ok a) (Ok b)
same_ok e = cc

pub accepts : Accepts
accepts bytes h =
    record {
      passes = accepted bytes h;
      taken = λ (a : Accepted bytes h). good_sheet bytes (subst (Accepted bytes) a.head a) ∙ same_ok (sym a.head);
    }

-- ---- the values of an accepted sheet

pub terms_limited : (h : Head) → T (not (terms_bad h)) → TermsLimited h.terms
unfolding terms_bad
terms_limited h t = answer.terms_limited h.terms (twice_not (terms_hold h.terms) t)

pub valued_accepted : (bytes : List ℕ) (h : Head) → Accepted bytes h → Valued bytes h
unfolding value_bad
valued_accepted bytes h a index k = twice_not (within (value_read bytes h index)) (a.values_good index k)
