-- `sheet_check::first_reason` meets its contract: each search found the place that its reason reports, or none, and then the next one goes on.
use mathlib.Core.Path.{◌≡◌, refl, sym, ap, ◌∙◌}
use Prim.Native.Nat.{ℕ}
use lib.ListN.{length}
use Rattle.std.specs.Prelude.{Option, Some, None, Err, Ok}
use Rattle.basics.specs.Walk.{walk, place_among}
use Rattle.sheet.specs.Reasons.{refused}
use Rattle.sheet.specs.declared.refusals.Reason.TheVariants.{ValueOutside, LabelHigh, OrderWrong, ValueFalls, CutsWrong}
use Rattle.sheet.specs.declared.refusals.Refusal.{Refusal}
use Rattle.sheet.specs.Sheet.{Sheet}
use Rattle.sheet.specs.Check.{cells_of, bad_value, first_bad_value, bad_label, first_bad_label, bad_order, falls, bad_cuts, at_index, Verdict, content_of}
use Rattle.sheet.specs.Ready.{Shaped}
use Rattle.sheet.specs.Lent.{sheet_in}
use Rattle.sheet.proofs.Answer.{rest6, rest7, rest8, rest9}
use Rattle.sheet_check.proofs.Found.{reason_stop, reason_go, content}
use Rattle.sheet_check.proofs.Whole.{listed}
use Rattle.sheet_check.proofs.first_reason.Goals as goal

-- ---- what each search found is the answer, or the next reason goes on

module _ (s : Sheet) (shaped : Shaped s) where
  module _ (place : Option ℕ) (is : place ≡ place_among (length s.values) (first_bad_value s.values)) where
    stop5 : (p : ℕ) → place ≡ Some p → Err (refused ValueOutside p) ≡ content_of s
    stop5 p e = reason_stop ValueOutside (cells_of s) (bad_value s.values) (rest6 s) (length s.values) shaped.lengths.values_all place is p e ∙ sym (content s)

    go5 : place ≡ None → {r : Verdict} → r ≡ rest6 s → r ≡ content_of s
    go5 e f = reason_go ValueOutside (cells_of s) (bad_value s.values) (rest6 s) (length s.values) shaped.lengths.values_all place is e f ∙ sym (content s)

  module _ (place : Option ℕ) (is : place ≡ place_among (length s.codes) (first_bad_label s.codes s.labels)) where
    stop6 : (p : ℕ) → place ≡ Some p → Err (refused LabelHigh p) ≡ rest6 s
    stop6 = reason_stop LabelHigh s.rows (bad_label s.codes s.labels) (rest7 s) (length s.codes) shaped.lengths.codes_all place is

    go6 : place ≡ None → {r : Verdict} → r ≡ rest7 s → r ≡ rest6 s
    go6 = reason_go LabelHigh s.rows (bad_label s.codes s.labels) (rest7 s) (length s.codes) shaped.lengths.codes_all place is

  module _ (place : Option ℕ) (is : place ≡ place_among (cells_of s) (walk (at_index (bad_order s) s.rows) (cells_of s) 0)) where
    stop7 : (p : ℕ) → place ≡ Some p → Err (refused OrderWrong p) ≡ rest7 s
    stop7 = reason_stop OrderWrong (cells_of s) (at_index (bad_order s) s.rows) (rest8 s) (cells_of s) refl place is

    go7 : place ≡ None → {r : Verdict} → r ≡ rest8 s → r ≡ rest7 s
    go7 = reason_go OrderWrong (cells_of s) (at_index (bad_order s) s.rows) (rest8 s) (cells_of s) refl place is

  module _ (place : Option ℕ) (is : place ≡ place_among (cells_of s) (walk (at_index (falls s) s.rows) (cells_of s) 0)) where
    stop8 : (p : ℕ) → place ≡ Some p → Err (refused ValueFalls p) ≡ rest8 s
    stop8 = reason_stop ValueFalls (cells_of s) (at_index (falls s) s.rows) (rest9 s) (cells_of s) refl place is

    go8 : place ≡ None → {r : Verdict} → r ≡ rest9 s → r ≡ rest8 s
    go8 = reason_go ValueFalls (cells_of s) (at_index (falls s) s.rows) (rest9 s) (cells_of s) refl place is

  module _ (place : Option ℕ) (is : place ≡ place_among s.columns (walk (bad_cuts s) s.columns 0)) where
    stop9 : (p : ℕ) → place ≡ Some p → Err (refused CutsWrong p) ≡ rest9 s
    stop9 = reason_stop CutsWrong s.columns (bad_cuts s) (Ok tt) s.columns refl place is

    go9 : place ≡ None → Ok tt ≡ rest9 s
    go9 e = reason_go CutsWrong s.columns (bad_cuts s) (Ok tt) s.columns refl place is e refl

-- ---- the goals

pub returns-in-Some : goal.returns-in-Some
returns-in-Some c =
    let s : Sheet = sheet_in c.args.sheet.now in
    ap (λ (r : Refusal). Err r) c.at.ensures ∙ stop5 s c.requires.0 _ c.first_bad_value.ensures _ c.in-Some.is

pub returns-in-Some-first_bad_label : goal.returns-in-Some-first_bad_label
returns-in-Some-first_bad_label c =
    let s : Sheet = sheet_in c.args.sheet.now in
    ap (λ (r : Refusal). Err r) c.at-in-Some-first_bad_label.ensures
    ∙ go5 s c.requires.0 _ c.first_bad_value.ensures c.in_default.is
    (stop6 s c.requires.0 _ c.first_bad_label.ensures _ c.in-Some-first_bad_label.is)

pub returns-in-Some-first_bad_order : goal.returns-in-Some-first_bad_order
returns-in-Some-first_bad_order c =
    let s : Sheet = sheet_in c.args.sheet.now in
    ap (λ (r : Refusal). Err r) c.at-in-Some-first_bad_order.ensures
    ∙ go5 s c.requires.0 _ c.first_bad_value.ensures c.in_default.is
    (go6 s c.requires.0 _ c.first_bad_label.ensures c.in_default-first_bad_label.is
    (stop7 s c.requires.0 _ c.first_bad_order.ensures _ c.in-Some-first_bad_order.is))

pub first_fall-requires : goal.first_fall-requires
first_fall-requires c = listed (sheet_in c.args.sheet.now) c.requires.0 _ c.first_bad_order.ensures c.in_default-first_bad_order.is

pub returns-in-Some-first_fall : goal.returns-in-Some-first_fall
returns-in-Some-first_fall c =
    let s : Sheet = sheet_in c.args.sheet.now in
    ap (λ (r : Refusal). Err r) c.at-in-Some-first_fall.ensures
    ∙ go5 s c.requires.0 _ c.first_bad_value.ensures c.in_default.is
    (go6 s c.requires.0 _ c.first_bad_label.ensures c.in_default-first_bad_label.is
    (go7 s c.requires.0 _ c.first_bad_order.ensures c.in_default-first_bad_order.is
    (stop8 s c.requires.0 _ c.first_fall.ensures _ c.in-Some-first_fall.is)))

pub first_bad_cuts-requires : goal.first_bad_cuts-requires
first_bad_cuts-requires c = listed (sheet_in c.args.sheet.now) c.requires.0 _ c.first_bad_order.ensures c.in_default-first_bad_order.is

pub returns-in-Some-first_bad_cuts : goal.returns-in-Some-first_bad_cuts
returns-in-Some-first_bad_cuts c =
    let s : Sheet = sheet_in c.args.sheet.now in
    ap (λ (r : Refusal). Err r) c.at-in-Some-first_bad_cuts.ensures
    ∙ go5 s c.requires.0 _ c.first_bad_value.ensures c.in_default.is
    (go6 s c.requires.0 _ c.first_bad_label.ensures c.in_default-first_bad_label.is
    (go7 s c.requires.0 _ c.first_bad_order.ensures c.in_default-first_bad_order.is
    (go8 s c.requires.0 _ c.first_fall.ensures c.in_default-first_fall.is
    (stop9 s c.requires.0 _ c.first_bad_cuts.ensures _ c.in-Some-first_bad_cuts.is))))

pub returns : goal.returns
returns c =
    let s : Sheet = sheet_in c.args.sheet.now in
    go5 s c.requires.0 _ c.first_bad_value.ensures c.in_default.is
    (go6 s c.requires.0 _ c.first_bad_label.ensures c.in_default-first_bad_label.is
    (go7 s c.requires.0 _ c.first_bad_order.ensures c.in_default-first_bad_order.is
    (go8 s c.requires.0 _ c.first_fall.ensures c.in_default-first_fall.is
    (go9 s c.requires.0 _ c.first_bad_cuts.ensures c.in_default-first_bad_cuts.is))))
