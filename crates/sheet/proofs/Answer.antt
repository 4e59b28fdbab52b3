-- What reasons 1 and 2 leave of the sheet; and the answer behind each reason. Assumes nothing.
use Prim.Native.Nat.{ℕ, ◌≤◌}
use mathlib.Core.Bool.{Bool, ◌&&◌}
use lib.ListN.{length}
use lib.Dec.{T, leb, eqb, leb→le, eqb→eq}
use Rattle.basics.proofs.Choice.{and_left, and_right}
use Rattle.sheet.specs.declared.Terms.{Terms}
use Rattle.std.specs.Prelude.{Ok}
use Rattle.sheet.specs.declared.refusals.Reason.TheVariants.{LengthWrong, ScratchShort, TermAbove, LabelHigh, OrderWrong, ValueFalls, CutsWrong}
use Rattle.sheet.specs.Limits.{most_rows, most_columns, most_labels, most_support, most_error}
use Rattle.sheet.specs.Sheet.{Sheet}
use Rattle.sheet.specs.Sound.{Limited}
use Rattle.sheet.specs.Laws.{Lengths, TermsLimited}
use Rattle.sheet.specs.Check.{cells_of, between, grid_holds, size_holds, lengths_hold, bad_label, bad_order, falls, bad_cuts, at_index, Verdict, reason, content_of, whole, terms_hold, scratch_holds}

-- ---- reasons 1 to 4

within_limits : (least n most : ℕ) → T (between least n most) → (least ≤ n) × (n ≤ most)
within_limits least n most t =
    (leb→le least n (and_left (leb least n) (leb n most) t), leb→le n most (and_right (leb least n) (leb n most) t))

module _ (rows columns : ℕ) (t : T (grid_holds rows columns)) where
  pub rows_inside : (1 ≤ rows) × (rows ≤ most_rows)
  unfolding grid_holds
  rows_inside = within_limits 1 rows most_rows (and_left (between 1 rows most_rows) (between 1 columns most_columns) t)

  pub columns_inside : (1 ≤ columns) × (columns ≤ most_columns)
  unfolding grid_holds
  columns_inside = within_limits 1 columns most_columns (and_right (between 1 rows most_rows) (between 1 columns most_columns) t)

module _ (rows columns labels : ℕ) (t : T (size_holds rows columns labels)) where
  pub grid_inside : T (grid_holds rows columns)
  unfolding size_holds
  grid_inside = and_left (grid_holds rows columns) (between 1 labels most_labels) t

  pub labels_inside : (1 ≤ labels) × (labels ≤ most_labels)
  unfolding size_holds
  labels_inside = within_limits 1 labels most_labels (and_right (grid_holds rows columns) (between 1 labels most_labels) t)

pub limited : (s : Sheet) → T (size_holds s.rows s.columns s.labels) → Limited s
limited s t =
    let g : T (grid_holds s.rows s.columns) = grid_inside s.rows s.columns s.labels t in
    let r : (1 ≤ s.rows) × (s.rows ≤ most_rows) = rows_inside s.rows s.columns g in
    let c : (1 ≤ s.columns) × (s.columns ≤ most_columns) = columns_inside s.rows s.columns g in
    let l : (1 ≤ s.labels) × (s.labels ≤ most_labels) = labels_inside s.rows s.columns s.labels t in
    record { rows_some = r.0; rows_most = r.1; columns_some = c.0; columns_most = c.1; labels_some = l.0; labels_most = l.1 }

pub terms_limited : (t : Terms) → T (terms_hold t) → TermsLimited t
unfolding terms_hold
terms_limited t h =
    let a : Bool = leb t.support most_support in
    let b : Bool = leb t.gap most_error in
    let d : Bool = leb t.error most_error in
    let e : Bool = leb t.bound most_error in
    let u : T (a && b && d) = and_left (a && b && d) e h in
    let v : T (a && b) = and_left (a && b) d u in
    record {
      support = leb→le t.support most_support (and_left a b v);
      gap = leb→le t.gap most_error (and_right a b v);
      error = leb→le t.error most_error (and_right (a && b) d u);
      bound = leb→le t.bound most_error (and_right (a && b && d) e h);
    }

pub measured_lists : (s : Sheet) → T (lengths_hold s) → Lengths s
unfolding lengths_hold
measured_lists s t =
    let a : Bool = eqb (length s.values) (cells_of s) in
    let b : Bool = eqb (length s.codes) s.rows in
    let d : Bool = eqb (length s.order) (cells_of s) in
    let e : Bool = eqb (length s.cuts) (cells_of s) in
    let f : Bool = eqb (length s.counts) s.columns in
    let u : T (a && b && d && e) = and_left (a && b && d && e) f t in
    let v : T (a && b && d) = and_left (a && b && d) e u in
    let w : T (a && b) = and_left (a && b) d v in
    record {
      values_all = eqb→eq (length s.values) (cells_of s) (and_left a b w);
      codes_all = eqb→eq (length s.codes) s.rows (and_right a b w);
      order_all = eqb→eq (length s.order) (cells_of s) (and_right (a && b) d v);
      cuts_all = eqb→eq (length s.cuts) (cells_of s) (and_right (a && b && d) e u);
      counts_all = eqb→eq (length s.counts) s.columns (and_right (a && b && d && e) f t);
    }

module _ (s : Sheet) (t : Terms) (words : ℕ) where
  abbrev pub rest4 : Verdict
  rest4 = whole TermAbove (terms_hold t) (content_of s)

  abbrev pub rest3 : Verdict
  rest3 = whole ScratchShort (scratch_holds s words) rest4

  abbrev pub rest2 : Verdict
  rest2 = whole LengthWrong (lengths_hold s) rest3

-- ---- reasons 5 to 9

module _ (s : Sheet) where
  abbrev pub rest9 : Verdict
  rest9 = reason CutsWrong s.columns (bad_cuts s) (Ok tt)

  abbrev pub rest8 : Verdict
  rest8 = reason ValueFalls (cells_of s) (at_index (falls s) s.rows) rest9

  abbrev pub rest7 : Verdict
  rest7 = reason OrderWrong (cells_of s) (at_index (bad_order s) s.rows) rest8

  abbrev pub rest6 : Verdict
  rest6 = reason LabelHigh s.rows (bad_label s.codes s.labels) rest7
