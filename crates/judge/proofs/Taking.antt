-- A tree that the judge takes has passed each test at each of its places, and one that passes them all is taken; of a sheet that the input check
-- accepts the judge looks at the tree alone. Assumes nothing.
use mathlib.Core.Path.{◌≡◌, ◌∙◌}
use Prim.Native.Nat.{ℕ, ◌<◌}
use mathlib.Core.Bool.{Bool, true, false, not, ◌&&◌}
use lib.ListN.{length}
use lib.Dec.{T, leb, ltb, eqb, nleb→lt}
use lib.Ieee.Scale.{finite}
use Rattle.std.specs.Prelude.{Result, Ok, Err}
use Rattle.basics.specs.Choice.{pick}
use Rattle.basics.specs.Walk.{walk}
use Rattle.basics.proofs.Choice.{pick_false, nleb, not_not}
use Rattle.sheet.specs.Sheet.{Sheet}
use Rattle.sheet.specs.declared.Terms.{Terms}
use Rattle.sheet.specs.Check.{cells_of, size_holds, lengths_hold, scratch_holds, terms_hold, bad_value, bad_label, Verdict, reason, content_of, check_of}
use Rattle.sheet.specs.Reasons.{refused}
use Rattle.sheet.specs.declared.refusals.Reason.{Reason}
use Rattle.sheet.specs.declared.refusals.Reason.TheVariants.{SizeOutside, LengthWrong, ScratchShort, TermAbove, ValueOutside, LabelHigh, ColumnHigh, LeafHigh, ThresholdEndless}
use Rattle.sheet.specs.declared.refusals.Refusal.{Refusal}
use Rattle.tree.specs.declared.Side.{Side}
use Rattle.tree.specs.declared.Tree.{Tree}
use Rattle.judge.specs.declared.judge_rows.Judgement.{Judgement}
use Rattle.judge.specs.Mistakes.{judgement_of}
use Rattle.judge.specs.Reasons.{places}
use Rattle.judge.specs.Judge.{judged_holds, bad_leaf, bad_threshold, back, back_first, bad_at, bad_columns, bad_leaves, bad_thresholds, tree_checked, judge_of, bad_column}

-- ---- one reason after another

-- no reason held, so it went on
went_on : (reason : Reason) (place : ℕ) (bad : Bool) (rest : Result Judgement Refusal) (j : Judgement) → back reason place bad rest ≡ Ok j
    → T (not bad) × (rest ≡ Ok j)
unfolding back pick
went_on reason place true rest j e = absurd cc
went_on reason place false rest j e = (tt, e)

goes_on : (reason : Reason) (place : ℕ) (bad : Bool) (rest : Result Judgement Refusal) → T (not bad) → back reason place bad rest ≡ rest
unfolding back
goes_on reason place bad rest h = pick_false bad (Err (refused reason place)) rest h

goes_on_first : (reason : Reason) (places : ℕ) (bad : ℕ → Bool) (rest : Result Judgement Refusal) → T (not (ltb (walk bad places 0) places))
    → back_first reason places bad rest ≡ rest
unfolding back_first
goes_on_first reason places bad rest h = goes_on reason (walk bad places 0) (ltb (walk bad places 0) places) rest h

went_on_first : (reason : Reason) (places : ℕ) (bad : ℕ → Bool) (rest : Result Judgement Refusal) (j : Judgement)
    → back_first reason places bad rest ≡ Ok j → T (not (ltb (walk bad places 0) places)) × (rest ≡ Ok j)
unfolding back_first
went_on_first reason places bad rest j e = went_on reason (walk bad places 0) (ltb (walk bad places 0) places) rest j e

-- ---- the tests at the three places

-- a test fails at none of them
abbrev Passes : Bool → Bool → Bool → Type 0
Passes root left right = T (not (ltb (walk (bad_at root left right) places 0) places))

passed_each : (root left right : Bool) → Passes root left right → T (not root) × T (not left) × T (not right)
unfolding walk pick bad_at
passed_each true left right h = absurd h
passed_each false true right h = absurd h
passed_each false false true h = absurd h
passed_each false false false h = (tt, tt, tt)

each_passed : (root left right : Bool) → T (not root) → T (not left) → T (not right) → Passes root left right
unfolding walk pick bad_at
each_passed true left right a b d = absurd a
each_passed false true right a b d = absurd b
each_passed false false true a b d = absurd d
each_passed false false false a b d = tt

-- ---- a tree that is taken

-- what is known then of a side
pub record Taken (s : Sheet) (x : Side) : Type 0 where
  pub column : T (not (bad_column s.columns x))
  pub leaf : T (not (bad_leaf s.labels x))
  pub threshold : T (not (bad_threshold x))

pub record Accepts (s : Sheet) (t : Tree) (j : Judgement) : Type 0 where
  pub column : t.question.column < s.columns
  pub threshold : T (finite t.question.threshold)
  pub left : Taken s t.left
  pub right : Taken s t.right
  pub judgement : judgement_of s t ≡ j

pub twice_not : (b : Bool) → T (not (not b)) → T b
twice_not true h = tt
twice_not false h = h

same_judged : (i j : Judgement) → ◌≡◌ {A = Result Judgement Refusal} (Ok i) (Ok j) → i ≡ j
same_judged i j e = cc

pub accepts : (s : Sheet) (t : Tree) (j : Judgement) → judge_of s t ≡ Ok j → Accepts s t j
unfolding judge_of tree_checked
accepts s t j e =
    let e₁ = went_on SizeOutside 0 (not (size_holds s.rows s.columns s.labels)) _ j e in
    let e₂ = went_on LengthWrong 0 (not (judged_holds s)) _ j e₁.1 in
    let e₅ = went_on_first ValueOutside (cells_of s) (bad_value s.values) _ j e₂.1 in
    let e₆ = went_on_first LabelHigh s.rows (bad_label s.codes s.labels) _ j e₅.1 in
    let e₁₀ = went_on_first ColumnHigh places (bad_columns s t) _ j e₆.1 in
    let e₁₁ = went_on_first LeafHigh places (bad_leaves s t) _ j e₁₀.1 in
    let e₁₂ = went_on_first ThresholdEndless places (bad_thresholds t) _ j e₁₁.1 in
    let columns = passed_each (leb s.columns t.question.column) (bad_column s.columns t.left) (bad_column s.columns t.right) e₁₀.0 in
    let leaves = passed_each false (bad_leaf s.labels t.left) (bad_leaf s.labels t.right) e₁₁.0 in
    let thresholds = passed_each (not (finite t.question.threshold)) (bad_threshold t.left) (bad_threshold t.right) e₁₂.0 in
    record {
      column = nleb→lt s.columns t.question.column columns.0;
      threshold = twice_not (finite t.question.threshold) thresholds.0;
      left = record { column = columns.1; leaf = leaves.1; threshold = thresholds.1 };
      right = record { column = columns.2; leaf = leaves.2; threshold = thresholds.2 };
      judgement = same_judged (judgement_of s t) j e₁₂.1;
    }

-- and one of which all this is known is judged
pub taken : (s : Sheet) (t : Tree) → t.question.column < s.columns → T (finite t.question.threshold) → Taken s t.left → Taken s t.right
    → tree_checked s t ≡ Ok (judgement_of s t)
unfolding tree_checked
taken s t h f l r =
    goes_on_first ColumnHigh places (bad_columns s t) _
    (each_passed (leb s.columns t.question.column) (bad_column s.columns t.left) (bad_column s.columns t.right)
    (nleb s.columns t.question.column h) l.column r.column)
    ∙ goes_on_first LeafHigh places (bad_leaves s t) _
    (each_passed false (bad_leaf s.labels t.left) (bad_leaf s.labels t.right) tt l.leaf r.leaf)
    ∙ goes_on_first ThresholdEndless places (bad_thresholds t) _
    (each_passed (not (finite t.question.threshold)) (bad_threshold t.left) (bad_threshold t.right)
    (not_not (finite t.question.threshold) f) l.threshold r.threshold)

-- ---- what the input check accepts, the judge does not turn back for its sheet

check_on : (why : Reason) (place : ℕ) (bad : Bool) (rest : Verdict) → pick bad (Err (refused why place)) rest ≡ Ok tt
    → T (not bad) × (rest ≡ Ok tt)
unfolding pick
check_on why place true rest e = absurd cc
check_on why place false rest e = (tt, e)

whole_on : (why : Reason) (good : Bool) (rest : Verdict) → pick good rest (Err (refused why 0)) ≡ Ok tt → T good × (rest ≡ Ok tt)
unfolding pick
whole_on why true rest e = (tt, e)
whole_on why false rest e = absurd cc

reason_on : (why : Reason) (places : ℕ) (bad : ℕ → Bool) (rest : Verdict) → reason why places bad rest ≡ Ok tt
    → T (not (ltb (walk bad places 0) places)) × (rest ≡ Ok tt)
unfolding reason
reason_on why places bad rest e = check_on why (walk bad places 0) (ltb (walk bad places 0) places) rest e

-- the judge looks at two of the five lengths
fewer : (a b c d e : Bool) → T (a && b && c && d && e) → T (not (not (a && b)))
fewer true true c d e h = tt
fewer true false c d e h = h
fewer false b c d e h = h

pub same_sheet : (s : Sheet) (t : Terms) (words : ℕ) → check_of s t words ≡ Ok tt → (tree : Tree) → judge_of s tree ≡ tree_checked s tree
unfolding check_of content_of judge_of lengths_hold judged_holds
same_sheet s t words e tree =
    let a = whole_on SizeOutside (size_holds s.rows s.columns s.labels) _ e in
    let b = whole_on LengthWrong (lengths_hold s) _ a.1 in
    let c = whole_on ScratchShort (scratch_holds s words) _ b.1 in
    let d = whole_on TermAbove (terms_hold t) _ c.1 in
    let f = reason_on ValueOutside (cells_of s) (bad_value s.values) _ d.1 in
    let g = reason_on LabelHigh s.rows (bad_label s.codes s.labels) _ f.1 in
    goes_on SizeOutside 0 (not (size_holds s.rows s.columns s.labels)) _ (not_not (size_holds s.rows s.columns s.labels) a.0)
    ∙ goes_on LengthWrong 0 (not (judged_holds s)) _
    (fewer (eqb (length s.values) (cells_of s)) (eqb (length s.codes) s.rows) (eqb (length s.order) (cells_of s)) (eqb (length s.cuts) (cells_of s)) (eqb (length s.counts) s.columns) b.0)
    ∙ goes_on_first ValueOutside (cells_of s) (bad_value s.values) _ f.0
    ∙ goes_on_first LabelHigh s.rows (bad_label s.codes s.labels) (tree_checked s tree) g.0
