-- A reason is given exactly when its condition holds, at no earlier place, and no lower one holds anywhere. Each test passes exactly where the plain
-- condition holds, the tests stand in the order of numbers and places, and two answers that both fit the conditions are the same one. Assumes
-- nothing.
use mathlib.Core.Path.{◌≡◌, refl, sym, ap, ◌∙◌, subst}
use mathlib.Core.Logic.{inl, inr, ⊎_elim}
use Prim.Native.Nat.{ℕ, zero, suc, ◌+◌, ◌≤◌, ◌<◌}
use native.Mathlib.Omega.{arith}
use mathlib.Core.Bool.{Bool, true, false, not}
use mathlib.Core.List.{List, [], ◌∷◌}
use lib.ListN.{length, get_or-eq_default}
use lib.Dec.{T, T_not, not_T, leb, eqb, leb→le, le→leb, eqb_refl}
use lib.Ieee.{Float}
use lib.Ieee.Scale.{finite}
use Rattle.std.specs.Prelude.{Result, Ok, Err}
use Rattle.std.proofs.Math.Option.{some}
use Rattle.basics.specs.Choice.{bit}
use Rattle.basics.specs.Lists.{tally}
use Rattle.basics.specs.Walk.{walk}
use Rattle.basics.proofs.Choice.{by_test, either, order, and_both, or_left, or_right}
use Rattle.basics.proofs.Lists.{length_table, tally_parts}
use Rattle.sheet.specs.Sheet.{Sheet, every_row}
use Rattle.sheet.specs.Check.{cells_of, size_holds, bad_value, bad_label}
use Rattle.sheet.specs.Rows.{sent_left, rows_at}
use Rattle.sheet.specs.Laws.{First}
use Rattle.sheet.specs.Reasons.{number_of, refused, reason_of}
use Rattle.sheet.specs.declared.refusals.Reason.{Reason}
use Rattle.sheet.specs.declared.refusals.Reason.TheVariants.{SizeOutside, LengthWrong, ValueOutside, LabelHigh, ColumnHigh, LeafHigh, ThresholdEndless}
use Rattle.sheet.specs.declared.refusals.Refusal.{Refusal}
use Rattle.sheet.proofs.Numbered.{None, next, none0, first_whole, scanned, same_refusal}
use Rattle.sheet.proofs.Answer.{limited}
use Rattle.sheet.proofs.Exact.{size_to, size_from, value_to, value_from, label_to, label_from}
use Rattle.tree.specs.declared.Side.{Side}
use Rattle.tree.specs.declared.Side.TheVariants.{Leaf, Split}
use Rattle.tree.specs.declared.Tree.{Tree}
use Rattle.judge.specs.declared.judge_rows.Judgement.{Judgement}
use Rattle.judge.specs.Mistakes.{root_leftward, root_rightward, all, judgement_of}
use Rattle.judge.specs.Judge.{judged_holds, bad_leaf, bad_threshold, bad_at, back, back_first, tree_checked, judge_of, bad_column}
use Rattle.judge.specs.Reasons.{places}
use Rattle.judge.specs.Laws.{JudgeLengths, AsksHigh, LeafAbove, AsksEndless, among, judge_conditions, JudgeCondition, JudgeGivenExactly, JudgedExactly, EveryRowCounted}
use Rattle.judge.proofs.Reasons.{values_length, codes_length}

-- ---- tests and conditions

lengths_to : (s : Sheet) → (JudgeLengths s → ⊥) → T (not (judged_holds s))
lengths_to s f =
    not_T (judged_holds s) (λ t. f (record { values_all = values_length s t; codes_all = codes_length s t }))

lengths_from : (s : Sheet) → T (not (judged_holds s)) → JudgeLengths s → ⊥
unfolding judged_holds
lengths_from s t l =
    T_not (judged_holds s) t
    (and_both (eqb (length s.values) (cells_of s)) (eqb (length s.codes) s.rows) (alike (length s.values) (cells_of s) l.values_all)
    (alike (length s.codes) s.rows l.codes_all))
  where
    alike : (m n : ℕ) → m ≡ n → T (eqb m n)
    alike m n e = subst (λ x. T (eqb m x)) e (eqb_refl m)

-- a test says whether a condition holds
record Says (A : Type 0) (a : Bool) : Type 0 where
  to : A → T a
  from : T a → A

never : Says ⊥ false
never = record { to = λ x. absurd x; from = λ x. absurd x }

high_says : (m n : ℕ) → Says (m ≤ n) (leb m n)
high_says m n = record { to = le→leb m n; from = leb→le m n }

endless_says : (x : Float) → Says (T (finite x) → ⊥) (not (finite x))
endless_says x = record { to = not_T (finite x); from = T_not (finite x) }

column_says : (columns : ℕ) (x : Side) → Says (AsksHigh columns x) (bad_column columns x)
unfolding bad_column
column_says columns (Leaf leaf) = never
column_says columns (Split question left right) = high_says columns question.column

leaf_says : (labels : ℕ) (x : Side) → Says (LeafAbove labels x) (bad_leaf labels x)
unfolding bad_leaf
leaf_says labels (Leaf leaf) = high_says labels leaf.label
leaf_says labels (Split question left right) =
    let l = high_says labels left.label in
    let r = high_says labels right.label in
    record {
      to = λ h. ⊎_elim (λ x. or_left (leb labels left.label) (leb labels right.label) (l.to x)) (λ x. or_right (leb labels left.label) (leb labels right.label) (r.to x)) h;
      from = λ h. either (leb labels left.label) (leb labels right.label) h (λ t. inl (l.from t)) (λ t. inr (r.from t));
    }

threshold_says : (x : Side) → Says (AsksEndless x) (bad_threshold x)
unfolding bad_threshold
threshold_says (Leaf leaf) = never
threshold_says (Split question left right) = endless_says question.threshold

-- conditions of the three places, and their tests
module _ {A B D : Type 0} {a b d : Bool} (f : Says A a) (g : Says B b) (h : Says D d) where
  three_to : (q : ℕ) → among (A ∷ B ∷ D ∷ []) q → (q < places) × T (bad_at a b d q)
  unfolding bad_at
  three_to zero x = (omega arith, f.to x)
  three_to (suc zero) x = (omega arith, g.to x)
  three_to (suc (suc zero)) x = (omega arith, h.to x)
  three_to (suc (suc (suc q))) x = absurd x

  three_from : (q : ℕ) → q < places → T (bad_at a b d q) → among (A ∷ B ∷ D ∷ []) q
  unfolding bad_at
  three_from zero l x = f.from x
  three_from (suc zero) l x = g.from x
  three_from (suc (suc zero)) l x = h.from x
  three_from (suc (suc (suc q))) l x = absurd x

-- ---- the answer fits the conditions

module _ (s : Sheet) (t : Tree) where
  abbrev C : ℕ → ℕ → Type 0
  C n p = JudgeCondition s t n p

  abbrev Fitting : Result Judgement Refusal → Type 0
  Fitting (Ok j) = (j ≡ judgement_of s t) × ((n p : ℕ) → C n p → ⊥)
  Fitting (Err r) = First C (number_of r.reason) r.place

  -- a test of the whole call
  by_whole : (reason : Reason) (k : ℕ) → number_of reason ≡ suc k → (holds : Bool) (rest : Result Judgement Refusal)
      → ((q : ℕ) → C (suc k) q → T (not holds)) → (T (not holds) → C (suc k) 0) → None C k → (T holds → None C (suc k) → Fitting rest)
      → Fitting (back reason 0 (not holds) rest)
  unfolding back
  by_whole reason k e holds rest to from none go =
      by_test Fitting (not holds) (λ u. subst (λ n. First C n 0) (sym e) (first_whole C k none (from u)))
      (λ u. go (twice holds u) (next C k none (λ q x. T_not holds (to q x) (twice holds u))))
    where
      twice : (b : Bool) → T (not (not b)) → T b
      twice true u = tt
      twice false u = u

  -- a search of many places
  by_scan : (reason : Reason) (k : ℕ) → number_of reason ≡ suc k → (places : ℕ) (bad : ℕ → Bool) (rest : Result Judgement Refusal)
      → ((q : ℕ) → C (suc k) q → (q < places) × T (bad q)) → ((q : ℕ) → q < places → T (bad q) → C (suc k) q) → None C k
      → (None C (suc k) → Fitting rest) → Fitting (back_first reason places bad rest)
  unfolding back_first back
  by_scan reason k e places bad rest to from none go =
      scanned C Fitting k places bad (Err (refused reason (walk bad places 0))) rest to from none
      (λ x. subst (λ n. First C n (walk bad places 0)) (sym e) x) go

  beyond : (m q : ℕ) → 12 < m → C m q → ⊥
  beyond m q h x = subst (λ X. X) (get_or-eq_default (judge_conditions s t q) ⊥ {n = m} (omega arith)) x

  -- a test at the three places
  by_places : (reason : Reason) (k : ℕ) → number_of reason ≡ suc k → {A B D : Type 0} {a b d : Bool} (rest : Result Judgement Refusal)
      → ((q : ℕ) → C (suc k) q ≡ among (A ∷ B ∷ D ∷ []) q) → None C k → (None C (suc k) → Fitting rest) → Says A a → Says B b → Says D d
      → Fitting (back_first reason places (bad_at a b d) rest)
  by_places reason k o {A} {B} {D} {a} {b} {d} rest e none go f g h =
      by_scan reason k o places (bad_at a b d) rest (λ q x. three_to f g h q (subst (λ X. X) (e q) x))
      (λ q l u. subst (λ X. X) (sym (e q)) (three_from f g h q l u)) none go

  -- reasons 10, 11 and 12
  tree_fits : None C 9 → Fitting (tree_checked s t)
  unfolding tree_checked
  tree_fits n9 =
      by_places ColumnHigh 9 refl _ (λ q. refl) n9
      (λ n10.
      by_places LeafHigh 10 refl _ (λ q. refl) n10
      (λ n11.
      by_places ThresholdEndless 11 refl (Ok (judgement_of s t)) (λ q. refl) n11
      (λ n12. (refl, λ m q x. order m 12 (λ l. n12 m q l x) (λ g. beyond m q g x)))
      (endless_says t.question.threshold) (threshold_says t.left) (threshold_says t.right))
      never (leaf_says s.labels t.left) (leaf_says s.labels t.right))
      (high_says s.columns t.question.column) (column_says s.columns t.left) (column_says s.columns t.right)

  fitting : Fitting (judge_of s t)
  unfolding judge_of
  fitting =
      by_whole SizeOutside 0 refl (size_holds s.rows s.columns s.labels) _ (λ q x. size_to s x.1) (λ u. (refl, size_from s u)) (none0 C (λ q x. x))
      (λ a n1.
      let some : 1 ≤ s.rows = (limited s a).rows_some in
      by_whole LengthWrong 1 refl (judged_holds s) _ (λ q x. lengths_to s x.1) (λ u. (refl, lengths_from s u)) n1
      (λ _ n2.
      let n4 : None C 4 = next C 3 (next C 2 n2 (λ q x. x)) (λ q x. x) in
      by_scan ValueOutside 4 refl (cells_of s) (bad_value s.values) _ (value_to s some) (value_from s some) n4
      (λ n5.
      by_scan LabelHigh 5 refl s.rows (bad_label s.codes s.labels) (tree_checked s t) (label_to s) (label_from s) n5
      (λ n6. tree_fits (next C 8 (next C 7 (next C 6 n6 (λ q x. x)) (λ q x. x)) (λ q x. x))))))

  -- ---- what an answer that fits says, and what the conditions say of it

  told : (r : Result Judgement Refusal) (n p : ℕ) → Fitting r → reason_of r ≡ some (n, p) → First C n p
  told (Ok j) n p x e = absurd cc
  told (Err r) n p x e =
      let q : ◌≡◌ {A = ℕ × ℕ} (number_of r.reason, r.place) (n, p) = cc in
      subst (λ (k : ℕ × ℕ). First C k.0 k.1) q x

  refusal : (r : Result Judgement Refusal) (n p : ℕ) → Fitting r → First C n p → reason_of r ≡ some (n, p)
  refusal (Ok j) n p x y = absurd (x.1 n p y.here)
  refusal (Err r) n p x y = let w = same_refusal C (number_of r.reason) r.place n p x y in cc

  judged : (r : Result Judgement Refusal) (j : Judgement) → Fitting r → r ≡ Ok j → (j ≡ judgement_of s t) × ((n p : ℕ) → C n p → ⊥)
  judged r j x e = subst Fitting e x

  passed : (r : Result Judgement Refusal) → Fitting r → ((n p : ℕ) → C n p → ⊥) → r ≡ Ok (judgement_of s t)
  passed (Ok j) x none = ap (λ k. Ok k) x.0
  passed (Err r) x none = absurd (none (number_of r.reason) r.place x.here)

-- ---- the laws

pub given_exactly : JudgeGivenExactly
given_exactly s t n p = (told s t (judge_of s t) n p (fitting s t), refusal s t (judge_of s t) n p (fitting s t))

pub judged_exactly : JudgedExactly
judged_exactly s t j = (judged s t (judge_of s t) j (fitting s t), passed s t (judge_of s t) (fitting s t))

-- ---- every row is counted

tally_all : (xs : List ℕ) → tally all xs ≡ length xs
tally_all [] = refl
tally_all (x ∷ xs) = omega (arith, tally_all xs)

pub every_row_counted : EveryRowCounted
unfolding rows_at
every_row_counted s t =
    sym
    (tally_parts (root_leftward s t) (root_rightward s t) all (λ r. one (sent_left s t.question r)) (every_row s))
    ∙ tally_all (every_row s) ∙ length_table (λ r. r) s.rows
  where
    one : (b : Bool) → bit true ≡ bit b + bit (not b)
    one true = refl
    one false = refl
