-- One pass over a column: what it has seen before a place, and what it has seen at the end. Assumes nothing.
use mathlib.Core.Path.{◌≡◌, sym, ap, ◌∙◌, subst}
use Prim.Native.Nat.{ℕ, ◌+◌, ◌-◌, ◌*◌, ◌≤◌, ◌<◌}
use native.Mathlib.Omega.{arith}
use mathlib.Core.Bool.{true, false, not}
use mathlib.Core.List.{List}
use lib.ListN.{length, get_or}
use lib.Dec.{T}
use lib.Ieee.{Float, nan, inf, fin, binary64, fits, is_nan, lt, eq}
use Rattle.basics.proofs.Choice.{reach, and_both, or_left, or_right, eqb_yes}
use Rattle.threshold.specs.Order.{is_at_most, comparable}
use Rattle.threshold.proofs.Compare.{le_or}
use Rattle.threshold.proofs.Keys.{eq→, →eq}
use Rattle.sheet.specs.Sheet.{Sheet, row_at, value_of, value_at, count_of, place_of}
use Rattle.sheet.specs.Laws.{Doubles}
use Rattle.sheet.specs.Check.{bad_order}
use Rattle.sheet.proofs.Search.{Clean, clean_none, clean_more, truth}
use Rattle.sheet.proofs.Values.{cut_yes, cut_no}
use Rattle.sheet_check.specs.Steps.{Taken, Passed}
use Rattle.sheet_check.proofs.Marks.{Marks, marks_none, marks_more, good}
use Rattle.sheet_check.proofs.Matched.{Matched, matched_none, matched_skip, matched_take, matched_end}

-- two equal values are no NaNs, so they are equal the other way round too
numbers : (x y : Float) → T (eq x y) → T (not (is_nan x)) × T (not (is_nan y))
unfolding eq is_nan
numbers nan y t = absurd t
numbers (inf s) nan t = absurd t
numbers (inf s) (inf u) t = (tt, tt)
numbers (inf s) (fin u n d) t = (tt, tt)
numbers (fin s m e) nan t = absurd t
numbers (fin s m e) (inf u) t = (tt, tt)
numbers (fin s m e) (fin u n d) t = (tt, tt)

pub equal_back : (x y : Float) → T (fits binary64 x) → T (fits binary64 y) → T (eq x y) → T (eq y x)
equal_back x y i j t =
    let n = numbers x y t in
    let a : T (comparable x) = and_both (fits binary64 x) (not (is_nan x)) i n.0 in
    let b : T (comparable y) = and_both (fits binary64 y) (not (is_nan y)) j n.1 in
    →eq y x b a (sym (eq→ x y a b t))

-- `last` is the value at the place before i
pub record Seen (s : Sheet) (c found i mark : ℕ) (last : Float) (marks : List ℕ) : Type 0 where
  pub met : Marks s c i mark marks
  pub in_order : Clean (bad_order s c) i
  pub climbs : (j : ℕ) → 1 ≤ j → j < i → T (is_at_most (value_at s c (j - 1)) (value_at s c j))
  pub cuts : Matched s c found i
  pub at : last ≡ value_at s c (i - 1)

-- a row taken
module _ {s : Sheet} {c i mark : ℕ} {marks : List ℕ} (m : Marks s c i mark marks) {row : ℕ} (e : row ≡ row_at s c i) {marks' : List ℕ}
    (t : Taken s.rows row mark marks marks') (l : s.rows ≤ length marks) where
  pub met_more : Marks s c (i + 1) mark marks'
  met_more = subst (λ w. Marks s c (i + 1) mark w) (sym t.marked) (marks_more s c i mark marks m row e (omega (arith, t.in_rows)))

  pub order_more : Clean (bad_order s c) i → Clean (bad_order s c) (i + 1)
  order_more h = clean_more h (good s c i mark marks m row e t.in_rows t.unmarked)

-- at the first place
pub seen_first : {s : Sheet} {c mark : ℕ} {marks : List ℕ} → ((r : ℕ) → get_or marks r 0 < mark) → {row : ℕ} → row ≡ row_at s c 0 → {marks' : List ℕ}
    → Taken s.rows row mark marks marks' → s.rows ≤ length marks → {v : Float} → v ≡ value_at s c 0 → Seen s c 0 1 mark v marks'
seen_first {s} {c} {mark} {marks} f e t l q =
    let m : Marks s c 0 mark marks = marks_none s c mark marks f in
    record {
      met = met_more m e t l;
      in_order = order_more m e t l clean_none;
      climbs = λ j a b. absurd (omega arith);
      cuts = matched_none s c;
      at = q;
    }

module _ {s : Sheet} {c found i mark : ℕ} {last : Float} {marks : List ℕ} (m : Seen s c found i mark last marks) where
  -- at a further one
  module _ {row : ℕ} (e : row ≡ row_at s c i) {marks' : List ℕ} (t : Taken s.rows row mark marks marks') (l : s.rows ≤ length marks) {v : Float}
      (q : v ≡ value_at s c i) where
    more : (k : ℕ) → Matched s c k (i + 1) → T (is_at_most last v) → Seen s c k (i + 1) mark v marks'
    more k cuts up =
        record {
          met = met_more m.met e t l;
          in_order = order_more m.met e t l m.in_order;
          climbs = λ j a b.
              reach j i (omega arith)
              (λ p. subst (λ n. T (is_at_most (value_at s c (n - 1)) (value_at s c n))) (sym p)
              (subst (λ x. T (is_at_most x (value_at s c i))) m.at (subst (λ y. T (is_at_most last y)) q up)))
              (λ p. m.climbs j a p);
          cuts = cuts;
          at = q ∙ ap (λ (n : ℕ). value_at s c n) (back i);
        }
      where
        back : (i : ℕ) → i ≡ i + 1 - 1
        back i = omega arith

    pub seen_rise : lt last v ≡ true → place_of s c found ≡ i → {k : ℕ} → k ≡ found + 1 → Seen s c k (i + 1) mark v marks'
    seen_rise h p {k} f =
        more k
        (subst (λ n. Matched s c n (i + 1)) (sym f)
        (matched_take s c found i m.cuts (cut_yes s c i v last q m.at (omega (arith, m.cuts.few)) h) p))
        (subst T (sym (le_or last v)) (or_left (lt last v) (eq last v) (truth h)))

    pub seen_level : lt last v ≡ false → T (eq last v) → {k : ℕ} → k ≡ found → Seen s c k (i + 1) mark v marks'
    seen_level h g {k} f =
        more k (subst (λ n. Matched s c n (i + 1)) (sym f) (matched_skip s c found i m.cuts (cut_no s c i v last q m.at h)))
        (subst T (sym (le_or last v)) (or_right (lt last v) (eq last v) g))

  -- at the end
  pub seen_all : Doubles s → i ≡ s.rows → found ≡ count_of s c → Passed s c
  unfolding value_at value_of
  seen_all doubles e p =
      record {
        in_order = λ j h. m.in_order.none j (omega arith);
        double = λ j. doubles (c * s.rows + row_at s c j);
        climbs = λ j a b. m.climbs j a (omega arith);
        matches = subst T (matched_end s c found i m.cuts e) (eqb_yes found (count_of s c) p);
      }
