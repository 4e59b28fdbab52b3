-- A row that comes to a side is one row more and at most one mistake more, at the leaf that it goes to; after the last row what was seen is what
-- the definitions count. Assumes nothing.
use mathlib.Core.Path.{◌≡◌, refl, sym, ap, ap₂, ◌∙◌, subst}
use Prim.Native.Nat.{ℕ, ◌+◌, ◌*◌, ◌≤◌, ◌<◌, min}
use native.Mathlib.Omega.{arith}
use native.Mathlib.Numerals.{add-one}
use mathlib.Core.Bool.{Bool, not, ◌&&◌}
use mathlib.Core.List.{[], ◌∷◌}
use lib.Dec.{T, nleb→lt}
use Rattle.basics.specs.Choice.{bit}
use Rattle.basics.specs.Lists.{tally, table}
use Rattle.basics.proofs.Choice.{by_test, bit_true, bit_false, bit_and_true, bit_and_false, and_both, nand_left, nand_right, not_not}
use Rattle.basics.proofs.Lists.{table_next, tally_append, tally_le, length_table}
use Rattle.sheet.specs.Limits.{most_rows}
use Rattle.sheet.specs.Sheet.{Sheet, label_of}
use Rattle.sheet.specs.Rows.{sent_left, leftward, rightward, rows_at, wrong_at}
use Rattle.tree.specs.declared.Question.{Question}
use Rattle.tree.specs.declared.Leaf as leaf
use Rattle.tree.specs.declared.Side.{Side}
use Rattle.tree.specs.declared.Side.TheVariants.{Leaf, Split}
use Rattle.tree.specs.declared.Tree.{Tree}
use Rattle.judge.specs.declared.judge_rows.Reached.{Reached}
use Rattle.judge.specs.declared.judge_rows.Wrong.{Wrong}
use Rattle.judge.specs.declared.judge_rows.Seen.{Seen}
use Rattle.judge.specs.declared.judge_rows.Passed.{Passed}
use Rattle.judge.specs.declared.judge_rows.Judgement.{Judgement}
use Rattle.judge.specs.Mistakes.{root_leftward, root_rightward, reached_at, side_wrong, wrong_sum, support_of, judgement_of}
use Rattle.judge.specs.Passing.{first_rows, mistaken, nothing, reached_of, seen_of, passed_of, reached_by, next_of, wrong_seen, Few, SeenWithin}
use Rattle.judge.specs.Judge.{bad_column}

-- ---- a side's question asks a column of the sheet

pub asked : (columns : ℕ) (side : Side) (question : Question) (left right : leaf.Leaf) → side ≡ Split question left right
    → T (not (bad_column columns side)) → question.column < columns
unfolding bad_column
asked columns side question left right e h =
    nleb→lt columns question.column (subst (λ x. T (not (bad_column columns x))) e h)

-- ---- the next row

abbrev reach : ℕ → Reached
reach n = record { wrong = n }

abbrev mk : ℕ → Reached → Reached → Seen
mk a b d = record { rows = a; left = b; right = d }

same_seen : {a a' : ℕ} {b b' d d' : Reached} → a ≡ a' → b ≡ b' → d ≡ d' → mk a b d ≡ mk a' b' d'
same_seen e f g = cc

-- ---- one row more of the first rows

rows_more : (p : ℕ → Bool) (n : ℕ) → first_rows p (n + 1) ≡ first_rows p n + bit (p n)
rows_more p n =
    ap (λ k. first_rows p k) (add-one n) ∙ ap (λ l. tally p l) (table_next (λ r. r) n) ∙ tally_append p (table (λ r. r) n) (n ∷ []) ∙ (omega arith)

rows_yes : (p : ℕ → Bool) (n k : ℕ) → bit (p n) ≡ k → first_rows p n + k ≡ first_rows p (n + 1)
rows_yes p n k e = omega (arith, rows_more p n)

rows_no : (p : ℕ → Bool) (n : ℕ) → bit (p n) ≡ 0 → first_rows p n ≡ first_rows p (n + 1)
rows_no p n e = omega (arith, rows_more p n)

rows_most : (p : ℕ → Bool) (n : ℕ) → first_rows p n ≤ n
rows_most p n = omega (arith, tally_le p (table (λ r. r) n), length_table (λ r. r) n)

-- ---- at a leaf

module _ (s : Sheet) (mine : ℕ → Bool) (leaf : leaf.Leaf) (n : ℕ) where
  reach_comes : T (mine n) → reached_by (label_of s n) leaf (reached_of s mine leaf n) ≡ reached_of s mine leaf (n + 1)
  unfolding reached_by reached_of
  reach_comes t =
      ap reach
      (rows_yes (λ r. mine r && mistaken s leaf r) n (bit (mistaken s leaf n)) (bit_and_true (mine n) (mistaken s leaf n) t))

  reach_stays : T (not (mine n)) → reached_of s mine leaf n ≡ reached_of s mine leaf (n + 1)
  unfolding reached_of
  reach_stays t =
      ap reach (rows_no (λ r. mine r && mistaken s leaf r) n (bit_and_false (mine n) (mistaken s leaf n) t))

  reach_few : Few (reached_of s mine leaf n) n
  unfolding reached_of
  reach_few = record { wrong_in = rows_most (λ r. mine r && mistaken s leaf r) n }

reach_none : (s : Sheet) (mine : ℕ → Bool) (leaf : leaf.Leaf) → nothing ≡ reached_of s mine leaf 0
unfolding reached_of
reach_none s mine leaf = refl

-- ---- at a side

-- no more mistakes than twice the rows
wrong_most : (side : Side) (seen : Seen) (n : ℕ) → SeenWithin seen n → wrong_sum (wrong_seen side seen) ≤ 2 * n
unfolding wrong_seen wrong_sum
wrong_most (Leaf leaf) seen n w = omega (arith, w.left_in.wrong_in)
wrong_most (Split question left right) seen n w = omega (arith, w.left_in.wrong_in, w.right_in.wrong_in)

module _ (s : Sheet) (mine : ℕ → Bool) where
  -- a row that comes to the side
  pub seen_comes : (side : Side) (n : ℕ) → T (mine n) → next_of s side n (seen_of s mine side n) ≡ seen_of s mine side (n + 1)
  unfolding next_of seen_of
  seen_comes (Leaf leaf) n t = same_seen (rows_yes mine n 1 (bit_true (mine n) t)) (reach_comes s mine leaf n t) refl
  seen_comes (Split question left right) n t =
      let g : Bool = sent_left s question n in
      by_test (λ x. x ≡ seen_of s mine (Split question left right) (n + 1)) g
      (λ u.
      same_seen (rows_yes mine n 1 (bit_true (mine n) t)) (reach_comes s (leftward s question mine) left n (and_both (mine n) g t u))
      (reach_stays s (rightward s question mine) right n (nand_right (mine n) (not g) (not_not g u))))
      (λ u.
      same_seen (rows_yes mine n 1 (bit_true (mine n) t)) (reach_stays s (leftward s question mine) left n (nand_right (mine n) g u))
      (reach_comes s (rightward s question mine) right n (and_both (mine n) (not g) t u)))

  -- a row that goes to the other side
  pub seen_stays : (side : Side) (n : ℕ) → T (not (mine n)) → seen_of s mine side n ≡ seen_of s mine side (n + 1)
  unfolding seen_of
  seen_stays (Leaf leaf) n t = same_seen (rows_no mine n (bit_false (mine n) t)) (reach_stays s mine leaf n t) refl
  seen_stays (Split question left right) n t =
      let g : Bool = sent_left s question n in
      same_seen (rows_no mine n (bit_false (mine n) t)) (reach_stays s (leftward s question mine) left n (nand_left (mine n) g t))
      (reach_stays s (rightward s question mine) right n (nand_left (mine n) (not g) t))

  pub seen_none : (side : Side) → mk 0 nothing nothing ≡ seen_of s mine side 0
  unfolding seen_of
  seen_none (Leaf leaf) = same_seen refl (reach_none s mine leaf) refl
  seen_none (Split question left right) =
      same_seen refl (reach_none s (leftward s question mine) left) (reach_none s (rightward s question mine) right)

  pub seen_within : (side : Side) (n : ℕ) → SeenWithin (seen_of s mine side n) n
  unfolding seen_of
  seen_within (Leaf leaf) n =
      record { rows_in = rows_most mine n; left_in = reach_few s mine leaf n; right_in = record { wrong_in = omega arith } }
  seen_within (Split question left right) n =
      record {
        rows_in = rows_most mine n;
        left_in = reach_few s (leftward s question mine) left n;
        right_in = reach_few s (rightward s question mine) right n;
      }

  -- ---- after the last row

  seen_wrong : (side : Side) → wrong_seen side (seen_of s mine side s.rows) ≡ side_wrong s mine side
  unfolding seen_of reached_of wrong_seen side_wrong reached_at wrong_at
  seen_wrong (Leaf leaf) = refl
  seen_wrong (Split question left right) = refl

  seen_rows : (side : Side) → (seen_of s mine side s.rows).rows ≡ rows_at s mine
  unfolding seen_of rows_at
  seen_rows (Leaf leaf) = refl
  seen_rows (Split question left right) = refl

  module _ (side : Side) (seen : Seen) (e : seen ≡ seen_of s mine side s.rows) where
    wrong_by : wrong_seen side seen ≡ side_wrong s mine side
    wrong_by = ap (λ x. wrong_seen side x) e ∙ seen_wrong side

    rows_by : seen.rows ≡ rows_at s mine
    rows_by = ap (λ x. x.rows) e ∙ seen_rows side

    pub sum_most : (wrong : Wrong) → wrong ≡ wrong_seen side seen → s.rows ≤ most_rows → wrong_sum wrong ≤ 2 * most_rows
    sum_most wrong f h =
        let w : SeenWithin seen s.rows = subst (λ x. SeenWithin x s.rows) (sym e) (seen_within side s.rows) in
        omega (arith, wrong_most side seen s.rows w, ap wrong_sum f)

-- ---- both sides

module _ (s : Sheet) (t : Tree) where
  abbrev first : ℕ → Seen
  first n = seen_of s (root_leftward s t) t.left n

  abbrev second : ℕ → Seen
  second n = seen_of s (root_rightward s t) t.right n

  abbrev two : Seen → Seen → Passed
  two a b = record { left = a; right = b }

  pub passed : (left right : Seen) (n m : ℕ) → n ≡ m → left ≡ first n → right ≡ second n → two left right ≡ passed_of s t m
  unfolding passed_of
  passed left right n m e f g =
      ap (λ x. two x right) (f ∙ ap first e) ∙ ap (λ x. two (first m) x) (g ∙ ap second e)

  module _ (p : Passed) (e : p ≡ passed_of s t s.rows) where
    pub left_seen : p.left ≡ first s.rows
    unfolding passed_of
    left_seen = ap (λ x. x.left) e

    pub right_seen : p.right ≡ second s.rows
    unfolding passed_of
    right_seen = ap (λ x. x.right) e

    supported : min p.left.rows p.right.rows ≡ support_of s t
    unfolding support_of
    supported =
        ap₂ min (rows_by s (root_leftward s t) t.left p.left left_seen) (rows_by s (root_rightward s t) t.right p.right right_seen)

    abbrev all_of : ℕ → Wrong → Wrong → ℕ → Judgement
    all_of n l r k = record { mistakes = n; left = l; right = r; support = k }

    same_all : {n n' k k' : ℕ} {l l' r r' : Wrong} → n ≡ n' → l ≡ l' → r ≡ r' → k ≡ k' → all_of n l r k ≡ all_of n' l' r' k'
    same_all a b c d = cc

    pub summed : (left right : Wrong) (n m k : ℕ) → left ≡ wrong_seen t.left p.left → right ≡ wrong_seen t.right p.right
        → n ≡ wrong_sum left → m ≡ wrong_sum right → k ≡ min p.left.rows p.right.rows → all_of (n + m) left right k ≡ judgement_of s t
    unfolding judgement_of
    summed left right n m k a b c d f =
        let l : left ≡ side_wrong s (root_leftward s t) t.left = a ∙ wrong_by s (root_leftward s t) t.left p.left left_seen in
        let r : right ≡ side_wrong s (root_rightward s t) t.right = b ∙ wrong_by s (root_rightward s t) t.right p.right right_seen in
        same_all (ap₂ (λ x y. x + y) (c ∙ ap wrong_sum l) (d ∙ ap wrong_sum r)) l r (f ∙ supported)
