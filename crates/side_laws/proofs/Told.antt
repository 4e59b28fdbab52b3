-- What a side says of itself is so, at every support: a split is taken at a cut between two values, where the rows counted are those that the threshold
-- sends left, so its counts are counts of those rows. Assumes nothing.
use mathlib.Core.Path.{◌≡◌, refl, sym, ap, ◌∙◌, subst}
use mathlib.Core.Logic.{◌⊎◌, inl, inr}
use Prim.Native.Nat.{ℕ, zero, suc, ◌+◌, ◌≤◌, ◌<◌}
use native.Mathlib.Omega.{arith}
use mathlib.Core.Bool.{Bool, true, false, not, ◌&&◌}
use mathlib.Core.List.{List, [], ◌∷◌}
use lib.ListN.{length, get_or}
use lib.Ieee.{Float, eq}
use Rattle.std.specs.Prelude.{Option, Some, None, unwrap_or}
use lib.Dec.{T, T_not, leb, ltb, eqb, leb→le, ltb→lt, eqb_refl}
use Rattle.basics.specs.Choice.{bit}
use Rattle.basics.specs.Lists.{All, tally, those}
use Rattle.basics.proofs.Choice.{decide, reach, and_left, and_right, nor_left}
use Rattle.basics.proofs.Lists.{all_map}
use Rattle.threshold.specs.Order.{key}
use Rattle.threshold.specs.Threshold.{threshold_of}
use Rattle.sheet.specs.Sheet.{Sheet, value_of, label_of, every_row, order_of, least_rows}
use Rattle.sheet.specs.Sound.{Sound}
use Rattle.sheet.specs.Rows.{rows_at}
use Rattle.side_scan.specs.declared.SideScan.{SideScan}
use Rattle.side_scan.specs.declared.cut_score.Best.{Best}
use Rattle.side_scan.specs.Commonest.{commonest, most_of}
use Rattle.side_scan.specs.Scored.{fallen, repeated, verdict_of, split_by}
use Rattle.side_scan.specs.Counts.{peaks_of}
use Rattle.side_scan.specs.OneSide.{nought, restarted, quiet, counted_of, later, rows_left, left_best, right_best, total_of, supported, takes, split_at, best_after, count_row, only_counted, scored}
use Rattle.leaves_score.specs.Column.{own_of, side_at_start, through}
use Rattle.leaves_score.specs.Kept.{Owns, Fits, Live}
use Rattle.side_scan.proofs.Commonest.{commonest_in}
use Rattle.leaves_score.proofs.Counts.{later_is, rows_left_lem, left_few, right_few}
use Rattle.leaves_score.proofs.Live.{best_taken, best_left, step_open, step_closed, open_counted, open_scored, owns_start, owns_cleared, start_live}
use Rattle.side_laws.specs.Alone.{column_alone, columns_alone, alone}
use Rattle.leaves_score.proofs.Single.{shut}
use Rattle.side_laws.proofs.Decouple.{owns_column}
use Rattle.side_laws.proofs.Tallies.{tally_not, tally_always, rows_alike}
use Rattle.side_laws.proofs.Fair.{key_of, alike}
use Rattle.side_laws.proofs.Past.{sent, kept, Between, Known, Past, past_step, past_cleared, left_tally, right_tally}

-- rows of the side that go to a part, and those of them that have another label
abbrev pub part_rows : Sheet → (ℕ → Bool) → (ℕ → Bool) → ℕ
part_rows s mine w = tally (λ r. mine r && w r) (every_row s)

abbrev pub part_wrong : Sheet → (ℕ → Bool) → (ℕ → Bool) → ℕ → ℕ
part_wrong s mine w l = tally (λ r. mine r && (w r && not (eqb (label_of s r) l))) (every_row s)

-- the count of the commonest label
abbrev pub leaf_count : Sheet → (ℕ → Bool) → ℕ
leaf_count s mine = most_of (λ l. get_or (own_of s mine) l 0) s.labels

-- the two parts of the rows at a key: their errors, and that each has rows enough
pub record PartsAt (s : Sheet) (support : ℕ) (mine : ℕ → Bool) (b : Best) (k : ℕ) : Type 0 where
  pub left_error : b.left.error ≡ part_wrong s mine (sent s b.question.column k) b.left.label
  pub right_error : b.right.error ≡ part_wrong s mine (kept s b.question.column k) b.right.label
  pub left_full : least_rows support ≤ part_rows s mine (sent s b.question.column k)
  pub right_full : least_rows support ≤ part_rows s mine (kept s b.question.column k)

-- a split taken, between two rows' values
pub record Taken (s : Sheet) (support : ℕ) (mine : ℕ → Bool) (b : Best) : Type 0 where
  pub column_in : b.question.column < s.columns
  pub lower_row : ℕ
  pub upper_row : ℕ
  pub lower_in : lower_row < s.rows
  pub upper_in : upper_row < s.rows
  pub ascends : key_of s b.question.column lower_row < key_of s b.question.column upper_row
  pub threshold_is : b.question.threshold ≡ threshold_of (value_of s b.question.column lower_row) (value_of s b.question.column upper_row)
  pub left_in : b.left.label < s.labels
  pub right_in : b.right.label < s.labels
  pub beats : leaf_count s mine < b.score
  pub errors : b.score + (b.left.error + b.right.error) ≡ rows_at s mine
  -- whatever key a threshold between them has
  pub parts : (k : ℕ) → key_of s b.question.column lower_row ≤ k → k < key_of s b.question.column upper_row → PartsAt s support mine b k

-- the best so far is the leaf, or a split taken
abbrev pub Good : Sheet → ℕ → (ℕ → Bool) → Best → Type 0
Good s support mine b = (b.score ≡ leaf_count s mine) ⊎ Taken s support mine b

pub good_leaf : (s : Sheet) (support : ℕ) (mine : ℕ → Bool) (b : Best) → Good s support mine b → leaf_count s mine ≤ b.score
good_leaf s support mine b (inl e) = omega arith
good_leaf s support mine b (inr x) = omega (arith, x.beats)

and_true : (b : Bool) → bit (b && true) ≡ bit b
and_true true = refl
and_true false = refl

and_and_true : (a b : Bool) → bit (a && (b && true)) ≡ bit (a && b)
and_and_true true b = and_true b
and_and_true false b = refl

no_rows : {A : Type 0} (xs : List A) → All (λ x. ⊥) xs → 1 ≤ length xs → ⊥
no_rows [] h k = omega arith
no_rows (x ∷ xs) h k = h.0

module _ (s : Sheet) (sound : Sound s) (support : ℕ) (mine : ℕ → Bool) (c : ℕ) (here : c < s.columns) where
  module _ (done rs : List ℕ) (r : ℕ) (t : SideScan) (past : Past s mine c done (r ∷ rs) t) (fits : Fits s (r ∷ rs) t) (owns : Owns s support mine t) where
    -- a supported cut has a previous value, and it lies below
    prior : (p : Option Float) → Between s c done (r ∷ rs) p → Known s c p → 1 ≤ length done → T (not (repeated p (value_of s c r)))
        → (y : ℕ) × (y < s.rows) × (unwrap_or p nought ≡ value_of s c y) × (key_of s c y < key_of s c r) × All (λ x. key_of s c x ≤ key_of s c y) done
    prior None b w h n = absurd (no_rows done b h)
    prior (Some p) b w h n =
        let k : key p ≡ key_of s c w.0 = ap key w.2 in (
          w.0,
          w.1,
          w.2,
          reach (key_of s c w.0) (key_of s c r) (omega (arith, b.1.0))
              (λ q. absurd (T_not (eq p (value_of s c r)) n (subst (λ (x : Float). T (eq x (value_of s c r))) (sym w.2)
              (subst T (sym (alike s sound c here w.0 r w.1 past.within.0)) (subst (λ (x : ℕ). T (eqb (key_of s c w.0) x)) q (eqb_refl (key_of s c w.0)))))))
              (λ k. k),
          all_map (λ x. key_of s c x ≤ key p) (λ x. key_of s c x ≤ key_of s c w.0) (λ x i. omega arith) done b.0,
        )

    in_labels : (l : ℕ) → l < t.labels → l < s.labels
    in_labels l h = omega (arith, owns.labels_is)

    left_wrong : left_best t + tally (λ x. not (eqb (label_of s x) (commonest (counted_of t) t.labels))) done ≡ t.counted
    unfolding peaks_of most_of
    left_wrong =
        let l : ℕ = commonest (counted_of t) t.labels in
        omega (arith, past.befores l (in_labels l (commonest_in _ _ fits.some)), tally_not (λ x. eqb (label_of s x) l) done, past.rows)

    right_wrong : right_best t + tally (λ x. not (eqb (label_of s x) (commonest (later t) t.labels))) (r ∷ rs) ≡ suc (length rs)
    unfolding peaks_of most_of
    right_wrong =
        let l : ℕ = commonest (later t) t.labels in
        omega (arith, later_is s (r ∷ rs) t fits l (commonest_in _ _ fits.some), tally_not (λ x. eqb (label_of s x) l) (r ∷ rs))

    one_least : (n : ℕ) → least_rows support ≤ n → 1 ≤ n
    one_least n h = omega arith

    parts_at : (k : ℕ) → All (λ x. key_of s c x ≤ k) done → All (λ x. k < key_of s c x) (r ∷ rs) → least_rows support ≤ t.counted → least_rows support ≤ rows_left t
        → PartsAt s support mine (split_at t c (value_of s c r)) k
    unfolding split_by peaks_of
    parts_at k low high a z =
        record {
          left_error = omega (arith, left_tally s mine c k done (r ∷ rs) past.parts low high (λ x. not (eqb (label_of s x) (commonest (counted_of t) t.labels))), left_wrong);
          right_error = omega (
            arith,
            right_tally s mine c k done (r ∷ rs) past.parts low high (λ x. not (eqb (label_of s x) (commonest (later t) t.labels))),
            right_wrong,
            rows_left_lem s (r ∷ rs) t fits,
          );
          left_full = omega (
            arith,
            left_tally s mine c k done (r ∷ rs) past.parts low high (λ _. true),
            tally_always done,
            past.rows,
            rows_alike s (λ x. mine x && (sent s c k x && true)) (λ x. mine x && sent s c k x) (λ x _. and_and_true (mine x) (sent s c k x)),
          );
          right_full = omega (
            arith,
            right_tally s mine c k done (r ∷ rs) past.parts low high (λ _. true),
            tally_always (r ∷ rs),
            rows_left_lem s (r ∷ rs) t fits,
            rows_alike s (λ x. mine x && (kept s c k x && true)) (λ x. mine x && kept s c k x) (λ x _. and_and_true (mine x) (kept s c k x)),
          );
        }

    cut_taken : T (supported t) → T (not (repeated t.previous (value_of s c r))) → leaf_count s mine < total_of t
        → Taken s support mine (split_at t c (value_of s c r))
    unfolding split_by peaks_of
    cut_taken y n g =
        let a : least_rows support ≤ t.counted = subst (λ (x : ℕ). x ≤ t.counted) owns.least_is (leb→le _ _ (and_left (leb t.least t.counted) _ y)) in
        let z : least_rows support ≤ rows_left t = subst (λ (x : ℕ). x ≤ rows_left t) owns.least_is (leb→le _ _ (and_right (leb t.least t.counted) _ y)) in
        let w = prior t.previous past.between past.known (one_least (length done) (subst (λ (x : ℕ). least_rows support ≤ x) past.rows a)) n in
        let left = rows_left_lem s (r ∷ rs) t fits in
        record {
          column_in = here;
          lower_row = w.0;
          upper_row = r;
          lower_in = w.1;
          upper_in = past.within.0;
          threshold_is = ap (λ (p : Float). threshold_of p (value_of s c r)) w.2;
          left_in = in_labels _ (commonest_in _ _ fits.some);
          right_in = in_labels _ (commonest_in _ _ fits.some);
          ascends = w.3;
          beats = g;
          errors = omega (arith, left_few s (r ∷ rs) t fits, right_few s (r ∷ rs) t fits, fits.rows, owns.size_is);
          parts = λ k h i. parts_at k (low k w.0 h w.4) (high k i) a z;
        }
      where
        low : (k y : ℕ) → key_of s c y ≤ k → All (λ x. key_of s c x ≤ key_of s c y) done → All (λ x. key_of s c x ≤ k) done
        low k y h v = all_map (λ x. key_of s c x ≤ key_of s c y) (λ x. key_of s c x ≤ k) (λ x i. omega arith) done v

        high : (k : ℕ) → k < key_of s c r → All (λ x. k < key_of s c x) (r ∷ rs)
        high k w = (w, all_map (λ x. key_of s c r ≤ key_of s c x) (λ x. k < key_of s c x) (λ x i. omega arith) rs past.ascending.0)

    pub good_after : T (not (quiet t (value_of s c r))) → Good s support mine t.best → Good s support mine (best_after t c (value_of s c r))
    unfolding verdict_of quiet
    good_after n g =
        decide (takes t)
        (λ y. subst (Good s support mine) (sym (best_taken t c (value_of s c r) y))
        (inr (cut_taken (and_left (supported t) _ y) (nor_left (repeated t.previous (value_of s c r)) (ltb 0 (fallen t.skip)) n)
        (omega (
          arith,
          good_leaf s support mine t.best g,
          ltb→lt t.best.score (total_of t) (and_right (supported t) _ y),
        )))))
        (λ y. subst (Good s support mine) (sym (best_left t c (value_of s c r) y)) g)

  -- ---- a column's rows

  pub rows_good : (rs done : List ℕ) (t : SideScan) → Live s rs t → (T (not t.closed) → Past s mine c done rs t) → Owns s support mine t
      → Good s support mine t.best → Good s support mine (through s c rs t).best
  unfolding through only_counted scored count_row
  rows_good [] done t h p o g = g
  rows_good (r ∷ rs) done t h p o g =
      decide t.closed
      (λ y. subst (λ (x : SideScan). Good s support mine x.best) (sym (ap (through s c rs) (step_closed t c (label_of s r) (value_of s c r) y) ∙ shut s c rs t y)) g)
      (λ n. let q = past_step s mine c sound.limited.labels_most done rs t.seen t.counted r t.previous (h n).fits.long (p n) in
      step_open t (λ x. Good s support mine (through s c rs x).best) c (label_of s r) (value_of s c r) n
      (λ _. rows_good rs (r ∷ done) (only_counted t (label_of s r) (value_of s c r)) (λ _. open_counted s c r rs t (h n)) (λ _. q) o g)
      (λ m. rows_good rs (r ∷ done) (scored t c (label_of s r) (value_of s c r)) (λ _. open_scored s c r rs t m (h n)) (λ _. q) o
      (good_after done rs r t (p n) (h n).fits o m g)))

-- ---- all columns

module _ (s : Sheet) (sound : Sound s) (support : ℕ) (mine : ℕ → Bool) where
  pub column_good : (c : ℕ) (t : SideScan) → c < s.columns → Owns s support mine t → Good s support mine t.best
      → Good s support mine (column_alone s mine c t).best
  unfolding column_alone
  column_good c t h o g =
      rows_good s sound support mine c h (those mine (order_of s c)) [] (restarted t) (start_live s sound support mine t o c h) (λ _. past_cleared s sound mine c h t)
      (owns_cleared s support mine t o) (unfold restarted in g)

  columns_good : (n c : ℕ) (t : SideScan) → c + n ≤ s.columns → Owns s support mine t → Good s support mine t.best
      → Good s support mine (columns_alone s mine n c t).best
  unfolding columns_alone
  columns_good zero c t h o g = g
  columns_good (suc n) c t h o g =
      columns_good n (suc c) (column_alone s mine c t) (omega arith) (owns_column s sound support mine c t o) (column_good c t (omega arith) o g)

  pub side_good : Good s support mine (alone s support mine).best
  unfolding alone
  side_good = columns_good s.columns 0 (side_at_start s support mine) (omega arith) (owns_start s support mine) (inl (unfold side_at_start in refl))
