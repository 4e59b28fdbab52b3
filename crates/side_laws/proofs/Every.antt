-- At every support a side's scan of a column takes the first best of what the column offers. A skipped row offers nothing better, since the total rises by at
-- most one a row; where a side closes for a long skip, nothing better is offered any more. Assumes nothing.
use mathlib.Core.Path.{◌≡◌, refl, sym, ap, ◌∙◌, subst}
use Prim.Native.Nat.{ℕ, zero, suc, ◌+◌, ◌≤◌, ◌<◌}
use native.Mathlib.Omega.{arith}
use mathlib.Core.Bool.{Bool, true, false, not, ◌&&◌}
use mathlib.Core.List.{List, [], ◌∷◌}
use lib.ListN.{length}
use lib.Ieee.{Float, eq}
use Rattle.std.specs.Prelude.{Option, Some, None}
use lib.Dec.{T, T_not, not_T, leb, ltb, eqb, leb→le, ltb→lt, eqb→eq}
use Rattle.basics.specs.Choice.{pick}
use Rattle.basics.specs.Lists.{All, those}
use Rattle.basics.proofs.Choice.{by_test, decide, either, and_left, and_right, nor_left, pick_true, pick_false, not_not, nand_left}
use Rattle.sheet.specs.Sheet.{Sheet, value_of, label_of, order_of}
use Rattle.sheet.specs.Sound.{Sound}
use Rattle.sheet.specs.Rows.{rows_at}
use Rattle.side_scan.specs.declared.SideScan.{SideScan}
use Rattle.side_scan.specs.declared.cut_score.Best.{Best}
use Rattle.side_scan.specs.Counts.{peaks_of}
use Rattle.side_scan.specs.Scored.{fallen, repeated, verdict_of, split_by}
use Rattle.side_scan.specs.OneSide.{restarted, quiet, rows_left, left_best, right_best, total_of, supported, takes, split_at, best_after, skip_after, closes, count_row, only_counted, scored, at_start}
use Rattle.leaves_score.specs.Column.{own_of, side_at_start, through}
use Rattle.leaves_score.specs.Kept.{Owns, Fits, Open}
use Rattle.leaves_score.proofs.Counts.{rows_left_lem}
use Rattle.leaves_score.proofs.Live.{best_left, skip_taken, skip_left, skip_low, step_open, open_counted, open_scored, owns_start, start_live}
use Rattle.side_laws.specs.Alone.{column_alone, columns_alone, alone}
use Rattle.side_laws.specs.First.{starts, better, first_best}
use Rattle.side_laws.specs.Every.{pure_from, offers_from, offers_of, all_offers, Offered}
use Rattle.side_laws.proofs.Tests.{pick_and, pick_and_true, pick_same}
use Rattle.leaves_score.proofs.Single.{shut}
use Rattle.side_laws.proofs.Decouple.{owns_column}
use Rattle.side_laws.proofs.Best.{bare, better_low, first_low, first_append, split_score, next, next_fits, next_total, next_left, total_pure}

-- ---- laws of pick
pick_move : (q : Bool) (b n : Best) (y : List Best) → first_best b (pick q (n ∷ y) y) ≡ first_best (pick q (better b n) b) y
unfolding pick first_best
pick_move true b n y = refl
pick_move false b n y = refl

-- a value that repeats does not start
repeats : (p : Option Float) (v : Float) → T (repeated p v) → T (not (starts p v))
repeats None v y = absurd y
repeats (Some p) v y = not_not (eq p v) y

module _ (s : Sheet) (c : ℕ) (b0 : Best) where
  -- what is to come, wherever the scan stands
  unfoldable pub offers : SideScan → List ℕ → List Best
  offers t rs = offers_from s c (bare b0 t) rs

  abbrev on : ℕ → List ℕ → SideScan → List Best
  on r rs t = pick (pure_from t (value_of s c r)) [] (offers (next s c r t) rs)

  abbrev offered : ℕ → SideScan → Bool
  offered r t = starts t.previous (value_of s c r) && supported t

  pub offers_none : (t : SideScan) → offers t [] ≡ []
  unfolding offers offers_from
  offers_none t = refl

  pub offers_step : (r : ℕ) (rs : List ℕ) (t : SideScan) → offers t (r ∷ rs) ≡ pick (offered r t) (split_at t c (value_of s c r) ∷ on r rs t) (on r rs t)
  unfolding offers offers_from only_counted count_row split_by peaks_of pure_from
  offers_step r rs t = refl

  offers_scored : (r : ℕ) (rs : List ℕ) (t : SideScan) → offers (scored t c (label_of s r) (value_of s c r)) rs ≡ offers (next s c r t) rs
  unfolding offers only_counted scored count_row
  offers_scored r rs t = refl

  -- ---- offers that cannot beat n

  abbrev Low : ℕ → List Best → Type 0
  Low n = All (λ b. b.score ≤ n)

  low_step : (r : ℕ) (rs : List ℕ) (t : SideScan) (n : ℕ) → total_of t ≤ n → Low n (offers (next s c r t) rs) → Low n (offers t (r ∷ rs))
  low_step r rs t n h g =
      let y : Low n (on r rs t) = by_test (Low n) (pure_from t (value_of s c r)) (λ _. tt) (λ _. g) in
      subst (Low n) (sym (offers_step r rs t)) (by_test (Low n) (offered r t) (λ _. (omega (arith, split_score t c (value_of s c r)), y)) (λ _. y))

  low_far : (rs : List ℕ) (t : SideScan) (n : ℕ) → Fits s rs t → total_of t + length rs ≤ suc n → Low n (offers t rs)
  low_far [] t n h g = subst (Low n) (sym (offers_none t)) tt
  low_far (r ∷ rs) t n h g =
      low_step r rs t n (omega arith) (low_far rs (next s c r t) n (next_fits s c r rs t h) (omega (arith, next_total s c r rs t h)))

  low_pure : (rs : List ℕ) (t : SideScan) (n : ℕ) → Fits s rs t → left_best t + length rs ≤ n → Low n (offers t rs)
  low_pure [] t n h g = subst (Low n) (sym (offers_none t)) tt
  low_pure (r ∷ rs) t n h g =
      low_step r rs t n (omega (arith, total_pure s (r ∷ rs) t h))
      (low_pure rs (next s c r t) n (next_fits s c r rs t h) (omega (arith, next_left s c r rs t h)))

  -- a remainder of one label, whose cut is not better, has no better cut
  pure_low : (r : ℕ) (rs : List ℕ) (t : SideScan) (n : ℕ) → Fits s (r ∷ rs) t → total_of t ≤ n → right_best t ≡ rows_left t → Low n (offers (next s c r t) rs)
  pure_low r rs t n h g q =
      low_pure rs (next s c r t) n (next_fits s c r rs t h) (omega (arith, rows_left_lem s (r ∷ rs) t h, next_left s c r rs t h))

  -- ---- the scan against the offers

  -- before the first row nothing is counted
  abbrev pub Started : SideScan → Option Float → Type 0
  Started t None = t.counted ≡ 0
  Started t (Some p) = Unit {0}

  module _ (r : ℕ) (rs : List ℕ) (t : SideScan) (some : 1 ≤ t.least) (h : Open s (r ∷ rs) t) where
    unsupported : t.counted ≡ 0 → T (not (supported t))
    unsupported e =
        not_T (supported t)
        (λ y. absurd (omega (arith, leb→le t.least t.counted (and_left (leb t.least t.counted) (leb t.least (rows_left t)) y))))

    -- a scored row takes its cut if that is supported and better
    after_offer : (p : Option Float) → Started t p → T (not (repeated p (value_of s c r)))
        → best_after t c (value_of s c r)
        ≡ pick (starts p (value_of s c r) && supported t) (better t.best (split_at t c (value_of s c r))) t.best
    unfolding best_after verdict_of better split_by
    after_offer None e n =
        pick_and (supported t) (ltb t.best.score (total_of t)) _ _ ∙ pick_false (supported t) _ _ (unsupported e) ∙ sym (pick_false false _ _ tt)
    after_offer (Some p) e n =
        pick_and (supported t) (ltb t.best.score (total_of t)) _ _
        ∙ sym (pick_and (not (eq p (value_of s c r))) (supported t) _ _ ∙ pick_true (not (eq p (value_of s c r))) _ _ n)

    -- a row that is only counted passes over nothing better
    quiet_keeps : T (quiet t (value_of s c r)) → first_best t.best (offers t (r ∷ rs)) ≡ first_best t.best (offers (next s c r t) rs)
    unfolding quiet pure_from first_best
    quiet_keeps q =
        ap (first_best t.best) (offers_step r rs t)
        ∙ either (repeated t.previous (value_of s c r)) (ltb 0 (fallen t.skip)) q
        (λ z. ap (first_best t.best)
        (pick_false (offered r t) _ _ (nand_left (starts t.previous (value_of s c r)) (supported t) (repeats t.previous (value_of s c r) z))
        ∙ pick_false (pure_from t (value_of s c r)) _ _ (nand_left (not (repeated t.previous (value_of s c r))) _ (not_not (repeated t.previous (value_of s c r)) z))))
        (λ z. let w : total_of t ≤ t.best.score = omega (arith, h.hope (omega (arith, ltb→lt 0 (fallen t.skip) z)), ltb→lt 0 (fallen t.skip) z) in
        pick_move (offered r t) t.best (split_at t c (value_of s c r)) (on r rs t)
        ∙ ap (λ x. first_best x (on r rs t))
        (pick_same (offered r t) (better t.best (split_at t c (value_of s c r))) t.best
        (better_low t.best (split_at t c (value_of s c r)) (omega (arith, split_score t c (value_of s c r)))))
        ∙ by_test (λ x. first_best t.best x ≡ first_best t.best (offers (next s c r t) rs)) (pure_from t (value_of s c r))
        (λ l. sym (first_low t.best (offers (next s c r t) rs) (pure_low r rs t t.best.score h.fits w
        (eqb→eq _ _ (and_right (not (repeated t.previous (value_of s c r))) _ l)))))
        (λ _. refl))

    -- a scored row: what it takes, and whether its cut is the last
    scored_keeps : Started t t.previous → T (not (quiet t (value_of s c r)))
        → first_best t.best (offers t (r ∷ rs)) ≡ first_best (best_after t c (value_of s c r)) (pick (eqb (right_best t) (rows_left t)) [] (offers (next s c r t) rs))
    unfolding quiet pure_from
    scored_keeps y q =
        let n : T (not (repeated t.previous (value_of s c r))) = nor_left (repeated t.previous (value_of s c r)) (ltb 0 (fallen t.skip)) q in
        ap (first_best t.best) (offers_step r rs t)
        ∙ pick_move (offered r t) t.best (split_at t c (value_of s c r)) (on r rs t)
        ∙ ap (λ x. first_best x (on r rs t)) (sym (after_offer t.previous y n))
        ∙ ap (first_best (best_after t c (value_of s c r)))
        (pick_and_true (not (repeated t.previous (value_of s c r))) (eqb (right_best t) (rows_left t)) [] (offers (next s c r t) rs) n)

    -- if it closes because few rows are left
    far_low : T (not (quiet t (value_of s c r))) → rows_left t ≤ skip_after t → Low (best_after t c (value_of s c r)).score (offers (next s c r t) rs)
    far_low n q =
        low_far rs (next s c r t) _ (next_fits s c r rs t h.fits)
        (decide (takes t)
        (λ k. absurd (omega (arith, skip_taken t k, skip_low t (value_of s c r) n, rows_left_lem s (r ∷ rs) t h.fits)))
        (λ k. rw (best_left t c (value_of s c r) k) (omega (arith, skip_left t k, rows_left_lem s (r ∷ rs) t h.fits, next_total s c r rs t h.fits))))

    closed_keeps : T (not (quiet t (value_of s c r))) → T (closes t)
        → first_best (best_after t c (value_of s c r)) (pick (eqb (right_best t) (rows_left t)) [] (offers (next s c r t) rs)) ≡ best_after t c (value_of s c r)
    unfolding verdict_of first_best
    closed_keeps q z =
        by_test (λ x. first_best (best_after t c (value_of s c r)) x ≡ best_after t c (value_of s c r)) (eqb (right_best t) (rows_left t))
        (λ _. refl)
        (λ n. first_low (best_after t c (value_of s c r)) (offers (next s c r t) rs)
        (far_low q (leb→le (rows_left t) (skip_after t)
        (either (eqb (right_best t) (rows_left t)) (leb (rows_left t) (skip_after t)) z (λ y. absurd (T_not (eqb (right_best t) (rows_left t)) n y)) (λ y. y)))))

    open_keeps : T (not (closes t)) → pick (eqb (right_best t) (rows_left t)) [] (offers (next s c r t) rs) ≡ offers (next s c r t) rs
    unfolding verdict_of
    open_keeps n = pick_false (eqb (right_best t) (rows_left t)) _ _ (nor_left (eqb (right_best t) (rows_left t)) (leb (rows_left t) (skip_after t)) n)

  pub every_rows : (rs : List ℕ) (t : SideScan) → 1 ≤ t.least → T (not t.closed) → Open s rs t → Started t t.previous
      → (through s c rs t).best ≡ first_best t.best (offers t rs)
  unfolding through only_counted scored count_row
  every_rows [] t some n h y = unfold first_best in sym (ap (first_best t.best) (offers_none t))
  every_rows (r ∷ rs) t some n h y =
      step_open t (λ x. (through s c rs x).best ≡ first_best t.best (offers t (r ∷ rs))) c (label_of s r) (value_of s c r) n
      (λ q. every_rows rs (next s c r t) some n (open_counted s c r rs t h) tt ∙ sym (quiet_keeps r rs t some h q))
      (λ q. decide (closes t)
      (λ z. ap (λ (x : SideScan). x.best) (shut s c rs (scored t c (label_of s r) (value_of s c r)) z) ∙ sym (closed_keeps r rs t some h q z) ∙ sym (scored_keeps r rs t some h y q))
      (λ m. every_rows rs (scored t c (label_of s r) (value_of s c r)) some m (open_scored s c r rs t q h) tt
      ∙ ap (first_best (best_after t c (value_of s c r))) (offers_scored r rs t)
      ∙ sym (scored_keeps r rs t some h y q ∙ ap (first_best (best_after t c (value_of s c r))) (open_keeps r rs t some h m))))

-- ---- all columns

module _ (s : Sheet) (support : ℕ) (mine : ℕ → Bool) where
  abbrev pub leaf_first : Best
  leaf_first = (side_at_start s support mine).best

  -- the cuts of a column are the same whatever was best before
  pub bare_start : (t : SideScan) → Owns s support mine t → bare leaf_first (restarted t) ≡ side_at_start s support mine
  unfolding restarted side_at_start
  bare_start t o =
      ap (λ (x : List ℕ). made x t.size t.labels t.least) o.own_is
      ∙ ap (λ (x : ℕ). made (own_of s mine) x t.labels t.least) o.size_is
      ∙ ap (λ (x : ℕ). made (own_of s mine) (rows_at s mine) x t.least) o.labels_is
      ∙ ap (λ (x : ℕ). made (own_of s mine) (rows_at s mine) s.labels x) o.least_is
    where
      made : List ℕ → ℕ → ℕ → ℕ → SideScan
      made own size labels least = at_start own size labels least (side_at_start s support mine).best

module _ (s : Sheet) (sound : Sound s) (support : ℕ) (mine : ℕ → Bool) where
  -- what is best before has no part in what a column offers
  pub column_offers : (c : ℕ) (t : SideScan) → c < s.columns → Owns s support mine t
      → (column_alone s mine c t).best ≡ first_best t.best (offers s c (leaf_first s support mine) (restarted t) (those mine (order_of s c)))
  unfolding column_alone restarted
  column_offers c t h o =
      every_rows s c (leaf_first s support mine) (those mine (order_of s c)) (restarted t) (omega (arith, o.least_is)) tt (start_live s sound support mine t o c h tt) refl

  column_every : (c : ℕ) (t : SideScan) → c < s.columns → Owns s support mine t → (column_alone s mine c t).best ≡ first_best t.best (offers_of s support mine c)
  unfolding offers_of offers
  column_every c t h o =
      column_offers c t h o ∙ ap (λ (x : SideScan). first_best t.best (offers_from s c x (those mine (order_of s c)))) (bare_start s support mine t o)

  columns_every : (n c : ℕ) (t : SideScan) → c + n ≤ s.columns → Owns s support mine t
      → (columns_alone s mine n c t).best ≡ first_best t.best (all_offers s support mine n c)
  unfolding columns_alone all_offers first_best
  columns_every zero c t h o = refl
  columns_every (suc n) c t h o =
      columns_every n (suc c) (column_alone s mine c t) (omega arith) (owns_column s sound support mine c t o)
      ∙ ap (λ x. first_best x (all_offers s support mine n (suc c))) (column_every c t (omega arith) o)
      ∙ sym (first_append t.best (offers_of s support mine c) (all_offers s support mine n (suc c)))

pub offered_best : Offered
unfolding alone
offered_best s sound support mine = columns_every s sound support mine s.columns 0 (side_at_start s support mine) (omega arith) (owns_start s support mine)
