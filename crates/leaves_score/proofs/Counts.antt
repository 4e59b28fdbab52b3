-- Counting a row moves it from the rows to come to those counted, so each label's sum stays, and the best counts move by at most one.
-- Assumes nothing.
use mathlib.Core.Path.{◌≡◌, sym, ◌∙◌}
use Prim.Native.Nat.{ℕ, suc, ◌+◌, ◌-◌, ◌≤◌, ◌<◌}
use native.Mathlib.Omega.{arith}
use mathlib.Core.Bool.{Bool}
use mathlib.Core.List.{List, ◌∷◌}
use lib.ListN.{length, get_or, set, length-set, length-replicate, get_or-replicate}
use lib.Seq.{get_or-set_same, get_or-set_other}
use lib.Dec.{eqb, eqb→eq, eqb_refl}
use lib.Ieee.{Float}
use Rattle.basics.specs.Choice.{bit}
use Rattle.basics.specs.Lists.{tally}
use Rattle.basics.proofs.Choice.{decide, neqb, bit_true, bit_false, bit_le}
use Rattle.basics.proofs.Lists.{tally_le}
use Rattle.sheet.specs.Limits.{most_labels}
use Rattle.sheet.specs.Sheet.{Sheet, label_of}
use Rattle.side_scan.specs.declared.SideScan.{SideScan}
use Rattle.side_scan.specs.declared.cut_score.Best.{Best}
use Rattle.side_scan.specs.Counts.{no_rows, peaks_of}
use Rattle.side_scan.specs.OneSide.{restarted, counted_of, later, rows_left, left_best, right_best, total_of, raised, count_row}
use Rattle.leaves_score.specs.Kept.{CountsKept, Fits}
use Rattle.side_scan.proofs.Commonest.{most_near, most_under}

-- ---- a label's count raised by one

pub raised_at : (cs : List ℕ) (x l : ℕ) → l < length cs → get_or (raised cs x) l 0 ≡ get_or cs l 0 + bit (eqb x l)
unfolding raised
raised_at cs x l h =
    decide (eqb x l)
    (λ t. same (eqb→eq x l t))
    (λ t. rw (get_or-set_other cs x l (get_or cs x 0 + 1) 0 (λ e. neqb x l t (sym e))) (omega (arith, bit_false (eqb x l) t)))
  where
    same : x ≡ l → get_or (set cs x (get_or cs x 0 + 1)) l 0 ≡ get_or cs l 0 + bit (eqb x l)
    same e = rw (e, get_or-set_same cs l (get_or cs l 0 + 1) 0 h) (omega (arith, bit_true (eqb l l) (eqb_refl l)))

pub raised_long : (cs : List ℕ) (x : ℕ) → length (raised cs x) ≡ length cs
unfolding raised
raised_long cs x = length-set cs x _

pub none_at : (l : ℕ) → l < most_labels → get_or no_rows l 0 ≡ 0
none_at l h = get_or-replicate {A = ℕ} most_labels l 0 0 h

-- ---- a row counted

module _ (s : Sheet) (r : ℕ) (rs own seen : List ℕ) (labels size counted : ℕ) (h : CountsKept s (r ∷ rs) own seen labels size counted) where
  step_at : (l : ℕ) → l < labels → get_or (raised seen (label_of s r)) l 0 ≡ get_or seen l 0 + bit (eqb (label_of s r) l)
  step_at l k = raised_at seen (label_of s r) l (omega (arith, h.long, h.most))

  pub counts_step : CountsKept s rs own (raised seen (label_of s r)) labels size (counted + 1)
  counts_step =
      record {
        some = h.some;
        most = h.most;
        long = raised_long seen (label_of s r) ∙ h.long;
        sums = λ l k. omega (arith, h.sums l k, step_at l k);
        few = λ l k. omega (arith, h.few l k, step_at l k, bit_le (eqb (label_of s r) l));
        rows = omega (arith, h.rows);
      }

-- whatever becomes of best, skip and closed mark
module _ (s : Sheet) (r : ℕ) (rs : List ℕ) (t : SideScan) (h : Fits s (r ∷ rs) t) (b : Best) (skip : ℕ) (closed : Bool) (v : Float) where
  pub fits_step : Fits s rs (count_row t b skip closed (label_of s r) v)
  unfolding count_row
  fits_step = counts_step s r rs t.own t.seen t.labels t.size t.counted h

  pub left_step : left_best (count_row t b skip closed (label_of s r) v) ≤ left_best t + 1
  unfolding peaks_of count_row
  left_step =
      most_near (counted_of t) (λ l. get_or (raised t.seen (label_of s r)) l 0) t.labels 1 h.some
      (λ l k. omega (arith, step_at s r rs t.own t.seen t.labels t.size t.counted h l k, bit_le (eqb (label_of s r) l)))

  pub right_step : right_best (count_row t b skip closed (label_of s r) v) ≤ right_best t
  unfolding peaks_of count_row
  right_step =
      omega (
        arith,
        most_near (later t) (λ l. get_or t.own l 0 - get_or (raised t.seen (label_of s r)) l 0) t.labels 0 h.some
            (λ l k. omega (arith, step_at s r rs t.own t.seen t.labels t.size t.counted h l k)),
      )

  -- moving the cut by one row raises the total by at most one
  pub total_step : total_of (count_row t b skip closed (label_of s r) v) ≤ suc (total_of t)
  total_step = omega (arith, left_step, right_step)

-- ---- at any time

module _ (s : Sheet) (rest : List ℕ) (t : SideScan) (h : Fits s rest t) where
  pub later_is : (l : ℕ) → l < t.labels → later t l ≡ tally (λ r. eqb (label_of s r) l) rest
  later_is l k = omega (arith, h.sums l k)

  pub rows_left_lem : rows_left t ≡ length rest
  rows_left_lem = omega (arith, h.rows)

  pub left_few : left_best t ≤ t.counted
  unfolding peaks_of
  left_few = most_under (counted_of t) t.labels t.counted h.some h.few

  pub right_few : right_best t ≤ length rest
  unfolding peaks_of
  right_few =
      most_under (later t) t.labels (length rest) h.some
      (λ l k. omega (arith, later_is l k, tally_le (λ r. eqb (label_of s r) l) rest))

  pub total_few : total_of t ≤ t.size
  total_few = omega (arith, left_few, right_few, h.rows)

-- ---- a column's start

pub fits_cleared : (s : Sheet) (rest : List ℕ) (t : SideScan) → 1 ≤ t.labels → t.labels ≤ most_labels → length rest ≡ t.size
    → ((l : ℕ) → l < t.labels → tally (λ r. eqb (label_of s r) l) rest ≡ get_or t.own l 0) → Fits s rest (restarted t)
unfolding restarted
fits_cleared s rest t some few h g =
    record {
      some = some;
      most = few;
      long = length-replicate {A = ℕ} most_labels 0;
      sums = λ l k. omega (arith, g l k, none_at l (omega arith));
      few = λ l k. omega (arith, none_at l (omega arith));
      rows = omega (arith, h);
    }
