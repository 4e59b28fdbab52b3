-- Every row keeps what the scan of a side goes by (`Live`), and a side's own numbers (`Owns`): a row is only counted, or its cut is scored first, and
-- the total of the next cut is at most one more. At every support. Assumes nothing.
use mathlib.Core.Path.{◌≡◌, refl, sym, ap, ◌∙◌, subst}
use Prim.Native.Nat.{ℕ, zero, suc, ◌+◌, ◌-◌, ◌≤◌, ◌<◌}
use native.Mathlib.Omega.{arith}
use mathlib.Core.Bool.{Bool, true, false, not, ◌&&◌}
use mathlib.Core.List.{List, ◌∷◌}
use lib.ListN.{get_or}
use lib.Dec.{T, T_not, not_T, ltb, eqb, ltb→lt, nltb→le}
use lib.Ieee.{Float}
use Rattle.basics.specs.Choice.{pick}
use Rattle.basics.specs.Lists.{tally, those, table}
use Rattle.basics.proofs.Choice.{by_test, decide, and_right, nor_right, pick_true, pick_false}
use Rattle.basics.proofs.Lists.{length_those, tally_those, get_d_table, table_same}
use Rattle.sheet.specs.Limits.{most_labels}
use Rattle.sheet.specs.Sheet.{Sheet, value_of, label_of, row_at, every_row, order_of}
use Rattle.sheet.specs.Sound.{Limited, Sound}
use Rattle.sheet.specs.Rows.{rows_at}
use Rattle.side_scan.specs.declared.SideScan.{SideScan}
use Rattle.side_scan.specs.declared.cut_score.Best.{Best}
use Rattle.side_scan.specs.Scored.{fallen, repeated, verdict_of}
use Rattle.side_scan.specs.OneSide.{restarted, quiet, total_of, supported, takes, split_at, best_after, skip_after, closes, count_row, only_counted, scored, step_of}
use Rattle.leaves_score.specs.Column.{Two, other, labelled, own_of, side_at_start, row_step, step_both}
use Rattle.leaves_score.specs.Kept.{rows_to_come, Owns, Fits, Open, Live}
use Rattle.leaves_score.proofs.Counts.{fits_step, total_step, fits_cleared}

-- ---- the cases of a row

module _ (t : SideScan) where
  pub best_taken : (c : ℕ) (v : Float) → T (takes t) → best_after t c v ≡ split_at t c v
  unfolding best_after
  best_taken c v y = pick_true (takes t) _ _ y

  pub best_left : (c : ℕ) (v : Float) → T (not (takes t)) → best_after t c v ≡ t.best
  unfolding best_after
  best_left c v n = pick_false (takes t) _ _ n

  pub skip_taken : T (takes t) → skip_after t ≡ fallen t.skip
  unfolding verdict_of
  skip_taken y = pick_true (takes t) _ _ y

  pub skip_left : T (not (takes t)) → skip_after t ≡ t.best.score - total_of t
  unfolding verdict_of
  skip_left n = pick_false (takes t) _ _ n

  pub takes_not : total_of t ≤ t.best.score → T (not (takes t))
  unfolding verdict_of
  takes_not h = not_T (takes t) (λ y. absurd (omega (arith, ltb→lt t.best.score (total_of t) (and_right (supported t) _ y))))

  -- a scored row has skip 0 or 1
  pub skip_low : (v : Float) → T (not (quiet t v)) → t.skip ≤ 1
  unfolding quiet
  skip_low v n = omega (arith, nltb→le 0 (fallen t.skip) (nor_right (repeated t.previous v) (ltb 0 (fallen t.skip)) n))

  pub step_open {ℓ} : (P : SideScan → Type ℓ) (c l : ℕ) (v : Float) → T (not t.closed)
      → (T (quiet t v) → P (only_counted t l v)) → (T (not (quiet t v)) → P (scored t c l v)) → P (step_of t c l v)
  unfolding step_of
  step_open P c l v n f g = by_test P t.closed (λ y. absurd (T_not t.closed n y)) (λ _. by_test P (quiet t v) f g)

  -- in any case
  pub step_any {ℓ} : (P : SideScan → Type ℓ) (c l : ℕ) (v : Float) → P t → P (only_counted t l v) → P (scored t c l v) → P (step_of t c l v)
  unfolding step_of
  step_any P c l v p q r = by_test P t.closed (λ _. p) (λ _. by_test P (quiet t v) (λ _. q) (λ _. r))

  pub step_closed : (c l : ℕ) (v : Float) → T t.closed → step_of t c l v ≡ t
  unfolding step_of
  step_closed c l v y = pick_true t.closed t _ y

-- ---- a row keeps what an open side has

module _ (s : Sheet) (c r : ℕ) (rs : List ℕ) (t : SideScan) where
  pub open_counted : Open s (r ∷ rs) t → Open s rs (only_counted t (label_of s r) (value_of s c r))
  unfolding only_counted count_row
  open_counted h =
      record {
        fits = fits_step s r rs t h.fits t.best (fallen t.skip) t.closed (value_of s c r);
        hope = λ k. omega (arith, h.hope (omega arith), total_step s r rs t h.fits t.best (fallen t.skip) t.closed (value_of s c r));
      }

  pub open_scored : T (not (quiet t (value_of s c r))) → Open s (r ∷ rs) t → Open s rs (scored t c (label_of s r) (value_of s c r))
  unfolding scored count_row
  open_scored n h =
      record {
        fits = fits_step s r rs t h.fits (best_after t c (value_of s c r)) (skip_after t) (closes t) (value_of s c r);
        hope = λ k. decide (takes t)
            (λ y. absurd (omega (arith, skip_taken t y, skip_low t (value_of s c r) n)))
            (λ m. omega (
              arith,
              skip_left t m,
              ap (λ (b : Best). b.score) (best_left t c (value_of s c r) m),
              total_step s r rs t h.fits (best_after t c (value_of s c r)) (skip_after t) (closes t) (value_of s c r),
            ));
      }

  pub live_step : Live s (r ∷ rs) t → Live s rs (row_step s c r t)
  unfolding step_of
  live_step h =
      by_test (Live s rs) t.closed (λ y n. absurd (T_not t.closed n y))
      (λ n. by_test (Live s rs) (quiet t (value_of s c r)) (λ _ _. open_counted (h n)) (λ q _. open_scored q (h n)))

  -- a row of the column, of this side or not
  pub live_at : (m : Bool) → Live s (pick m (r ∷ rs) rs) t → Live s rs (pick m (row_step s c r t) t)
  unfolding pick
  live_at true h = live_step h
  live_at false h = h

-- ---- the side's own numbers stay

pub owns_step : (s : Sheet) (support : ℕ) (mine : ℕ → Bool) (t : SideScan) (c l : ℕ) (v : Float) → Owns s support mine t → Owns s support mine (step_of t c l v)
unfolding only_counted scored count_row
owns_step s support mine t c l v h = step_any t (Owns s support mine) c l v h h h

pub owns_cleared : (s : Sheet) (support : ℕ) (mine : ℕ → Bool) (t : SideScan) → Owns s support mine t → Owns s support mine (restarted t)
unfolding restarted
owns_cleared s support mine t h = h

pub owns_start : (s : Sheet) (support : ℕ) (mine : ℕ → Bool) → Owns s support mine (side_at_start s support mine)
unfolding side_at_start
owns_start s support mine = record { own_is = refl; size_is = refl; labels_is = refl; least_is = refl }

-- ---- the two sides

module _ (s : Sheet) (mark : ℕ → Bool) (c r : ℕ) (b : Two) where
  pub left_is : (step_both s mark c r b).left ≡ pick (mark r) (row_step s c r b.left) b.left
  unfolding step_both
  left_is = go (mark r)
    where
      go : (m : Bool) → ◌≡◌ {A = SideScan} (pick {X = Two} m (record { left = row_step s c r b.left; right = b.right }) (record { left = b.left; right = row_step s c r b.right })).left
          (pick m (row_step s c r b.left) b.left)
      go true = unfold pick in refl
      go false = unfold pick in refl

  pub right_is : (step_both s mark c r b).right ≡ pick (other mark r) (row_step s c r b.right) b.right
  unfolding step_both
  right_is = go (mark r)
    where
      go : (m : Bool) → ◌≡◌ {A = SideScan} (pick {X = Two} m (record { left = row_step s c r b.left; right = b.right }) (record { left = b.left; right = row_step s c r b.right })).right
          (pick (not m) (row_step s c r b.right) b.right)
      go true = unfold pick in refl
      go false = unfold pick in refl

  pub live_left : (rs : List ℕ) → Live s (those mark (r ∷ rs)) b.left → Live s (those mark rs) (step_both s mark c r b).left
  live_left rs h = subst (Live s (those mark rs)) (sym left_is) (live_at s c r (those mark rs) b.left (mark r) h)

  pub live_right : (rs : List ℕ) → Live s (those (other mark) (r ∷ rs)) b.right → Live s (those (other mark) rs) (step_both s mark c r b).right
  live_right rs h = subst (Live s (those (other mark) rs)) (sym right_is) (live_at s c r (those (other mark) rs) b.right (other mark r) h)

-- ---- a column's start

rows_table : (s : Sheet) (c n i : ℕ) → rows_to_come s c n i ≡ table (λ k. row_at s c (i + k)) n
unfolding rows_to_come
rows_table s c zero i = refl
rows_table s c (suc n) i =
    ap (λ xs. row_at s c i ∷ xs) (rows_table s c n (suc i) ∙ table_same (λ k. row_at s c (suc i + k)) (λ k. row_at s c (i + suc k)) n (λ k _. ap (row_at s c) (shift k)))
    ∙ ap (λ x. row_at s c x ∷ table (λ k. row_at s c (i + suc k)) n) none
  where
    shift : (k : ℕ) → suc i + k ≡ i + suc k
    shift k = omega arith

    none : i ≡ i + 0
    none = omega arith

-- the rows from place 0 on are the column's order
pub rows_order : (s : Sheet) (c : ℕ) → rows_to_come s c s.rows 0 ≡ order_of s c
unfolding order_of
rows_order s c = rows_table s c s.rows 0 ∙ table_same (λ k. row_at s c (0 + k)) (row_at s c) s.rows (λ k _. ap (row_at s c) (plain k))
  where
    plain : (k : ℕ) → 0 + k ≡ k
    plain k = omega arith

-- a label's own count is the number of the side's rows that have it
pub own_at_lem : (s : Sheet) (support : ℕ) (mine : ℕ → Bool) (t : SideScan) → Owns s support mine t → (l : ℕ) → l < most_labels → get_or t.own l 0 ≡ labelled s mine l
unfolding own_of
own_at_lem s support mine t o l h = ap (λ (xs : List ℕ). get_or xs l 0) o.own_is ∙ get_d_table (labelled s mine) most_labels l 0 h

-- all that a column's start goes by: its order has each row as often as the sheet
module _ (s : Sheet) (limited : Limited s) (support : ℕ) (mine : ℕ → Bool) (t : SideScan) (owns : Owns s support mine t) (c : ℕ)
    (each : (p : ℕ → Bool) → tally p (order_of s c) ≡ tally p (every_row s)) where
  pub begin_fits : Fits s (those mine (order_of s c)) (restarted t)
  begin_fits =
      fits_cleared s (those mine (order_of s c)) t
      (rw owns.labels_is limited.labels_some)
      (rw owns.labels_is limited.labels_most)
      (length_those mine (order_of s c) ∙ each mine ∙ sym (unfold rows_at in owns.size_is))
      (λ l k. tally_those mine (λ r. eqb (label_of s r) l) (order_of s c) ∙ each (λ r. mine r && eqb (label_of s r) l) ∙ sym (unfold labelled in own_at_lem s support mine t owns l (in_range l k)))
    where
      in_range : (l : ℕ) → l < t.labels → l < most_labels
      in_range l k = omega (arith, owns.labels_is, limited.labels_most)

  pub begin_live : Live s (those mine (order_of s c)) (restarted t)
  begin_live _ = record { fits = begin_fits; hope = λ k. absurd (none (unfold restarted in k)) }
    where
      none : 1 ≤ 0 → ⊥
      none k = omega arith

-- of an accepted sheet
module _ (s : Sheet) (sound : Sound s) (support : ℕ) (mine : ℕ → Bool) (t : SideScan) (owns : Owns s support mine t) (c : ℕ) (here : c < s.columns) where
  pub start_fits : Fits s (those mine (order_of s c)) (restarted t)
  start_fits = begin_fits s sound.limited support mine t owns c (sound.column c here).each_once

  pub start_live : Live s (those mine (order_of s c)) (restarted t)
  start_live = begin_live s sound.limited support mine t owns c (sound.column c here).each_once
