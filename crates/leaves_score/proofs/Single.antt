-- One side by itself: a skip skips nothing, and a side whose skip is at least its rows left, or that is perfect, has its answer. At every support.
-- What crosses from a column to the next is `restarted t`, so "has its answer" is said of it. Assumes nothing.
use mathlib.Core.Path.{◌≡◌, refl, ap, ◌∙◌}
use Prim.Native.Nat.{ℕ, ◌≤◌}
use native.Mathlib.Omega.{arith}
use mathlib.Core.Bool.{Bool, true, false, ◌||◌}
use mathlib.Core.List.{List, [], ◌∷◌}
use lib.ListN.{length}
use lib.Ieee.{Float}
use lib.Dec.{T, T_not, leb, leb→le}
use Rattle.basics.specs.Choice.{pick}
use Rattle.basics.proofs.Choice.{decide, either}
use Rattle.sheet.specs.Sheet.{Sheet, value_of, label_of}
use Rattle.side_scan.specs.declared.SideScan.{SideScan}
use Rattle.side_scan.specs.declared.cut_score.Best.{Best}
use Rattle.side_scan.specs.OneSide.{restarted, rows_left, best_after, count_row, only_counted, scored, at_start}
use Rattle.leaves_score.specs.Column.{row_step, idle, through}
use Rattle.leaves_score.specs.Kept.{Live, Owns}
use Rattle.leaves_score.proofs.Counts.{total_few, rows_left_lem}
use Rattle.leaves_score.proofs.Live.{best_left, takes_not, skip_low, step_open, step_closed, open_counted, open_scored, owns_step}

-- ---- what a row leaves for the next column

abbrev with_best : SideScan → Best → SideScan
with_best t b = at_start t.own t.size t.labels t.least b

cleared_counted : (t : SideScan) (l : ℕ) (v : Float) → restarted (only_counted t l v) ≡ restarted t
unfolding restarted only_counted count_row
cleared_counted t l v = refl

cleared_scored : (t : SideScan) (c l : ℕ) (v : Float) → best_after t c v ≡ t.best → restarted (scored t c l v) ≡ restarted t
unfolding restarted scored count_row
cleared_scored t c l v e = ap (with_best t) e

module _ (s : Sheet) (c : ℕ) where
  -- a closed side stays as it is
  pub shut : (rs : List ℕ) (t : SideScan) → T t.closed → through s c rs t ≡ t
  unfolding through
  shut [] t y = refl
  shut (r ∷ rs) t y = ap (through s c rs) (step_closed t c (label_of s r) (value_of s c r) y) ∙ shut rs t y

  done : (rs : List ℕ) (t : SideScan) → length rs ≡ 0 → through s c rs t ≡ t
  unfolding through
  done [] t h = refl
  done (r ∷ rs) t h = absurd (omega arith)

  pub owns_through : (support : ℕ) (mine : ℕ → Bool) (rs : List ℕ) (t : SideScan) → Owns s support mine t → Owns s support mine (through s c rs t)
  unfolding through
  owns_through support mine [] t h = h
  owns_through support mine (r ∷ rs) t h = owns_through support mine rs (row_step s c r t) (owns_step s support mine t c (label_of s r) (value_of s c r) h)

  -- ---- no row changes the answer

  -- not if skip is at least the rows left
  pub frozen : (rs : List ℕ) (t : SideScan) → Live s rs t → length rs ≤ t.skip → restarted (through s c rs t) ≡ restarted t
  unfolding through
  frozen [] t h g = refl
  frozen (r ∷ rs) t h g =
      decide t.closed (λ y. ap restarted (ap (through s c rs) (step_closed t c (label_of s r) (value_of s c r) y) ∙ shut rs t y))
      (λ n. step_open t (λ x. restarted (through s c rs x) ≡ restarted t) c (label_of s r) (value_of s c r) n
      (λ _. frozen rs (only_counted t (label_of s r) (value_of s c r)) (λ _. open_counted s c r rs t (h n)) (fewer (label_of s r) (value_of s c r))
      ∙ cleared_counted t (label_of s r) (value_of s c r))
      (λ q. ap restarted (done rs (scored t c (label_of s r) (value_of s c r)) (omega (arith, skip_low t (value_of s c r) q)))
      ∙ cleared_scored t c (label_of s r) (value_of s c r)
      (best_left t c (value_of s c r) (takes_not t (omega (arith, (h n).hope (omega arith), skip_low t (value_of s c r) q))))))
    where
      fewer : (l : ℕ) (v : Float) → length rs ≤ (only_counted t l v).skip
      fewer l v = unfold only_counted count_row in omega arith

  -- not if the side is perfect
  pub perfected : (rs : List ℕ) (t : SideScan) → Live s rs t → t.best.score ≡ t.size → restarted (through s c rs t) ≡ restarted t
  unfolding through
  perfected [] t h g = refl
  perfected (r ∷ rs) t h g =
      decide t.closed (λ y. ap restarted (ap (through s c rs) (step_closed t c (label_of s r) (value_of s c r) y) ∙ shut rs t y))
      (λ n. step_open t (λ x. restarted (through s c rs x) ≡ restarted t) c (label_of s r) (value_of s c r) n
      (λ _. perfected rs (only_counted t (label_of s r) (value_of s c r)) (λ _. open_counted s c r rs t (h n)) (unfold only_counted count_row in g)
      ∙ cleared_counted t (label_of s r) (value_of s c r))
      (λ q. let e : best_after t c (value_of s c r) ≡ t.best =
      best_left t c (value_of s c r) (takes_not t (omega (arith, total_few s (r ∷ rs) t (h n).fits))) in
      perfected rs (scored t c (label_of s r) (value_of s c r)) (λ _. open_scored s c r rs t q (h n)) (still (label_of s r) (value_of s c r) e)
      ∙ cleared_scored t c (label_of s r) (value_of s c r) e))
    where
      still : (l : ℕ) (v : Float) → best_after t c v ≡ t.best → (scored t c l v).best.score ≡ (scored t c l v).size
      still l v e = unfold scored count_row in omega (arith, ap (λ (b : Best). b.score) e, g)

  pub stays : (rs : List ℕ) (t : SideScan) → Live s rs t → T (t.closed || idle t) → restarted (through s c rs t) ≡ restarted t
  unfolding idle
  stays rs t h e =
      decide t.closed (λ y. ap restarted (shut rs t y))
      (λ n. either t.closed (leb (rows_left t) t.skip) e (λ y. absurd (T_not t.closed n y))
      (λ i. frozen rs t h (omega (arith, leb→le (rows_left t) t.skip i, rows_left_lem s rs t (h n).fits))))

  -- ---- a row of the column, of this side or not

  pub runs_at : (r : ℕ) (m : Bool) (xs : List ℕ) (t : SideScan) → through s c (pick m (r ∷ xs) xs) t ≡ through s c xs (pick m (row_step s c r t) t)
  unfolding through pick
  runs_at r true xs t = refl
  runs_at r false xs t = refl
