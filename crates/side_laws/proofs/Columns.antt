-- With support at most 1 a side's scan of all columns takes the first best of their cuts, leaf first. Assumes nothing.
use mathlib.Core.Path.{◌≡◌, refl, sym, ap, ◌∙◌}
use Prim.Native.Nat.{ℕ, zero, suc, ◌+◌, ◌≤◌, ◌<◌}
use native.Mathlib.Omega.{arith}
use mathlib.Core.Bool.{Bool}
use mathlib.Core.List.{List}
use Rattle.basics.specs.Lists.{those}
use Rattle.sheet.specs.Sheet.{Sheet, order_of}
use Rattle.sheet.specs.Sound.{Sound}
use Rattle.side_scan.specs.declared.SideScan.{SideScan}
use Rattle.side_scan.specs.Counts.{peaks_of}
use Rattle.side_scan.specs.OneSide.{own_at, restarted, later, total_of, leaf_score}
use Rattle.leaves_score.specs.Column.{side_at_start}
use Rattle.leaves_score.specs.Kept.{Owns, Fits}
use Rattle.side_scan.proofs.Commonest.{most_near}
use Rattle.leaves_score.proofs.Counts.{left_few}
use Rattle.leaves_score.proofs.Live.{owns_start, start_fits}
use Rattle.side_laws.specs.Alone.{column_alone, columns_alone, alone}
use Rattle.side_laws.specs.First.{cuts_from, side_cuts, all_cuts, first_best, FirstBest}
use Rattle.side_laws.proofs.Decouple.{owns_column}
use Rattle.side_laws.proofs.Told.{leaf_count}
use Rattle.side_laws.proofs.Sides.{leaf_is}
use Rattle.side_laws.proofs.Best.{first_ge, first_append}
use Rattle.side_laws.proofs.Every.{leaf_first, bare_start, column_offers}
use Rattle.side_laws.proofs.First.{cuts, offers_cuts}

-- before the first row the cut's total is the leaf's
cleared_total : (s : Sheet) (t : SideScan) (rest : List ℕ) → Fits s rest (restarted t) → total_of (restarted t) ≤ leaf_score t
unfolding peaks_of leaf_score restarted
cleared_total s t rest h =
    omega (
      arith,
      left_few s rest (restarted t) h,
      most_near (own_at t) (later (restarted t)) t.labels 0 h.some (λ l k. omega arith),
    )

-- a side that is about to scan a column, whose score is at least its leaf's
module _ (s : Sheet) (sound : Sound s) (support : ℕ) (small : support ≤ 1) (mine : ℕ → Bool) where
  pub column_first : (c : ℕ) (t : SideScan) → c < s.columns → Owns s support mine t → leaf_count s mine ≤ t.best.score
      → (column_alone s mine c t).best ≡ first_best t.best (cuts s c (leaf_first s support mine) (restarted t) (those mine (order_of s c)))
  unfolding restarted
  column_first c t h o g =
      column_offers s sound support mine c t h o
      ∙ offers_cuts s c (leaf_first s support mine) (those mine (order_of s c)) (restarted t) t.best (omega (arith, o.least_is)) (start_fits s sound support mine t o c h)
      (omega (arith, cleared_total s t (those mine (order_of s c)) (start_fits s sound support mine t o c h), leaf_is s sound support mine t o))

  pub column_cuts : (c : ℕ) (t : SideScan) → Owns s support mine t → cuts s c (leaf_first s support mine) (restarted t) (those mine (order_of s c)) ≡ side_cuts s support mine c
  unfolding cuts side_cuts
  column_cuts c t o = ap (λ (x : SideScan). cuts_from s c x (those mine (order_of s c))) (bare_start s support mine t o)

  pub column_ge : (c : ℕ) (t : SideScan) → c < s.columns → Owns s support mine t → leaf_count s mine ≤ t.best.score
      → t.best.score ≤ (column_alone s mine c t).best.score
  column_ge c t h o g = rw (column_first c t h o g) (first_ge t.best (cuts s c (leaf_first s support mine) (restarted t) (those mine (order_of s c))))

  pub columns_ge : (n c : ℕ) (t : SideScan) → c + n ≤ s.columns → Owns s support mine t → leaf_count s mine ≤ t.best.score
      → t.best.score ≤ (columns_alone s mine n c t).best.score
  unfolding columns_alone
  columns_ge zero c t h o g = omega arith
  columns_ge (suc n) c t h o g =
      let k : t.best.score ≤ (column_alone s mine c t).best.score = column_ge c t (omega arith) o g in
      omega (arith, columns_ge n (suc c) (column_alone s mine c t) (omega arith) (owns_column s sound support mine c t o) (omega arith))

  columns_first : (n c : ℕ) (t : SideScan) → c + n ≤ s.columns → Owns s support mine t → leaf_count s mine ≤ t.best.score
      → (columns_alone s mine n c t).best ≡ first_best t.best (all_cuts s support mine n c)
  unfolding columns_alone all_cuts first_best
  columns_first zero c t h o g = refl
  columns_first (suc n) c t h o g =
      let k : t.best.score ≤ (column_alone s mine c t).best.score = column_ge c t (omega arith) o g in
      columns_first n (suc c) (column_alone s mine c t) (omega arith) (owns_column s sound support mine c t o) (omega arith)
      ∙ ap (λ x. first_best x (all_cuts s support mine n (suc c))) (column_first c t (omega arith) o g ∙ ap (first_best t.best) (column_cuts c t o))
      ∙ sym (first_append t.best (side_cuts s support mine c) (all_cuts s support mine n (suc c)))

  pub start_score : (side_at_start s support mine).best.score ≡ leaf_count s mine
  unfolding side_at_start
  start_score = refl

  pub side_first : (alone s support mine).best ≡ first_best (side_at_start s support mine).best (all_cuts s support mine s.columns 0)
  unfolding alone
  side_first = columns_first s.columns 0 (side_at_start s support mine) (omega arith) (owns_start s support mine) (omega (arith, start_score))

pub first_best_lem : FirstBest
first_best_lem s sound support small mine = side_first s sound support small mine
