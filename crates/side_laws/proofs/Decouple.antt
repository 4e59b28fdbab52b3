-- The two sides do not need each other: the coupled scan, with its early ends and its stop, answers what each side's own scan does, because it ends
-- only where neither side's answer can change. At every support. Assumes nothing.
use mathlib.Core.Path.{◌≡◌, refl, sym, ap, ◌∙◌, subst}
use Prim.Native.Nat.{ℕ, zero, suc, ◌+◌, ◌≤◌, ◌<◌}
use native.Mathlib.Omega.{arith}
use mathlib.Core.Bool.{Bool, ◌&&◌}
use lib.Dec.{eqb, eqb→eq}
use Rattle.basics.specs.Lists.{those}
use Rattle.basics.proofs.Choice.{by_test, and_left, and_right}
use Rattle.sheet.specs.Sheet.{Sheet, order_of}
use Rattle.sheet.specs.Sound.{Sound}
use Rattle.side_scan.specs.declared.SideScan.{SideScan}
use Rattle.side_scan.specs.OneSide.{restarted, leaf_label, leaf_score, side_of}
use Rattle.leaves_score.specs.Column.{Two, other, side_at_start, scan_rows, scan_column, through}
use Rattle.leaves_score.specs.Scan.{perfect, scan_columns, start_both, scanned, sides_of}
use Rattle.leaves_score.specs.Kept.{Alike, Owns, Live}
use Rattle.leaves_score.proofs.Single.{perfected, owns_through}
use Rattle.leaves_score.proofs.Coupled.{both_rows}
use Rattle.leaves_score.proofs.Live.{owns_start, owns_cleared, rows_order, start_live}
use Rattle.side_laws.specs.Alone.{column_alone, columns_alone, alone, side_alone, Decoupled, Decouples}

twice : (t : SideScan) → restarted (restarted t) ≡ restarted t
unfolding restarted
twice t = refl

-- sides that cross alike answer alike, and have the same rows
side_alike : (a b : SideScan) → Alike a b → side_of a ≡ side_of b
unfolding side_of restarted leaf_label leaf_score
side_alike a b e = ap side_of e

owns_alike : (s : Sheet) (support : ℕ) (mine : ℕ → Bool) (a b : SideScan) → Alike a b → Owns s support mine b → Owns s support mine a
unfolding restarted
owns_alike s support mine a b e o = subst (Owns s support mine) (sym e) o

-- ---- the columns

module _ (s : Sheet) (sound : Sound s) (support : ℕ) where
  pub owns_column : (mine : ℕ → Bool) (c : ℕ) (t : SideScan) → Owns s support mine t → Owns s support mine (column_alone s mine c t)
  unfolding column_alone
  owns_column mine c t h = owns_through s c support mine (those mine (order_of s c)) (restarted t) (owns_cleared s support mine t h)

  pub owns_columns : (mine : ℕ → Bool) (n c : ℕ) (t : SideScan) → Owns s support mine t → Owns s support mine (columns_alone s mine n c t)
  unfolding columns_alone
  owns_columns mine zero c t h = h
  owns_columns mine (suc n) c t h = owns_columns mine n (suc c) (column_alone s mine c t) (owns_column mine c t h)

  pub column_perfect : (mine : ℕ → Bool) (c : ℕ) (t : SideScan) → c < s.columns → Owns s support mine t → t.best.score ≡ t.size
      → restarted (column_alone s mine c t) ≡ restarted t
  unfolding column_alone
  column_perfect mine c t h o e =
      perfected s c (those mine (order_of s c)) (restarted t) (start_live s sound support mine t o c h) (unfold restarted in e) ∙ twice t

  -- the next column starts from what crosses
  column_alike : (mine : ℕ → Bool) (c : ℕ) (a b : SideScan) → Alike a b → column_alone s mine c a ≡ column_alone s mine c b
  unfolding column_alone
  column_alike mine c a b e = ap (through s c (those mine (order_of s c))) e

  columns_alike : (mine : ℕ → Bool) (n c : ℕ) (a b : SideScan) → Alike a b → Alike (columns_alone s mine n c a) (columns_alone s mine n c b)
  unfolding columns_alone
  columns_alike mine zero c a b e = e
  columns_alike mine (suc n) c a b e = ap (λ t. restarted (columns_alone s mine n (suc c) t)) (column_alike mine c a b e)

  score_alike : (a b : SideScan) → Alike a b → b.best.score ≡ b.size → a.best.score ≡ a.size
  unfolding restarted
  score_alike a b e h = ap (λ (t : SideScan). t.best.score) e ∙ h ∙ sym (ap (λ (t : SideScan). t.size) e)

  pub columns_perfect : (mine : ℕ → Bool) (n c : ℕ) (t : SideScan) → c + n ≤ s.columns → Owns s support mine t → t.best.score ≡ t.size
      → Alike (columns_alone s mine n c t) t
  unfolding columns_alone
  columns_perfect mine zero c t h o e = refl
  columns_perfect mine (suc n) c t h o e =
      let k : Alike (column_alone s mine c t) t = column_perfect mine c t (omega arith) o e in
      columns_perfect mine n (suc c) (column_alone s mine c t) (omega arith) (owns_column mine c t o) (score_alike (column_alone s mine c t) t k e) ∙ k

  module _ (mark : ℕ → Bool) where
    both_column : (c : ℕ) → c < s.columns → (b : Two) → Owns s support mark b.left → Owns s support (other mark) b.right
        → Alike (scan_column s mark c b).left (column_alone s mark c b.left)
        × Alike (scan_column s mark c b).right (column_alone s (other mark) c b.right)
    unfolding scan_column column_alone
    both_column c h b ol or =
        let start : Two = record { left = restarted b.left; right = restarted b.right } in
        subst
        (λ xs. Alike (scan_rows s mark c s.rows 0 start).left (through s c (those mark xs) (restarted b.left))
        × Alike (scan_rows s mark c s.rows 0 start).right (through s c (those (other mark) xs) (restarted b.right)))
        (rows_order s c)
        (both_rows s mark c s.rows 0 start
        (subst (λ xs. Live s (those mark xs) (restarted b.left)) (sym (rows_order s c)) (start_live s sound support mark b.left ol c h))
        (subst (λ xs. Live s (those (other mark) xs) (restarted b.right)) (sym (rows_order s c)) (start_live s sound support (other mark) b.right or c h)))

    both_columns : (n c : ℕ) → c + n ≤ s.columns → (b : Two) (x y : SideScan) → Alike b.left x → Alike b.right y
        → Owns s support mark x → Owns s support (other mark) y
        → Alike (scan_columns s mark n c b).left (columns_alone s mark n c x) × Alike (scan_columns s mark n c b).right (columns_alone s (other mark) n c y)
    unfolding scan_columns columns_alone perfect
    both_columns zero c h b x y ex ey ox oy = (ex, ey)
    both_columns (suc n) c h b x y ex ey ox oy =
        let a : Two = scan_column s mark c b in
        let u : SideScan = column_alone s mark c x in
        let v : SideScan = column_alone s (other mark) c y in
        let k = both_column c (omega arith) b (owns_alike s support mark b.left x ex ox) (owns_alike s support (other mark) b.right y ey oy) in
        let el : Alike a.left u = k.0 ∙ ap restarted (column_alike mark c b.left x ex) in
        let er : Alike a.right v = k.1 ∙ ap restarted (column_alike (other mark) c b.right y ey) in
        let ou : Owns s support mark u = owns_column mark c x ox in
        let ov : Owns s support (other mark) v = owns_column (other mark) c y oy in
        by_test (λ z. Alike z.left (columns_alone s mark n (suc c) u) × Alike z.right (columns_alone s (other mark) n (suc c) v))
        (eqb a.left.best.score a.left.size && eqb a.right.best.score a.right.size) {x = a} {y = scan_columns s mark n (suc c) a}
        (λ e. (
          el ∙ sym (columns_perfect mark n (suc c) u (omega arith) ou (score_alike u a.left (sym el) (eqb→eq _ _ (and_left (eqb a.left.best.score a.left.size) _ e)))),
          er ∙ sym (columns_perfect (other mark) n (suc c) v (omega arith) ov (score_alike v a.right (sym er) (eqb→eq _ _ (and_right (eqb a.left.best.score a.left.size) _ e)))),
        ))
        (λ _. both_columns n (suc c) (omega arith) a u v el er ou ov)

    pub decoupled_sides : Decoupled s support mark
    unfolding sides_of scanned side_alone alone start_both
    decoupled_sides =
        let k = both_columns s.columns 0 (omega arith) (record { left = side_at_start s support mark; right = side_at_start s support (other mark) })
        (side_at_start s support mark) (side_at_start s support (other mark)) refl refl (owns_start s support mark) (owns_start s support (other mark)) in
        record { left = side_alike _ _ k.0; right = side_alike _ _ k.1 }

pub decouples : Decouples
decouples s sound support mark = decoupled_sides s sound support mark
