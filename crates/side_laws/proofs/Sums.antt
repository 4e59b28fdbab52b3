-- Wherever the scan of a side's column stands, rows counted and rows to come add up to the side's own count: it holds at the column's start, and
-- every row of an open side keeps it. Assumes nothing.
use mathlib.Core.Path.{sym, ◌∙◌, subst}
use Prim.Native.Nat.{ℕ}
use native.Mathlib.Omega.{arith}
use mathlib.Core.Bool.{Bool}
use mathlib.Core.List.{List, [], ◌∷◌, ◌++◌}
use Rattle.sheet.specs.Sheet.{Sheet}
use Rattle.sheet.specs.Sound.{Sound}
use Rattle.side_scan.specs.declared.SideScan.{SideScan}
use Rattle.side_scan.specs.OneSide.{restarted}
use Rattle.leaves_score.specs.Column.{side_at_start, row_step, through}
use Rattle.leaves_score.specs.Kept.{Owns, Fits, Live}
use Rattle.leaves_score.proofs.Live.{own_at_lem, live_step, start_live, owns_start, owns_cleared}
use Rattle.side_laws.specs.Alone.{columns_alone, AddUp, AddsUp}
use Rattle.leaves_score.proofs.Single.{owns_through}
use Rattle.side_laws.proofs.Decouple.{owns_columns}

live_through : (s : Sheet) (c : ℕ) (done rest : List ℕ) (t : SideScan) → Live s (done ++ rest) t → Live s rest (through s c done t)
unfolding through
live_through s c [] rest t h = h
live_through s c (r ∷ done) rest t h = live_through s c done rest (row_step s c r t) (live_step s c r (done ++ rest) t h)

pub add_up : (s : Sheet) → Sound s → (support : ℕ) (mine : ℕ → Bool) (rest : List ℕ) (t : SideScan) → Owns s support mine t → Fits s rest t → AddUp s mine rest t
add_up s sound support mine rest t o f =
    record {
      labels = λ l h. f.sums l (omega (arith, o.labels_is)) ∙ own_at_lem s support mine t o l (omega (arith, sound.limited.labels_most));
      rows = f.rows ∙ o.size_is;
    }

pub adds_up : AddsUp
adds_up s sound support mine c h done rest e t q n =
    let start : SideScan = columns_alone s mine c 0 (side_at_start s support mine) in
    let o : Owns s support mine start = owns_columns s sound support mine c 0 (side_at_start s support mine) (owns_start s support mine) in
    let live : Live s rest t =
    subst (Live s rest) (sym q) (live_through s c done rest (restarted start) (subst (λ xs. Live s xs (restarted start)) e (start_live s sound support mine start o c h))) in
    add_up s sound support mine rest t
    (subst (Owns s support mine) (sym q) (owns_through s c support mine done (restarted start) (owns_cleared s support mine start o)))
    (live n).fits
