-- For a signer. At every support a side's answer is the first best of what its columns offer: a column offers its supported cuts, up to and
-- with the first cut past which all rows have one label. Skip, the other way of closing and the early ends have no part in it. Definitions, and the
-- law as a statement.
use Rattle.std.specs.Prelude.{◌≡◌, ℕ, zero, suc, Bool, not, ◌&&◌, List, [], ◌∷◌, ◌++◌, eqb, Float}
use Rattle.basics.specs.Choice.{pick}
use Rattle.basics.specs.Lists.{those}
use Rattle.sheet.specs.Sheet.{Sheet, value_of, label_of, order_of}
use Rattle.sheet.specs.Sound.{Sound}
use Rattle.side_scan.specs.declared.SideScan.{SideScan}
use Rattle.side_scan.specs.declared.cut_score.Best.{Best}
use Rattle.side_scan.specs.Scored.{repeated}
use Rattle.side_scan.specs.OneSide.{rows_left, right_best, supported, split_at, only_counted}
use Rattle.leaves_score.specs.Column.{side_at_start}
use Rattle.side_laws.specs.Alone.{alone}
use Rattle.side_laws.specs.First.{starts, first_best}

-- all rows from here on have one label, where a value starts
unfoldable pub pure_from : SideScan → Float → Bool
pure_from t v = not (repeated t.previous v) && eqb (right_best t) (rows_left t)

unfoldable pub offers_from : Sheet → ℕ → SideScan → List ℕ → List Best
offers_from s c t [] = []
offers_from s c t (r ∷ rs) =
    let rest : List Best = offers_from s c (only_counted t (label_of s r) (value_of s c r)) rs in
    let on : List Best = pick (pure_from t (value_of s c r)) [] rest in
    pick (starts t.previous (value_of s c r) && supported t) (split_at t c (value_of s c r) ∷ on) on

-- those of column c, and of n columns from c on
unfoldable pub offers_of : Sheet → ℕ → (ℕ → Bool) → ℕ → List Best
offers_of s support mine c = offers_from s c (side_at_start s support mine) (those mine (order_of s c))

unfoldable pub all_offers : Sheet → ℕ → (ℕ → Bool) → ℕ → ℕ → List Best
all_offers s support mine zero c = []
all_offers s support mine (suc n) c = offers_of s support mine c ++ all_offers s support mine n (suc c)

abbrev pub Offered : Type 0
Offered =
    (s : Sheet) → Sound s → (support : ℕ) (mine : ℕ → Bool)
    → (alone s support mine).best ≡ first_best (side_at_start s support mine).best (all_offers s support mine s.columns 0)
