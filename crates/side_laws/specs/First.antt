-- For a signer. With support at most 1 a side's answer is the first best: the leaf, then the first cut, in column and place order, whose total
-- is strictly the best so far. Neither skip nor closing nor an early end has a part in it. Definitions, and the law as a statement.
use Rattle.std.specs.Prelude.{◌≡◌, ℕ, zero, suc, ◌≤◌, Bool, false, not, List, [], ◌∷◌, ◌++◌, ltb, Float, Option, Some, None}
use Rattle.basics.specs.Choice.{pick}
use Rattle.basics.specs.Lists.{those}
use Rattle.threshold.specs.Order.{same_value}
use Rattle.sheet.specs.Sheet.{Sheet, value_of, label_of, order_of}
use Rattle.sheet.specs.Sound.{Sound}
use Rattle.side_scan.specs.declared.SideScan.{SideScan}
use Rattle.side_scan.specs.declared.cut_score.Best.{Best}
use Rattle.side_scan.specs.OneSide.{split_at, only_counted}
use Rattle.leaves_score.specs.Column.{side_at_start}
use Rattle.side_laws.specs.Alone.{alone}

-- a value that is another than the previous one; a side's first row has no previous value
abbrev pub starts : Option Float → Float → Bool
starts None value = false
starts (Some previous) value = not (same_value previous value)

-- the cuts before the rows of a list, as splits: where the value is another than the previous row's. Each row is only counted.
unfoldable pub cuts_from : Sheet → ℕ → SideScan → List ℕ → List Best
cuts_from s c t [] = []
cuts_from s c t (r ∷ rs) =
    let rest : List Best = cuts_from s c (only_counted t (label_of s r) (value_of s c r)) rs in
    pick (starts t.previous (value_of s c r)) (split_at t c (value_of s c r) ∷ rest) rest

-- those of column c, and of n columns from c on
unfoldable pub side_cuts : Sheet → ℕ → (ℕ → Bool) → ℕ → List Best
side_cuts s support mine c = cuts_from s c (side_at_start s support mine) (those mine (order_of s c))

unfoldable pub all_cuts : Sheet → ℕ → (ℕ → Bool) → ℕ → ℕ → List Best
all_cuts s support mine zero c = []
all_cuts s support mine (suc n) c = side_cuts s support mine c ++ all_cuts s support mine n (suc c)

-- the first of the best: one that follows replaces it only if it is strictly better
unfoldable pub better : Best → Best → Best
better b n = pick (ltb b.score n.score) n b

unfoldable pub first_best : Best → List Best → Best
first_best b [] = b
first_best b (n ∷ ns) = first_best (better b n) ns

abbrev pub FirstBest : Type 0
FirstBest =
    (s : Sheet) → Sound s → (support : ℕ) → support ≤ 1 → (mine : ℕ → Bool)
    → (alone s support mine).best ≡ first_best (side_at_start s support mine).best (all_cuts s support mine s.columns 0)
