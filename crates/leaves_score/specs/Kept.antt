-- For proofs only. What the scan of a side keeps. Statements only; `proofs/` shows that every row keeps it.
use Rattle.std.specs.Prelude.{◌≡◌, ℕ, zero, suc, ◌+◌, ◌≤◌, ◌<◌, Bool, not, List, [], ◌∷◌, length, get_or, T, eqb}
use Rattle.basics.specs.Lists.{tally}
use Rattle.sheet.specs.Limits.{most_labels}
use Rattle.sheet.specs.Sheet.{Sheet, label_of, row_at, least_rows}
use Rattle.sheet.specs.Rows.{rows_at}
use Rattle.side_scan.specs.declared.SideScan.{SideScan}
use Rattle.side_scan.specs.OneSide.{restarted, total_of}
use Rattle.leaves_score.specs.Column.{own_of}

-- the rows at the n places from i on
unfoldable pub rows_to_come : Sheet → ℕ → ℕ → ℕ → List ℕ
rows_to_come s c zero i = []
rows_to_come s c (suc n) i = row_at s c i ∷ rows_to_come s c n (suc i)

-- what crosses from a column to the next is the same: all but the counts, skip, closed mark and previous value
abbrev pub Alike : SideScan → SideScan → Type 0
Alike a b = restarted a ≡ restarted b

-- a side's own numbers are those of its rows
pub record OwnNumbers (s : Sheet) (support : ℕ) (mine : ℕ → Bool) (own : List ℕ) (size labels least : ℕ) : Type 0 where
  pub own_is : own ≡ own_of s mine
  pub size_is : size ≡ rows_at s mine
  pub labels_is : labels ≡ s.labels
  pub least_is : least ≡ least_rows support

abbrev pub Owns : Sheet → ℕ → (ℕ → Bool) → SideScan → Type 0
Owns s support mine t = OwnNumbers s support mine t.own t.size t.labels t.least

-- "For each label, rows counted and rows to come always add up to the side's own count." `rest`: the side's rows of the column that are to come.
pub record CountsKept (s : Sheet) (rest own seen : List ℕ) (labels size counted : ℕ) : Type 0 where
  pub some : 1 ≤ labels
  pub most : labels ≤ most_labels
  pub long : length seen ≡ most_labels
  pub sums : (l : ℕ) → l < labels → get_or seen l 0 + tally (λ r. eqb (label_of s r) l) rest ≡ get_or own l 0
  pub few : (l : ℕ) → l < labels → get_or seen l 0 ≤ counted
  pub rows : counted + length rest ≡ size

abbrev pub Fits : Sheet → List ℕ → SideScan → Type 0
Fits s rest t = CountsKept s rest t.own t.seen t.labels t.size t.counted

-- An open side keeps that, and a skip above 0 is too long by no more than one: the cut at hand totals at most score + 1 − skip.
pub record Open (s : Sheet) (rest : List ℕ) (t : SideScan) : Type 0 where
  pub fits : Fits s rest t
  pub hope : 1 ≤ t.skip → total_of t + t.skip ≤ suc t.best.score

abbrev pub Live : Sheet → List ℕ → SideScan → Type 0
Live s rest t = T (not t.closed) → Open s rest t
