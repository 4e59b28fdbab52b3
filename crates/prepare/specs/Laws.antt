-- For a signer. What holds of all that the preparer writes, as statements; `proofs/` proves each.
use Rattle.std.specs.Prelude.{ℕ, ◌*◌, ◌≤◌, ◌<◌, ◌≡◌, Bool, List, [], ◌∷◌, length, get_or, T, Float, Ok}
use Rattle.std.specs.Float.{nan, binary64}
use Rattle.std.specs.Float.Ieee.{fits}
use Rattle.basics.specs.Lists.{All, tally, table}
use Rattle.threshold.specs.Laws.{Measured}
use Rattle.sheet.specs.Limits.{most_labels, words_per_row}
use Rattle.sheet.specs.Laws.{TermsLimited}
use Rattle.sheet.specs.Check.{Verdict, check_of}
use Rattle.sheet.specs.declared.Terms.{Terms}
use Rattle.sheet.specs.Sheet.{Sheet}
use Rattle.sheet.specs.Sound.{SoundColumn, Sound}
use Rattle.prepare.specs.Lists.{precedes, rows_in_order}
use Rattle.prepare.specs.Prepared.{order_list, cut_list, count_list, prepare_of, PreparedOf}

-- ---- the order

-- each row precedes all that follow it
abbrev pub InOrder : List Float → List ℕ → Type 0
InOrder column [] = Unit {0}
InOrder column (a ∷ rest) = All (λ b. T (precedes column a b)) rest × InOrder column rest

-- the rows 0 to rows − 1, each once, in some order: whatever is counted over them is counted over the rows
abbrev pub EachOnce : ℕ → List ℕ → Type 0
EachOnce rows order = (p : ℕ → Bool) → tally p order ≡ tally p (table (λ r. r) rows)

-- the preparer's order of a column is the only one of its rows in which each precedes all that follow it
pub record OnlyOrder (rows : ℕ) (column : List Float) : Type 0 where
  pub in_order : InOrder column (rows_in_order rows column)
  pub each_once : EachOnce rows (rows_in_order rows column)
  pub only : (order : List ℕ) → InOrder column order → EachOnce rows order → order ≡ rows_in_order rows column

abbrev pub OneOrder : Type 0
OneOrder = (rows : ℕ) (column : List Float) → length column ≡ rows → ((r : ℕ) → r < rows → Measured (get_or column r nan)) → OnlyOrder rows column

-- ---- the sheet

-- a sheet with the preparer's lists, and any labels
abbrev pub prepared_sheet : ℕ → ℕ → ℕ → List Float → List ℕ → Sheet
prepared_sheet rows columns labels values codes =
    record {
      rows = rows;
      columns = columns;
      labels = labels;
      values = values;
      codes = codes;
      order = order_list rows columns values;
      cuts = cut_list rows columns values;
      counts = count_list rows columns values;
    }

-- a values list of doubles that the preparer does not turn back
pub record Taken (rows columns : ℕ) (values : List Float) : Type 0 where
  pub doubles : (i : ℕ) → T (fits binary64 (get_or values i nan))
  pub done : Ok tt ≡ prepare_of rows columns values (rows * columns) (rows * columns) columns

-- its columns are as the input check accepts them ..
abbrev pub SoundColumns : Type 0
SoundColumns =
    (rows columns labels : ℕ) (values : List Float) (codes : List ℕ) → Taken rows columns values
    → (c : ℕ) → c < columns → SoundColumn (prepared_sheet rows columns labels values codes) c

-- .. and with label codes below their number it is sound as a whole
abbrev pub SoundSheet : Type 0
SoundSheet =
    (rows columns labels : ℕ) (values : List Float) (codes : List ℕ) → Taken rows columns values
    → 1 ≤ labels → labels ≤ most_labels → ((r : ℕ) → r < rows → get_or codes r 0 < labels) → Sound (prepared_sheet rows columns labels values codes)

-- .. so the input check accepts it: with labels and numbers within their limits and room enough, reasons 7, 8 and 9 never arise, nor any other
abbrev pub NeverRefused : Type 0
NeverRefused =
    (rows columns labels : ℕ) (values : List Float) (codes : List ℕ) (t : Terms) (words : ℕ) → Taken rows columns values
    → 1 ≤ labels → labels ≤ most_labels → length codes ≡ rows → ((r : ℕ) → r < rows → get_or codes r 0 < labels)
    → TermsLimited t → words_per_row * rows ≤ words
    → check_of (prepared_sheet rows columns labels values codes) t words ≡ Ok tt

-- ---- the outcome

-- two outcomes that fit the contract coincide
pub record Same (a b : Verdict) (order cuts counts order₂ cuts₂ counts₂ : List ℕ) : Type 0 where
  pub answers : a ≡ b
  pub orders : order ≡ order₂
  pub places : cuts ≡ cuts₂
  pub numbers : counts ≡ counts₂

abbrev pub Determined : Type 0
Determined =
    (rows columns : ℕ) (values : List Float) (order cuts counts : List ℕ) (a b : Verdict) (order₁ cuts₁ counts₁ order₂ cuts₂ counts₂ : List ℕ)
    → PreparedOf rows columns values order cuts counts a order₁ cuts₁ counts₁
    → PreparedOf rows columns values order cuts counts b order₂ cuts₂ counts₂ → Same a b order₁ cuts₁ counts₁ order₂ cuts₂ counts₂
