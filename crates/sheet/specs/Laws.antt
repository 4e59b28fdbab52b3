-- For a signer. What holds of the input check, as statements; `proofs/` proves each. The conditions of the table stand here once more, with no
-- search in them: "for all" and "there is", so that a reader need not trust the order of any scan.
use Rattle.std.specs.Prelude.{◌≡◌, ◌⊎◌, ℕ, ◌+◌, ◌-◌, ◌*◌, ◌≤◌, ◌<◌, List, [], ◌∷◌, length, get_or, T, Ok}
use Rattle.std.proofs.Math.Option.{some}
use Rattle.std.specs.Float.{nan, binary64}
use Rattle.std.specs.Float.Ieee.{fits}
use Rattle.threshold.specs.Order.{is_below}
use Rattle.threshold.specs.Threshold.{within}
use Rattle.sheet.specs.declared.Terms.{Terms}
use Rattle.sheet.specs.Limits.{most_support, most_error, words_per_row}
use Rattle.sheet.specs.Sheet.{Sheet, value_of, label_of, row_at, value_at}
use Rattle.sheet.specs.Sound.{Limited, Cuts, Sound}
use Rattle.sheet.specs.Reasons.{reason_of}
use Rattle.sheet.specs.Check.{check_of}

-- ---- the conditions, each of a place

-- 1: "rows, columns or labels outside limits", place 0
abbrev pub SizeOutside : Sheet → ℕ → Type 0
SizeOutside s p = (p ≡ 0) × (Limited s → ⊥)

-- 2: "an input slice of the wrong length", place 0. "Values, order and cuts have rows×columns entries exactly, counts have columns, labels have
-- rows."
pub record Lengths (s : Sheet) : Type 0 where
  pub values_all : length s.values ≡ s.columns * s.rows
  pub codes_all : length s.codes ≡ s.rows
  pub order_all : length s.order ≡ s.columns * s.rows
  pub cuts_all : length s.cuts ≡ s.columns * s.rows
  pub counts_all : length s.counts ≡ s.columns

abbrev pub LengthWrong : Sheet → ℕ → Type 0
LengthWrong s p = (p ≡ 0) × (Lengths s → ⊥)

-- 3: "scratch too short", place 0
abbrev pub ScratchShort : Sheet → ℕ → ℕ → Type 0
ScratchShort s words p = (p ≡ 0) × (words < words_per_row * s.rows)

-- 4: "support, gap, error or bound above its limit", place 0
abbrev pub TermAbove : Terms → ℕ → Type 0
TermAbove t p = (p ≡ 0) × ((most_support < t.support) ⊎ ((most_error < t.gap) ⊎ ((most_error < t.error) ⊎ (most_error < t.bound))))

-- 5: "value not finite or too large", the index c·rows+r
abbrev pub ValueOutside : Sheet → ℕ → Type 0
ValueOutside s p =
    (c : ℕ) × (r : ℕ) × (c < s.columns) × (r < s.rows) × (p ≡ c * s.rows + r) × (T (within (value_of s c r)) → ⊥)

-- 6: "label code too high", the row
abbrev pub LabelHigh : Sheet → ℕ → Type 0
LabelHigh s r = (r < s.rows) × (s.labels ≤ label_of s r)

-- 7: "order entry not below rows, or a row met before in its column", the index c·rows+i
abbrev pub OrderWrong : Sheet → ℕ → Type 0
OrderWrong s p =
    (c : ℕ) × (i : ℕ) × (c < s.columns) × (i < s.rows) × (p ≡ c * s.rows + i)
    × ((s.rows ≤ row_at s c i) ⊎ ((j : ℕ) × (j < i) × (row_at s c j ≡ row_at s c i)))

-- 8: "sorted value below its predecessor", the index c·rows+i, i ≥ 1
abbrev pub ValueFalls : Sheet → ℕ → Type 0
ValueFalls s p =
    (c : ℕ) × (i : ℕ) × (c < s.columns) × (i < s.rows) × (p ≡ c * s.rows + i) × (1 ≤ i) × T (is_below (value_at s c i) (value_at s c (i - 1)))

-- 9: "count or cuts not exactly the value changes", the column. `Cuts` says what exactly they are
abbrev pub CutsWrong : Sheet → ℕ → Type 0
CutsWrong s c = (c < s.columns) × (Cuts s c → ⊥)

-- the conditions of reasons 1 to 9 at a place, by number, behind that of number 0, which is no reason
abbrev pub conditions_of : Sheet → Terms → ℕ → ℕ → List (Type 0)
conditions_of s t words p =
    ⊥
    ∷ SizeOutside s p
    ∷ LengthWrong s p
    ∷ ScratchShort s words p
    ∷ TermAbove t p
    ∷ ValueOutside s p
    ∷ LabelHigh s p
    ∷ OrderWrong s p
    ∷ ValueFalls s p
    ∷ CutsWrong s p
    ∷ []

abbrev pub Condition : Sheet → Terms → ℕ → ℕ → ℕ → Type 0
Condition s t words n p = get_or (conditions_of s t words p) n ⊥

-- ---- "The lowest number wins, each check over the whole sheet."

-- of conditions by number and place: reason n holds at place p, at no earlier place, and no lower reason holds anywhere
pub record First (C : ℕ → ℕ → Type 0) (n p : ℕ) : Type 0 where
  pub here : C n p
  pub no_earlier : (q : ℕ) → q < p → C n q → ⊥
  pub no_lower : (m q : ℕ) → m < n → C m q → ⊥

-- "Each is given exactly when its condition holds and no lower one does."
abbrev pub GivenExactly : Type 0
GivenExactly =
    (s : Sheet) (t : Terms) (words n p : ℕ)
    → (reason_of (check_of s t words) ≡ some (n, p) → First (Condition s t words) n p)
    × (First (Condition s t words) n p → reason_of (check_of s t words) ≡ some (n, p))

-- and a sheet of which none holds is accepted, and no other
abbrev pub AcceptedExactly : Type 0
AcceptedExactly =
    (s : Sheet) (t : Terms) (words : ℕ)
    → (check_of s t words ≡ Ok tt → (n p : ℕ) → Condition s t words n p → ⊥)
    × (((n p : ℕ) → Condition s t words n p → ⊥) → check_of s t words ≡ Ok tt)

-- ---- what an accepted sheet is

-- the values are doubles, as those of every slice of f64 are
abbrev pub Doubles : Sheet → Type 0
Doubles s = (i : ℕ) → T (fits binary64 (get_or s.values i nan))

abbrev pub AcceptedSound : Type 0
AcceptedSound = (s : Sheet) (t : Terms) (words : ℕ) → Doubles s → check_of s t words ≡ Ok tt → Sound s

-- ---- good input is never refused

-- numbers of a search within their limits
pub record TermsLimited (t : Terms) : Type 0 where
  pub support : t.support ≤ most_support
  pub gap : t.gap ≤ most_error
  pub error : t.error ≤ most_error
  pub bound : t.bound ≤ most_error

-- a sound sheet in slices of the right lengths, with room enough, is accepted
abbrev pub SoundAccepted : Type 0
SoundAccepted =
    (s : Sheet) (t : Terms) (words : ℕ) → Sound s → Lengths s → words_per_row * s.rows ≤ words → TermsLimited t → check_of s t words ≡ Ok tt
