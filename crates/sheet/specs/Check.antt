-- For a signer. Document 01, "Reasons a call turns back", reasons 1 to 9: what the input check answers for any inputs whatever. Definitions
-- only.
use Rattle.std.specs.Prelude.{ℕ, ◌-◌, ◌*◌, ◌/◌, ◌%◌, Bool, true, false, not, ◌&&◌, ◌||◌, List, [], ◌∷◌, ◌++◌, length, get_or, drop, replicate, leb, ltb, eqb, Float, Result, Ok, Err}
use Rattle.std.specs.Float.{nan}
use Rattle.basics.specs.Choice.{pick}
use Rattle.basics.specs.Lists.{those}
use Rattle.basics.specs.Walk.{walk}
use Rattle.threshold.specs.Order.{is_below}
use Rattle.threshold.specs.Threshold.{within}
use Rattle.sheet.specs.declared.Size.{Size}
use Rattle.sheet.specs.declared.Terms.{Terms}
use Rattle.sheet.specs.declared.refusals.Reason.{Reason}
use Rattle.sheet.specs.declared.refusals.Reason.TheVariants.{SizeOutside, LengthWrong, ScratchShort, TermAbove, ValueOutside, LabelHigh, OrderWrong, ValueFalls, CutsWrong}
use Rattle.sheet.specs.declared.refusals.Refusal.{Refusal}
use Rattle.sheet.specs.Limits.{most_rows, most_columns, most_labels, most_support, most_error, words_per_row}
use Rattle.sheet.specs.Reasons.{number_of, refused}
use Rattle.sheet.specs.Sheet.{Sheet, row_at, value_at, is_cut, every_row, places_of}

-- the sheet that the lent slices hold
abbrev pub sheet_of : Size → List Float → List ℕ → List ℕ → List ℕ → List ℕ → Sheet
sheet_of size values codes order cuts counts =
    record {
      rows = size.rows;
      columns = size.columns;
      labels = size.labels;
      values = values;
      codes = codes;
      order = order;
      cuts = cuts;
      counts = counts;
    }

-- "Values, order and cuts have rows×columns entries exactly"
abbrev pub cells_of : Sheet → ℕ
cells_of s = s.columns * s.rows

-- ---- one test per reason and place

-- 1: no "rows, columns or labels outside limits". The preparer, which has no labels, goes by rows and columns
abbrev pub between : ℕ → ℕ → ℕ → Bool
between least n most = leb least n && leb n most

unfoldable pub grid_holds : ℕ → ℕ → Bool
grid_holds rows columns = between 1 rows most_rows && between 1 columns most_columns

unfoldable pub size_holds : ℕ → ℕ → ℕ → Bool
size_holds rows columns labels = grid_holds rows columns && between 1 labels most_labels

-- 2: no "input slice of the wrong length"
unfoldable pub lengths_hold : Sheet → Bool
lengths_hold s =
    eqb (length s.values) (cells_of s)
    && eqb (length s.codes) s.rows
    && eqb (length s.order) (cells_of s)
    && eqb (length s.cuts) (cells_of s)
    && eqb (length s.counts) s.columns

-- 3: no "scratch too short", of that many words
unfoldable pub scratch_holds : Sheet → ℕ → Bool
scratch_holds s words = leb (words_per_row * s.rows) words

-- 4: no "support, gap, error or bound above its limit"
unfoldable pub terms_hold : Terms → Bool
terms_hold t = leb t.support most_support && leb t.gap most_error && leb t.error most_error && leb t.bound most_error

-- 5: "value not finite or too large", at an index of the values
unfoldable pub bad_value : List Float → ℕ → Bool
bad_value values index = not (within (get_or values index nan))

-- the first index of one, or the length if there is none
abbrev pub first_bad_value : List Float → ℕ
first_bad_value values = walk (bad_value values) (length values) 0

-- 6: "label code too high", at a row
unfoldable pub bad_label : List ℕ → ℕ → ℕ → Bool
bad_label codes labels row = leb labels (get_or codes row 0)

-- the first row of one, or the length if there is none
abbrev pub first_bad_label : List ℕ → ℕ → ℕ
first_bad_label codes labels = walk (bad_label codes labels) (length codes) 0

-- 7: "order entry not below rows, or a row met before in its column", at sorted place i of column c. It was met before if its first place in
-- the column is an earlier one
unfoldable pub met : Sheet → ℕ → ℕ → Bool
met s c i = ltb (walk (λ j. eqb (row_at s c j) (row_at s c i)) i 0) i

unfoldable pub bad_order : Sheet → ℕ → ℕ → Bool
bad_order s c i = leb s.rows (row_at s c i) || met s c i

-- 8: "sorted value below its predecessor", i ≥ 1, at sorted place i of column c
unfoldable pub falls : Sheet → ℕ → ℕ → Bool
falls s c i = leb 1 i && is_below (value_at s c i) (value_at s c (i - 1))

-- 9: "count or cuts not exactly the value changes", of column c: the listed places are not the list of all cuts, ascending
unfoldable pub cuts_of : Sheet → ℕ → List ℕ
cuts_of s c = those (is_cut s c) (every_row s)

unfoldable pub same : List ℕ → List ℕ → Bool
same [] [] = true
same [] (y ∷ ys) = false
same (x ∷ xs) [] = false
same (x ∷ xs) (y ∷ ys) = let r = same xs ys in eqb x y && r

unfoldable pub bad_cuts : Sheet → ℕ → Bool
bad_cuts s c = not (same (places_of s c) (cuts_of s c))

-- ---- "The lowest number wins, each check over the whole sheet."

-- a test of sorted place i of column c, at the index c·rows+i
abbrev pub at_index : (ℕ → ℕ → Bool) → ℕ → ℕ → Bool
at_index bad rows index = bad (index / rows) (index % rows)

-- a sheet is accepted, or turned back for a reason and at a place
abbrev pub Verdict : Type 0
Verdict = Result (Unit {0}) Refusal

-- turned back for this reason, with the first of the places that fails; else the rest
unfoldable pub reason : Reason → ℕ → (ℕ → Bool) → Verdict → Verdict
reason why places bad rest = let p : ℕ = walk bad places 0 in pick (ltb p places) (Err (refused why p)) rest

-- what concerns the whole call is reported at place 0
abbrev pub whole : Reason → Bool → Verdict → Verdict
whole why holds rest = pick holds rest (Err (refused why 0))

-- reasons 5 to 9: what the lists hold
unfoldable pub content_of : Sheet → Verdict
content_of s =
    reason ValueOutside (cells_of s) (bad_value s.values)
    (reason LabelHigh s.rows (bad_label s.codes s.labels)
    (reason OrderWrong (cells_of s) (at_index (bad_order s) s.rows)
    (reason ValueFalls (cells_of s) (at_index (falls s) s.rows)
    (reason CutsWrong s.columns (bad_cuts s) (Ok tt)))))

unfoldable pub check_of : Sheet → Terms → ℕ → Verdict
check_of s t words =
    whole SizeOutside (size_holds s.rows s.columns s.labels)
    (whole LengthWrong (lengths_hold s)
    (whole ScratchShort (scratch_holds s words)
    (whole TermAbove (terms_hold t)
    (content_of s))))

-- ---- "After search reasons 1 to 4 scratch is untouched; after every other search call the first 8·rows words are 0 and the rest untouched."

abbrev pub cleared : ℕ → List ℕ → List ℕ
cleared words scratch = replicate words 0 ++ drop words scratch

unfoldable pub scratch_after : Verdict → ℕ → List ℕ → List ℕ
scratch_after (Ok accepted) rows scratch = cleared (words_per_row * rows) scratch
scratch_after (Err refusal) rows scratch = pick (leb (number_of refusal.reason) 4) scratch (cleared (words_per_row * rows) scratch)
