-- For a signer. What a sheet's bytes say, and when they are refused (document 01, "Program (added)"). Definitions only.
use Rattle.std.specs.Prelude.{◌≡◌, ℕ, suc, ◌+◌, ◌*◌, ◌/◌, ◌%◌, Bool, not, ◌||◌, List, ◌++◌, length, drop, leb, ltb, Float, Result, Ok, Err}
use Rattle.std.specs.Float.{binary64}
use Rattle.std.specs.Float.Ieee.{of_bits}
use Rattle.basics.specs.Choice.{pick}
use Rattle.basics.specs.Lists.{table}
use Rattle.basics.specs.Walk.{walk}
use Rattle.threshold.specs.Threshold.{within}
use Rattle.sheet.specs.Check.{size_holds, terms_hold}
use Rattle.sheet_bytes.specs.declared.Head.{Head}
use Rattle.sheet_bytes.specs.Bytes.{byte_at, number_at, mark_size, marked, head_mark, row_mark}
use Rattle.sheet.specs.Reasons.{refused}
use Rattle.sheet.specs.declared.refusals.Reason.{Reason}
use Rattle.sheet.specs.declared.refusals.Reason.TheVariants.{SizeOutside, TermAbove, ValueOutside, LabelHigh, ScratchShort, HeadWrong, SheetLarge, RowWrong, BytesLeft}
use Rattle.sheet.specs.declared.refusals.Refusal.{Refusal}
use Rattle.sheet_bytes.specs.Room.{head_size, row_fixed, value_size, row_size, most_read, most_cells}

-- ---- where each number stands

-- "`HD`: rows u16, columns u8, labels u8, support u16, gap u32, error u32, bound u32."
unfoldable pub head_of : List ℕ → Head
head_of bytes =
    record {
      size = record { rows = number_at 2 bytes 2; columns = number_at 1 bytes 4; labels = number_at 1 bytes 5 };
      terms = record {
        support = number_at 2 bytes 6;
        gap = number_at 4 bytes 8;
        error = number_at 4 bytes 12;
        bound = number_at 4 bytes 16;
      };
    }

-- "Then per row `RW`: label u8, then the columns' f64 bits."
-- where a row's record starts; that of the row past the last is the end
unfoldable pub row_start : ℕ → ℕ → ℕ
row_start columns row = head_size + row * row_size columns

-- a row's label code
unfoldable pub code_of : List ℕ → Head → ℕ → ℕ
code_of bytes h row = byte_at bytes (row_start h.size.columns row + mark_size)

-- how many values there are
abbrev pub head_cells : Head → ℕ
head_cells h = h.size.columns * h.size.rows

-- "Value of row r in column c lies at c·rows+r." So the value at an index is that of row index % rows in column index / rows: where its bits stand
unfoldable pub cell_at : Head → ℕ → ℕ
cell_at h index = row_start h.size.columns (index % h.size.rows) + row_fixed + value_size * (index / h.size.rows)

unfoldable pub bits_of : List ℕ → Head → ℕ → ℕ
bits_of bytes h index = number_at value_size bytes (cell_at h index)

-- a NaN's bits, of which there are many, are `nan`
unfoldable pub value_read : List ℕ → Head → ℕ → Float
value_read bytes h index = of_bits binary64 (bits_of bytes h index)

-- the values and the label codes, as a sheet has them
unfoldable pub values_of : List ℕ → Head → List Float
values_of bytes h = table (value_read bytes h) (head_cells h)

unfoldable pub codes_of : List ℕ → Head → List ℕ
codes_of bytes h = table (code_of bytes h) h.size.rows

-- ---- one test per reason and place

-- 20: "header short or mismarked"
unfoldable pub head_bad : List ℕ → Bool
head_bad bytes = ltb (length bytes) head_size || not (marked head_mark bytes 0)

-- 1, as the input check has it
unfoldable pub size_bad : Head → Bool
size_bad h = not (size_holds h.size.rows h.size.columns h.size.labels)

-- 21: "more than 2,048 rows or 8,192 cells"
unfoldable pub too_large : Head → Bool
too_large h = ltb most_read h.size.rows || ltb most_cells (head_cells h)

-- 22: "row short or mismarked"
unfoldable pub row_bad : List ℕ → Head → ℕ → Bool
row_bad bytes h row =
    ltb (length bytes) (row_start h.size.columns (suc row)) || not (marked row_mark bytes (row_start h.size.columns row))

-- 23: "further bytes"
unfoldable pub further : List ℕ → Head → Bool
further bytes h = ltb (row_start h.size.columns h.size.rows) (length bytes)

-- 4, as the input check has it
unfoldable pub terms_bad : Head → Bool
terms_bad h = not (terms_hold h.terms)

-- 5: "value not finite or too large"
unfoldable pub value_bad : List ℕ → Head → ℕ → Bool
value_bad bytes h index = not (within (value_read bytes h index))

-- 6: "label code too high"
unfoldable pub code_bad : List ℕ → Head → ℕ → Bool
code_bad bytes h row = leb h.size.labels (code_of bytes h row)

-- ---- "Order: 20, 1, 21, 22, 23, 4, 5, 6."

-- the first of `count` places that is bad refuses, else the rest decides
unfoldable pub first_bad : Reason → (ℕ → Bool) → ℕ → Result Head Refusal → Result Head Refusal
first_bad reason bad count rest = pick (ltb (walk bad count 0) count) (Err (refused reason (walk bad count 0))) rest

abbrev pub from_codes : List ℕ → Head → Result Head Refusal
from_codes bytes h = first_bad LabelHigh (code_bad bytes h) h.size.rows (Ok h)

abbrev pub from_values : List ℕ → Head → Result Head Refusal
from_values bytes h = first_bad ValueOutside (value_bad bytes h) (head_cells h) (from_codes bytes h)

unfoldable pub from_terms : List ℕ → Head → Result Head Refusal
from_terms bytes h = pick (terms_bad h) (Err (refused TermAbove 0)) (from_values bytes h)

abbrev pub from_end : List ℕ → Head → Result Head Refusal
from_end bytes h = pick (further bytes h) (Err (refused BytesLeft 0)) (from_terms bytes h)

abbrev pub from_rows : List ℕ → Head → Result Head Refusal
from_rows bytes h = first_bad RowWrong (row_bad bytes h) h.size.rows (from_end bytes h)

abbrev pub from_large : List ℕ → Head → Result Head Refusal
from_large bytes h = pick (too_large h) (Err (refused SheetLarge 0)) (from_rows bytes h)

abbrev pub from_size : List ℕ → Head → Result Head Refusal
from_size bytes h = pick (size_bad h) (Err (refused SizeOutside 0)) (from_large bytes h)

unfoldable pub read_of : List ℕ → Result Head Refusal
read_of bytes = pick (head_bad bytes) (Err (refused HeadWrong 0)) (from_size bytes (head_of bytes))

-- ---- the reading into lent memory

-- refused where the memory is too short for the largest sheet
unfoldable pub read_answer : List ℕ → ℕ → ℕ → Result Head Refusal
read_answer bytes values codes = pick (ltb values most_cells || ltb codes most_read) (Err (refused ScratchShort 0)) (read_of bytes)

-- the memory afterwards: the values and the codes, and what stood past them as it was; a refusal leaves it all as it was
unfoldable pub values_in : Result Head Refusal → List ℕ → List Float → List Float
values_in (Err refusal) bytes values = values
values_in (Ok h) bytes values = values_of bytes h ++ drop (head_cells h) values

unfoldable pub codes_in : Result Head Refusal → List ℕ → List ℕ → List ℕ
codes_in (Err refusal) bytes codes = codes
codes_in (Ok h) bytes codes = codes_of bytes h ++ drop h.size.rows codes

-- what a call leaves: its answer, and the two lent lists
pub record ReadInto (bytes : List ℕ) (values : List Float) (codes : List ℕ) (answer : Result Head Refusal) (values' : List Float) (codes' : List ℕ) : Type 0 where
  pub answers : answer ≡ read_answer bytes (length values) (length codes)
  pub stored : values' ≡ values_in answer bytes values
  pub coded : codes' ≡ codes_in answer bytes codes
