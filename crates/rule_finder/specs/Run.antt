-- For a signer. What the finder answers to a sheet's bytes (document 01, "Program (added)"): the reader's refusal, or what the search of the
-- prepared sheet answers. Definitions only.
use Rattle.std.specs.Prelude.{ℕ, ◌*◌, List, Result, Ok, Err}
use Rattle.sheet.specs.Limits.{words_per_row}
use Rattle.sheet.specs.Sheet.{Sheet}
use Rattle.sheet.specs.Reasons.{turned_back_for}
use Rattle.sheet.specs.declared.refusals.Refusal.{Refusal}
use Rattle.sheet.specs.declared.lent.Measured.{Measured}
use Rattle.tree.specs.declared.Answer.{Answer}
use Rattle.depth2.specs.Search.{search_of}
use Rattle.prepare.specs.Laws.{prepared_sheet}
use Rattle.sheet_bytes.specs.Room.{most_read}
use Rattle.sheet_bytes.specs.declared.Head.{Head}
use Rattle.sheet_bytes.specs.Read.{values_of, codes_of, read_of}

-- "Scratch has at least 8 u32 words per row.": enough for the largest sheet, whatever the sheet
abbrev pub words_lent : ℕ
words_lent = words_per_row * most_read

-- "The preparer takes values only": what was measured, with the preparer's order, cuts and counts
abbrev pub prepared_in : Measured → Sheet
prepared_in m = prepared_sheet m.size.rows m.size.columns m.size.labels m.values.now m.codes.now

-- and the sheet that the bytes say
abbrev pub sheet_read : List ℕ → Head → Sheet
sheet_read bytes h = prepared_sheet h.size.rows h.size.columns h.size.labels (values_of bytes h) (codes_of bytes h)

-- "A refused sheet prints `REFUSED 22 place=3`", with the reader's number and place; any other is searched
unfoldable pub answer_to : List ℕ → Result Head Refusal → Answer
answer_to bytes (Err refusal) = turned_back_for refusal
answer_to bytes (Ok h) = search_of (sheet_read bytes h) h.terms words_lent

unfoldable pub run_of : List ℕ → Answer
run_of bytes = answer_to bytes (read_of bytes)
