-- The worked sheet and its damaged copies, computed: one list, one proof. Assumes nothing.
use mathlib.Core.Path.{◌≡◌, refl}
use mathlib.Core.List.{map}
use lib.Ieee.{of_bits, lt, eq, le}
use Rattle.basics.specs.Choice.{pick}
use Rattle.basics.specs.Walk.{walk}
use Rattle.threshold.specs.Threshold.{within}
use Rattle.sheet.specs.Check.{grid_holds, size_holds, terms_hold}
use Rattle.sheet_bytes.specs.Bytes.{number_at, marked}
use Rattle.sheet_bytes.specs.Read.{head_of, row_start, code_of, cell_at, bits_of, value_read, head_bad, size_bad, too_large, row_bad, further, terms_bad, value_bad, code_bad, first_bad, from_terms, read_of}
use Rattle.sheet_bytes.specs.Table.{ReadEntry, table_r}

pub table_r_lem : map (λ (e : ReadEntry). read_of e.bytes) table_r ≡ map (λ (e : ReadEntry). e.answer) table_r
unfolding table_r read_of from_terms first_bad code_bad value_bad terms_bad further row_bad too_large size_bad size_holds grid_holds terms_hold head_bad value_read bits_of cell_at code_of row_start head_of number_at marked within pick walk of_bits lt eq le
table_r_lem = refl
