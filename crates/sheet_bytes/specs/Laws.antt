-- For a signer. What holds of an accepted sheet, as statements; `proofs/` proves each.
use Rattle.std.specs.Prelude.{◌≡◌, ℕ, ◌<◌, not, List, T, Ok}
use Rattle.sheet_bytes.specs.declared.Head.{Head}
use Rattle.sheet_bytes.specs.Read.{head_of, head_cells, head_bad, size_bad, too_large, row_bad, further, terms_bad, value_bad, code_bad, read_of}

-- no reason's condition holds, anywhere
pub record Accepted (bytes : List ℕ) (h : Head) : Type 0 where
  pub head : h ≡ head_of bytes
  pub head_good : T (not (head_bad bytes))
  pub size_good : T (not (size_bad h))
  pub not_large : T (not (too_large h))
  pub rows_good : (row : ℕ) → row < h.size.rows → T (not (row_bad bytes h row))
  pub no_more : T (not (further bytes h))
  pub terms_good : T (not (terms_bad h))
  pub values_good : (index : ℕ) → index < head_cells h → T (not (value_bad bytes h index))
  pub codes_good : (row : ℕ) → row < h.size.rows → T (not (code_bad bytes h row))

-- a sheet is accepted exactly if that is so
pub record ExactlyIf (bytes : List ℕ) (h : Head) : Type 0 where
  pub passes : read_of bytes ≡ Ok h → Accepted bytes h
  pub taken : Accepted bytes h → read_of bytes ≡ Ok h

abbrev pub Accepts : Type 0
Accepts = (bytes : List ℕ) (h : Head) → ExactlyIf bytes h
