-- Where the bytes of an encoded sheet stand. Assumes nothing.
use mathlib.Core.Path.{◌≡◌, refl, sym, ap, ◌∙◌}
use Prim.Native.Nat.{ℕ, suc, ◌+◌, ◌*◌, ◌≤◌, ◌<◌}
use native.Mathlib.Omega.{arith}
use native.Mathlib.Nat.{le-add_right, add_assoc}
use mathlib.Core.List.{List}
use lib.ListN.{length, get_or, length-append}
use lib.Seq.{get_or-append-add}
use lib.Ieee.{Float, nan, binary64, to_bits}
use Rattle.sheet_bytes.specs.declared.Head.{Head}
use Rattle.sheet_bytes.specs.Bytes.{byte_at}
use Rattle.sheet_bytes.specs.Room.{head_size, row_size}
use Rattle.sheet_bytes.specs.Read.{row_start}
use Rattle.sheet_bytes.specs.Encode.{bytes_of, in_turn, head_bytes, row_bytes, encode_of}
use Rattle.sheet_bytes.proofs.Turns.{length_bytes, length_turn, get_d_turn}

pub past_header : (columns row : ℕ) → head_size ≤ row_start columns row
unfolding row_start
past_header columns row = le-add_right head_size (row * row_size columns)

module _ (h : Head) (values : List Float) (codes : List ℕ) where
  abbrev bytes : List ℕ
  bytes = encode_of h values codes

  pub head_long : length (head_bytes h) ≡ head_size
  unfolding head_bytes
  head_long = refl

  -- ---- the rows

  abbrev pub cell : ℕ → ℕ → List ℕ
  cell row column = bytes_of 8 (to_bits binary64 (get_or values (column * h.size.rows + row) nan))

  pub row_long : (row : ℕ) → length (row_bytes h values codes row) ≡ row_size h.size.columns
  unfolding row_bytes
  row_long row = omega (arith, length_turn 8 (cell row) h.size.columns (λ k. length_bytes 8 (to_bits binary64 (get_or values (k * h.size.rows + row) nan))))

  pub all_long : length bytes ≡ row_start h.size.columns h.size.rows
  unfolding encode_of row_start
  all_long =
      length-append (head_bytes h) (in_turn (row_bytes h values codes) h.size.rows)
      ∙ ap (λ (n : ℕ). n + length (in_turn (row_bytes h values codes) h.size.rows)) head_long
      ∙ ap (λ (n : ℕ). head_size + n) (length_turn (row_size h.size.columns) (row_bytes h values codes) h.size.rows row_long)

  pub in_row : (row j : ℕ) → row < h.size.rows → j < row_size h.size.columns → byte_at bytes (row_start h.size.columns row + j) ≡ get_or (row_bytes h values codes row) j 0
  unfolding encode_of row_start
  in_row row j a b =
      ap (byte_at bytes) (add_assoc head_size (row * row_size h.size.columns) j ∙ ap (λ (n : ℕ). n + (row * row_size h.size.columns + j)) (sym head_long))
      ∙ get_or-append-add (head_bytes h) (in_turn (row_bytes h values codes) h.size.rows) (row * row_size h.size.columns + j) 0
      ∙ get_d_turn (row_size h.size.columns) (row_bytes h values codes) h.size.rows row_long row j a b

  pub in_cell : (row column j : ℕ) → row < h.size.rows → column < h.size.columns → j < 8
      → byte_at bytes (row_start h.size.columns row + 3 + 8 * column + j) ≡ get_or (cell row column) j 0
  unfolding row_bytes
  in_cell row column j a b g =
      let e : row_start h.size.columns row + 3 + 8 * column + j ≡ row_start h.size.columns row + suc (suc (suc (column * 8 + j))) = omega arith in
      ap (byte_at bytes) e
      ∙ in_row row (suc (suc (suc (column * 8 + j)))) a (omega arith)
      ∙ get_d_turn 8 (cell row) h.size.columns (λ k. length_bytes 8 (to_bits binary64 (get_or values (k * h.size.rows + row) nan))) column j b g
