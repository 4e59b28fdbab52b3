-- Every sheet within the limits, encoded, is accepted and decodes to itself: each number stands where the reading looks for it, and its bytes give it back. Assumes nothing.
use mathlib.Core.Path.{◌≡◌, sym, ap, ◌∙◌, subst}
use Prim.Native.Nat.{ℕ, suc, ◌+◌, ◌*◌, ◌/◌, ◌%◌, ◌≤◌, ◌<◌}
use native.Mathlib.Omega.{arith}
use native.Mathlib.Nat.{mul-le-mul_right, add-zero, div-add-mod'}
use mathlib.Core.Bool.{Bool, true, not, ◌&&◌}
use mathlib.Core.List.{List}
use lib.ListN.{length, get_or}
use lib.Seq.{ext_get_or}
use lib.Dec.{T, ltb, leb, eqb, not_T, leb→le}
use lib.Ieee.{Float, nan, binary64, of_bits, to_bits}
use lib.Ieee.Bits.{of_bits-to_bits, to_bits-lt}
use borrow.Author.Tests.{eq-eqb}
use Rattle.basics.specs.Lists.{table}
use Rattle.basics.proofs.Choice.{nor_both, nltb, not_not}
use Rattle.basics.proofs.Lists.{get_d_table, length_table}
use Rattle.threshold.specs.Threshold.{within}
use Rattle.threshold.specs.Laws.{Measured}
use Rattle.sheet_bytes.specs.declared.Head.{Head}
use Rattle.sheet_bytes.specs.Bytes.{byte_at, number_at, marked, head_mark, row_mark}
use Rattle.sheet_bytes.specs.Room.{head_size, row_size}
use Rattle.sheet_bytes.specs.Read.{head_of, row_start, code_of, head_cells, cell_at, bits_of, value_read, values_of, codes_of, head_bad, row_bad, further, value_bad, code_bad}
use Rattle.sheet_bytes.specs.Laws.{Accepted}
use Rattle.sheet_bytes.specs.Encode.{bytes_of, head_bytes, row_bytes, encode_of, WithinLimits, RoundTrip}
use Rattle.sheet_bytes.proofs.Numbers.{seven, in_rows, in_columns}
use Rattle.sheet_bytes.proofs.Stages.{rows_inside, columns_inside, labels_inside, terms_limited, accepts}
use Rattle.sheet_bytes.proofs.Turns.{number_back}
use Rattle.sheet_bytes.proofs.Places.{past_header, all_long, in_row, in_cell}

-- ---- the header

two_bytes : (n : ℕ) → n < 65536 → n % 256 + 256 * (n / 256 % 256 + 256 * 0) ≡ n
two_bytes n h = omega arith

four_bytes : (n : ℕ) → n < 4294967296 → n % 256 + 256 * (n / 256 % 256 + 256 * (n / 256 / 256 % 256 + 256 * (n / 256 / 256 / 256 % 256 + 256 * 0))) ≡ n
four_bytes n h = omega arith

one_byte : (n : ℕ) → n < 256 → n % 256 + 256 * 0 ≡ n
one_byte n h = omega arith

module _ (h : Head) (values : List Float) (codes : List ℕ) (w : WithinLimits h values codes) where
  abbrev bytes : List ℕ
  bytes = encode_of h values codes

  head_back : h ≡ head_of bytes
  unfolding encode_of head_bytes head_of number_at
  head_back =
      let r : h.size.rows < 65536 = omega (arith, (rows_inside h w.size_good).1) in
      let k : h.size.columns < 256 = omega (arith, (columns_inside h w.size_good).1) in
      let l : h.size.labels < 256 = omega (arith, (labels_inside h w.size_good).1) in
      let s : h.terms.support < 65536 = omega (arith, (terms_limited h w.terms_good).support) in
      let g : h.terms.gap < 4294967296 = omega (arith, (terms_limited h w.terms_good).gap) in
      let e : h.terms.error < 4294967296 = omega (arith, (terms_limited h w.terms_good).error) in
      let b : h.terms.bound < 4294967296 = omega (arith, (terms_limited h w.terms_good).bound) in
      sym
      (seven (two_bytes h.size.rows r) (one_byte h.size.columns k) (one_byte h.size.labels l) (two_bytes h.terms.support s)
      (four_bytes h.terms.gap g) (four_bytes h.terms.error e) (four_bytes h.terms.bound b))

  row_marked : (row : ℕ) → row < h.size.rows → marked row_mark bytes (row_start h.size.columns row) ≡ true
  unfolding marked row_bytes
  row_marked row a =
      let first : byte_at bytes (row_start h.size.columns row) ≡ 82 = ap (byte_at bytes) (sym (add-zero (row_start h.size.columns row))) ∙ in_row h values codes row 0 a (omega arith) in
      ap (λ (t : Bool). t && eqb (byte_at bytes (row_start h.size.columns row + 1)) 87) (eq-eqb (byte_at bytes (row_start h.size.columns row)) 82 first)
      ∙ eq-eqb (byte_at bytes (row_start h.size.columns row + 1)) 87 (in_row h values codes row 1 a (omega arith))

  code_back : (row : ℕ) → row < h.size.rows → code_of bytes h row ≡ get_or codes row 0
  unfolding code_of row_bytes
  code_back row a = in_row h values codes row 2 a (omega arith)

  -- ---- the values

  value_back : (index : ℕ) → index < head_cells h → value_read bytes h index ≡ get_or values index nan
  unfolding value_read bits_of cell_at
  value_back index a =
      let some = (rows_inside h w.size_good).0 in
      let row = index % h.size.rows in
      let column = index / h.size.rows in
      let x = get_or values index nan in
      let back : column * h.size.rows + row ≡ index = div-add-mod' index h.size.rows in
      let m : Measured x = w.measured index a in
      ap (of_bits binary64)
      (number_back 8 (to_bits binary64 x) bytes (row_start h.size.columns row + 3 + 8 * column) (to_bits-lt binary64 x m.double)
      (λ j g. in_cell h values codes row column j (in_rows index h.size.rows some) (in_columns index h.size.rows h.size.columns some a) g
      ∙ ap (λ (i : ℕ). get_or (bytes_of 8 (to_bits binary64 (get_or values i nan))) j 0) back))
      ∙ of_bits-to_bits binary64 x m.double

  -- ---- the whole

  short_row : (row : ℕ) → row < h.size.rows → row_start h.size.columns (suc row) ≤ length bytes
  unfolding row_start
  short_row row a = omega (arith, (all_long h values codes), mul-le-mul_right (row_size h.size.columns) a)

  encoded_accepted : Accepted bytes h
  unfolding encode_of head_bytes head_bad row_bad further value_bad code_bad marked
  encoded_accepted =
      record {
        head = head_back;
        head_good = nor_both (ltb (length bytes) head_size) (not (marked head_mark bytes 0)) (nltb (length bytes) head_size (omega (arith, (all_long h values codes), past_header h.size.columns h.size.rows))) tt;
        size_good = w.size_good;
        not_large = w.not_large;
        rows_good = λ row a.
            nor_both (ltb (length bytes) (row_start h.size.columns (suc row))) (not (marked row_mark bytes (row_start h.size.columns row)))
            (nltb (length bytes) (row_start h.size.columns (suc row)) (short_row row a))
            (not_not (marked row_mark bytes (row_start h.size.columns row)) (subst T (sym (row_marked row a)) tt));
        no_more = nltb (row_start h.size.columns h.size.rows) (length bytes) (omega (arith, (all_long h values codes)));
        terms_good = w.terms_good;
        values_good = λ index a. not_not (within (value_read bytes h index)) (subst (λ (x : Float). T (within x)) (sym (value_back index a)) (w.measured index a).limited);
        codes_good = λ row a. not_T (leb h.size.labels (code_of bytes h row)) (λ t. omega (arith, leb→le h.size.labels (code_of bytes h row) t, code_back row a, w.coded row a));
      }

pub round_trip : RoundTrip
unfolding values_of codes_of
round_trip h values codes w =
    let b = encode_of h values codes in
    record {
      taken = (accepts b h).taken (encoded_accepted h values codes w);
      values_back =
          ext_get_or nan (table (value_read b h) (head_cells h)) values (length_table (value_read b h) (head_cells h) ∙ sym w.cells)
          (λ i a. let c : i < head_cells h = omega (arith, length_table (value_read b h) (head_cells h)) in get_d_table (value_read b h) (head_cells h) i nan c ∙ value_back h values codes w i c);
      codes_back =
          ext_get_or 0 (table (code_of b h) h.size.rows) codes (length_table (code_of b h) h.size.rows ∙ sym w.rows)
          (λ i a. let c : i < h.size.rows = omega (arith, length_table (code_of b h) h.size.rows) in get_d_table (code_of b h) h.size.rows i 0 c ∙ code_back h values codes w i c);
    }
