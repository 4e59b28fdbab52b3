-- Accepted bytes are the encoding of what they decode to: byte by byte, in the header, in a row's mark and code, and in its cells. Assumes nothing.
use mathlib.Core.Path.{◌≡◌, refl, sym, ap, ◌∙◌, subst}
use Prim.Native.Nat.{ℕ, zero, suc, ◌+◌, ◌-◌, ◌*◌, ◌/◌, ◌%◌, ◌^◌, ◌≤◌, ◌<◌}
use native.Mathlib.Omega.{arith}
use native.Mathlib.Nat.{add-zero, add_assoc, div-add-mod', mod-lt, div-lt_iff_lt-mul, pow-suc}
use mathlib.Core.Bool.{not}
use mathlib.Core.List.{List, [], ◌∷◌, ◌++◌}
use lib.ListN.{length, get_or, get_or-append}
use lib.Seq.{ext_get_or}
use lib.Arith.{digits_lt, digits_div, digits_mod}
use lib.Dec.{T, ltb, eqb, eqb→eq, nltb→le}
use lib.Ieee.{Float, nan, binary64, of_bits, to_bits, is_nan}
use lib.Ieee.Bits.{to_bits-of_bits}
use Rattle.basics.proofs.Choice.{nor_left, nor_right, and_left, and_right, order}
use Rattle.basics.proofs.Lists.{get_d_table}
use Rattle.sheet_bytes.specs.declared.Head.{Head}
use Rattle.sheet_bytes.specs.Bytes.{byte_at, number_at, marked, head_mark, row_mark}
use Rattle.sheet_bytes.specs.Room.{head_size, row_size}
use Rattle.sheet_bytes.specs.Read.{head_of, row_start, code_of, head_cells, cell_at, bits_of, value_read, values_of, codes_of, head_bad, row_bad, further}
use Rattle.sheet_bytes.specs.Reading.{SmallHead}
use Rattle.sheet_bytes.specs.Laws.{Accepted}
use Rattle.sheet_bytes.specs.Encode.{bytes_of, in_turn, head_bytes, row_bytes, encode_of, Exact}
use Rattle.sheet_bytes.proofs.Numbers.{number_within}
use Rattle.sheet_bytes.proofs.Stages.{twice_not, accepted, small_accepted, valued_accepted}
use Rattle.sheet_bytes.proofs.Places.{head_long, all_long, in_row, cell}
use Rattle.sheet_bytes.proofs.Turns.{length_bytes, get_d_turn}

-- ---- a run of bytes, and the number that they say

run : ℕ → List ℕ → ℕ → List ℕ
run zero bytes at = []
run (suc width) bytes at = byte_at bytes at ∷ run width bytes (suc at)

get_d_run : (width : ℕ) (bytes : List ℕ) (at j : ℕ) → j < width → get_or (run width bytes at) j 0 ≡ byte_at bytes (at + j)
unfolding run
get_d_run zero bytes at j h = absurd (omega arith)
get_d_run (suc width) bytes at zero h = ap (byte_at bytes) (sym (add-zero at))
get_d_run (suc width) bytes at (suc j) h = get_d_run width bytes (suc at) j (omega arith) ∙ ap (byte_at bytes) (next at j)
  where
    next : (a k : ℕ) → suc a + k ≡ a + suc k
    next a k = omega arith

low_byte : (b n : ℕ) → b < 256 → (b + 256 * n) % 256 ≡ b
low_byte b n h = omega arith

high_bytes : (b n : ℕ) → b < 256 → (b + 256 * n) / 256 ≡ n
high_bytes b n h = omega arith

-- ---- nine parts

abbrev glue : ℕ → ℕ → List ℕ → List ℕ → List ℕ → List ℕ → List ℕ → List ℕ → List ℕ → List ℕ
glue m n a b c d e f g = m ∷ n ∷ (a ++ b ++ c ++ d ++ e ++ f ++ g)

glued : {m m' n n' : ℕ} {a a' b b' c c' d d' e e' f f' g g' : List ℕ} → m ≡ m' → n ≡ n' → a ≡ a' → b ≡ b' → c ≡ c' → d ≡ d' → e ≡ e' → f ≡ f' → g ≡ g'
    → glue m n a b c d e f g ≡ glue m' n' a' b' c' d' e' f' g'
glued p q r s t u v w x = cc

module _ (bytes : List ℕ) (small : (at : ℕ) → get_or bytes at 0 < 256) where
  run_back : (width at : ℕ) → bytes_of width (number_at width bytes at) ≡ run width bytes at
  unfolding number_at run
  run_back zero at = refl
  run_back (suc width) at =
      let b = byte_at bytes at in
      let n = number_at width bytes (suc at) in
      ap (λ (x : ℕ). x ∷ bytes_of width ((b + 256 * n) / 256)) (low_byte b n (small at))
      ∙ ap (λ (x : ℕ). b ∷ bytes_of width x) (high_bytes b n (small at))
      ∙ ap (λ (l : List ℕ). b ∷ l) (run_back width (suc at))

  below : (width at : ℕ) → number_at width bytes at < 256 ^ width
  unfolding number_at
  below zero at = omega arith
  below (suc width) at =
      subst (λ (k : ℕ). byte_at bytes at + 256 * number_at width bytes (suc at) < k) (sym (pow-suc 256 width))
      (bound (byte_at bytes at) (number_at width bytes (suc at)) (256 ^ width) (small at) (below width (suc at)))
    where
      bound : (b n p : ℕ) → b < 256 → n < p → b + 256 * n < p * 256
      bound b n p x y = omega arith

  module _ (h : Head) (a : Accepted bytes h) where
    abbrev back : List ℕ
    back = encode_of h (values_of bytes h) (codes_of bytes h)

    fair : SmallHead h
    fair = small_accepted bytes h a

    head_marked : T (marked head_mark bytes 0)
    unfolding head_bad
    head_marked = twice_not (marked head_mark bytes 0) (nor_right (ltb (length bytes) head_size) (not (marked head_mark bytes 0)) a.head_good)

    row_marked : (row : ℕ) → row < h.size.rows → T (marked row_mark bytes (row_start h.size.columns row))
    unfolding row_bad
    row_marked row r =
        twice_not (marked row_mark bytes (row_start h.size.columns row))
        (nor_right (ltb (length bytes) (row_start h.size.columns (suc row))) (not (marked row_mark bytes (row_start h.size.columns row))) (a.rows_good row r))

    -- ---- as many bytes as the header says

    reaches : (row : ℕ) → row < h.size.rows → row_start h.size.columns (suc row) ≤ length bytes
    unfolding row_bad
    reaches row r =
        nltb→le (length bytes) (row_start h.size.columns (suc row))
        (nor_left (ltb (length bytes) (row_start h.size.columns (suc row))) (not (marked row_mark bytes (row_start h.size.columns row))) (a.rows_good row r))

    all_there : length bytes ≡ row_start h.size.columns h.size.rows
    unfolding further
    all_there =
        let last : suc (h.size.rows - 1) ≡ h.size.rows = omega (arith, fair.rows_some) in
        let low : row_start h.size.columns h.size.rows ≤ length bytes = subst (λ (k : ℕ). row_start h.size.columns k ≤ length bytes) last (reaches (h.size.rows - 1) (omega (arith, fair.rows_some))) in
        omega (arith, nltb→le (row_start h.size.columns h.size.rows) (length bytes) a.no_more)

    -- ---- the header

    header : head_bytes h ≡ run 20 bytes 0
    unfolding head_bytes head_of run marked
    header =
        let m1 : byte_at bytes 0 ≡ 72 = eqb→eq (byte_at bytes 0) 72 (and_left (eqb (byte_at bytes 0) 72) (eqb (byte_at bytes 1) 68) head_marked) in
        let m2 : byte_at bytes 1 ≡ 68 = eqb→eq (byte_at bytes 1) 68 (and_right (eqb (byte_at bytes 0) 72) (eqb (byte_at bytes 1) 68) head_marked) in
        ap head_bytes a.head
        ∙ glued (sym m1) (sym m2) (run_back 2 2) (run_back 1 4) (run_back 1 5) (run_back 2 6) (run_back 4 8) (run_back 4 12) (run_back 4 16)

    in_header : (at : ℕ) → at < head_size → get_or back at 0 ≡ get_or bytes at 0
    unfolding encode_of
    in_header at k =
        get_or-append (head_bytes h) (in_turn (row_bytes h (values_of bytes h) (codes_of bytes h)) h.size.rows) 0 at (omega (arith, head_long h (values_of bytes h) (codes_of bytes h)))
        ∙ ap (λ (l : List ℕ). get_or l at 0) header
        ∙ get_d_run 20 bytes 0 at k
        ∙ ap (byte_at bytes) (omega arith)

    -- ---- a row

    cell_back : (row column j : ℕ) → row < h.size.rows → column < h.size.columns → j < 8
        → get_or (cell h (values_of bytes h) (codes_of bytes h) row column) j 0 ≡ byte_at bytes (row_start h.size.columns row + 3 + 8 * column + j)
    unfolding values_of value_read bits_of cell_at
    cell_back row column j r k g =
        let i = column * h.size.rows + row in
        let at = row_start h.size.columns row + 3 + 8 * column in
        let inside : i < head_cells h = digits_lt k r in
        let e : number_at 8 bytes (cell_at h i) ≡ number_at 8 bytes at =
        ap (λ (x : ℕ). number_at 8 bytes (row_start h.size.columns x + 3 + 8 * (i / h.size.rows))) (digits_mod column r)
        ∙ ap (λ (x : ℕ). number_at 8 bytes (row_start h.size.columns row + 3 + 8 * x)) (digits_div column r) in
        let number : T (not (is_nan (of_bits binary64 (number_at 8 bytes (cell_at h i))))) = number_within (of_bits binary64 (number_at 8 bytes (cell_at h i))) (valued_accepted bytes h a i inside) in
        ap (λ (x : Float). get_or (bytes_of 8 (to_bits binary64 x)) j 0) (get_d_table (value_read bytes h) (head_cells h) i nan inside)
        ∙ ap (λ (n : ℕ). get_or (bytes_of 8 n) j 0) (to_bits-of_bits binary64 (number_at 8 bytes (cell_at h i)) (below 8 (cell_at h i)) number ∙ e)
        ∙ ap (λ (l : List ℕ). get_or l j 0) (run_back 8 at)
        ∙ get_d_run 8 bytes at j g

    in_a_row : (row j : ℕ) → row < h.size.rows → j < row_size h.size.columns → get_or (row_bytes h (values_of bytes h) (codes_of bytes h) row) j 0 ≡ byte_at bytes (row_start h.size.columns row + j)
    unfolding row_bytes marked codes_of code_of
    in_a_row row zero r k =
        let at = row_start h.size.columns row in
        sym (ap (byte_at bytes) (add-zero at) ∙ eqb→eq (byte_at bytes at) 82 (and_left (eqb (byte_at bytes at) 82) (eqb (byte_at bytes (at + 1)) 87) (row_marked row r)))
    in_a_row row (suc zero) r k =
        let at = row_start h.size.columns row in
        sym (eqb→eq (byte_at bytes (at + 1)) 87 (and_right (eqb (byte_at bytes at) 82) (eqb (byte_at bytes (at + 1)) 87) (row_marked row r)))
    in_a_row row (suc (suc zero)) r k = get_d_table (code_of bytes h) h.size.rows row 0 r
    in_a_row row (suc (suc (suc m))) r k =
        let f = cell h (values_of bytes h) (codes_of bytes h) row in
        let e : m / 8 * 8 + m % 8 ≡ m = div-add-mod' m 8 in
        let below_columns : m / 8 < h.size.columns = omega arith in
        let in_eight : m % 8 < 8 = omega arith in
        let place : row_start h.size.columns row + 3 + 8 * (m / 8) + m % 8 ≡ row_start h.size.columns row + suc (suc (suc m)) = omega arith in
        ap (λ (x : ℕ). get_or (in_turn f h.size.columns) x 0) (sym e)
        ∙ get_d_turn 8 f h.size.columns (λ c. length_bytes 8 (to_bits binary64 (get_or (values_of bytes h) (c * h.size.rows + row) nan))) (m / 8) (m % 8) below_columns in_eight
        ∙ cell_back row (m / 8) (m % 8) r below_columns in_eight
        ∙ ap (byte_at bytes) place

    -- ---- past the header

    past : (at : ℕ) → head_size ≤ at → at < length bytes → get_or back at 0 ≡ get_or bytes at 0
    unfolding row_start
    past at k l =
        let size = row_size h.size.columns in
        let q = at - head_size in
        let row = q / size in
        let some : 0 < size = omega arith in
        let split : row * size + q % size ≡ q = div-add-mod' q size in
        let place : row_start h.size.columns row + q % size ≡ at = add_assoc head_size (row * size) (q % size) ∙ ap (λ (x : ℕ). head_size + x) split ∙ omega arith in
        let inside : q < h.size.rows * size = omega (arith, all_there) in
        let r : row < h.size.rows = (div-lt_iff_lt-mul some).1 inside in
        ap (λ (x : ℕ). get_or back x 0) (sym place)
        ∙ in_row h (values_of bytes h) (codes_of bytes h) row (q % size) r (mod-lt q some)
        ∙ in_a_row row (q % size) r (mod-lt q some)
        ∙ ap (byte_at bytes) place

    whole : back ≡ bytes
    whole =
        ext_get_or 0 back bytes (all_long h (values_of bytes h) (codes_of bytes h) ∙ sym all_there)
        (λ at k. order head_size at
        (λ far. past at far (omega (arith, all_long h (values_of bytes h) (codes_of bytes h), all_there)))
        (λ near. in_header at near))

pub exact : Exact
exact bytes h small e = whole bytes small h (accepted bytes h e)
