-- A number by its bytes; two bytes as a mark; where a cell stands; a NaN by its bits. Assumes nothing.
use mathlib.Core.Path.{◌≡◌, refl, sym, ap, ◌∙◌, subst}
use Prim.Native.Nat.{ℕ, suc, ◌+◌, ◌*◌, ◌/◌, ◌%◌, ◌≤◌, ◌<◌}
use native.Mathlib.Omega.{arith}
use native.Mathlib.Nat.{mod-lt, div-lt_iff_lt-mul}
use mathlib.Core.Bool.{Bool, true, false, not, ◌&&◌}
use mathlib.Core.List.{List, [], ◌∷◌}
use lib.ListN.{length, get_or, take, drop}
use lib.Seq.{drop-cons}
use lib.Pointwise.{pointwise}
use native.Mathlib.Numerals.{add-one}
use Rattle.std.specs.Int.{w16, w32, w64, from_le_bytes}
use lib.Dec.{T, ltb, eqb, lt→ltb, not_T, ltb→lt}
use lib.Ieee.{Float, nan, inf, fin, binary64, of_bits, nan_bits, is_nan, lt, eq, le}
use lib.Ieee.Bits.{nan_bits_is, nan_bits_above}
use Rattle.threshold.specs.Threshold.{within}
use Rattle.sheet_bytes.specs.declared.Head.{Head}
use Rattle.sheet_bytes.specs.Read.{row_start}
use Rattle.sheet_bytes.specs.Bytes.{byte_at, number_at, marked}

-- ---- the bytes from a place on, as a number

module _ (bytes : List ℕ) (at : ℕ) (xs : List ℕ) where
  abbrev Read : ℕ → Type 0
  Read n = (i : ℕ) → i < n → get_or xs i 0 ≡ byte_at bytes (at + i)

  nth : {n : ℕ} → Read n → (i k : ℕ) → i < n → at + i ≡ k → get_or xs i 0 ≡ byte_at bytes k
  nth read i k h e = read i h ∙ ap (byte_at bytes) e

  pub number_2 : Read 2 → from_le_bytes w16 xs ≡ number_at 2 bytes at
  unfolding number_at
  number_2 read = omega (arith, nth read 0 at (omega arith) (omega arith), nth read 1 (suc at) (omega arith) (omega arith))

  pub number_4 : Read 4 → from_le_bytes w32 xs ≡ number_at 4 bytes at
  unfolding number_at
  number_4 read =
      omega (
        arith,
        nth read 0 at (omega arith) (omega arith),
        nth read 1 (suc at) (omega arith) (omega arith),
        nth read 2 (suc (suc at)) (omega arith) (omega arith),
        nth read 3 (suc (suc (suc at))) (omega arith) (omega arith),
      )

  pub number_8 : Read 8 → from_le_bytes w64 xs ≡ number_at 8 bytes at
  unfolding number_at
  number_8 read =
      omega (
        arith,
        nth read 0 at (omega arith) (omega arith),
        nth read 1 (suc at) (omega arith) (omega arith),
        nth read 2 (suc (suc at)) (omega arith) (omega arith),
        nth read 3 (suc (suc (suc at))) (omega arith) (omega arith),
        nth read 4 (suc (suc (suc (suc at)))) (omega arith) (omega arith),
        nth read 5 (suc (suc (suc (suc (suc at))))) (omega arith) (omega arith),
        nth read 6 (suc (suc (suc (suc (suc (suc at)))))) (omega arith) (omega arith),
        nth read 7 (suc (suc (suc (suc (suc (suc (suc at))))))) (omega arith) (omega arith),
      )

pub number_1 : (bytes : List ℕ) (at : ℕ) → byte_at bytes at ≡ number_at 1 bytes at
unfolding number_at
number_1 bytes at = omega arith

-- ---- products and places

pub in_rows : (index rows : ℕ) → 1 ≤ rows → index % rows < rows
in_rows index rows h = mod-lt index h

pub in_columns : (index rows columns : ℕ) → 1 ≤ rows → index < columns * rows → index / rows < columns
in_columns index rows columns h k = (div-lt_iff_lt-mul h).1 k

-- ---- a NaN's bits are those above an infinity's

pub no_nan : (bits : ℕ) → bits % 9223372036854775808 ≤ 9218868437227405312 → T (not (nan_bits binary64 bits))
no_nan bits h =
    subst (λ (t : Bool). T (not t)) (sym (nan_bits_above binary64 bits))
    (not_T (ltb 9218868437227405312 (bits % 9223372036854775808)) (λ t. omega (arith, ltb→lt 9218868437227405312 (bits % 9223372036854775808) t)))

nan_outside : (x : Float) → T (is_nan x) → within x ≡ false
unfolding is_nan within lt eq le
nan_outside nan t = refl
nan_outside (inf s) t = absurd t
nan_outside (fin s m e) t = absurd t

pub nan_refused : (bits : ℕ) → 9218868437227405312 < bits % 9223372036854775808 → within (of_bits binary64 bits) ≡ false
nan_refused bits h =
    nan_outside (of_bits binary64 bits)
    (subst T (sym (nan_bits_above binary64 bits) ∙ nan_bits_is binary64 bits) (lt→ltb 9218868437227405312 (bits % 9223372036854775808) h))

pub number_within : (x : Float) → T (within x) → T (not (is_nan x))
unfolding is_nan within lt eq le
number_within nan t = absurd t
number_within (inf s) t = tt
number_within (fin s m e) t = tt

pub within_number : (bits : ℕ) → T (within (of_bits binary64 bits)) → T (not (nan_bits binary64 bits))
within_number bits t = subst (λ (b : Bool). T (not b)) (sym (nan_bits_is binary64 bits)) (number_within (of_bits binary64 bits) t)

-- ---- a header by its seven numbers

abbrev made : ℕ → ℕ → ℕ → ℕ → ℕ → ℕ → ℕ → Head
made rows columns labels support gap error bound =
    record { size = record { rows = rows; columns = columns; labels = labels }; terms = record { support = support; gap = gap; error = error; bound = bound } }

pub seven : {a a' b b' c c' d d' e e' f f' g g' : ℕ} → a ≡ a' → b ≡ b' → c ≡ c' → d ≡ d' → e ≡ e' → f ≡ f' → g ≡ g'
    → made a b c d e f g ≡ made a' b' c' d' e' f' g'
seven p q r s t u v = cc

-- ---- two bytes of a list

pub two_marked : (bytes mark : List ℕ) (at n : ℕ) → n ≡ 2 → at + 2 ≤ length bytes → length mark ≡ 2
    → pointwise eqb (take n (drop at bytes)) mark ≡ marked (record { first = get_or mark 0 0; second = get_or mark 1 0 }) bytes at
unfolding marked
two_marked bytes [] at n e h k = absurd (omega arith)
two_marked bytes (x ∷ []) at n e h k = absurd (omega arith)
two_marked bytes (x ∷ y ∷ z ∷ zs) at n e h k = absurd (omega arith)
two_marked bytes (x ∷ y ∷ []) at n e h k =
    ap (λ (m : ℕ). pointwise eqb (take m (drop at bytes)) (x ∷ y ∷ [])) e
    ∙ ap (λ (l : List ℕ). pointwise eqb (take 2 l) (x ∷ y ∷ []))
    (drop-cons bytes at 0 (omega arith) ∙ ap (λ (l : List ℕ). get_or bytes at 0 ∷ l) (drop-cons bytes (suc at) 0 (omega arith)))
    ∙ both (eqb (get_or bytes at 0) x) (eqb (get_or bytes (suc at) 0) y) (eqb (get_or bytes (at + 1) 0) y) (ap (λ (k : ℕ). eqb (get_or bytes k 0) y) (sym (add-one at)))
  where
    both : (a b b' : Bool) → b ≡ b' → (a && (b && true)) ≡ (a && b')
    both a true b' f = ap (λ t. a && t) f
    both a false b' f = ap (λ t. a && t) f

-- ---- a row is longer than its mark

pub starts_apart : (columns row : ℕ) → row_start columns row + 2 ≤ row_start columns (row + 1)
unfolding row_start
starts_apart columns row = omega arith
