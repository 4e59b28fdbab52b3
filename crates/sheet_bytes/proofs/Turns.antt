-- Where the bytes of an encoded sheet stand: lists of one length, one after the other. Assumes nothing.
use mathlib.Core.Path.{◌≡◌, refl, sym, ap, ◌∙◌, subst}
use Prim.Native.Nat.{ℕ, zero, suc, ◌+◌, ◌*◌, ◌/◌, ◌%◌, ◌^◌, ◌<◌}
use native.Mathlib.Omega.{arith}
use native.Mathlib.Nat.{zero-mul, suc-mul, zero-add, add-zero, add_assoc, add_comm, div-lt_iff_lt-mul, pow-suc, zero-lt-suc}
use mathlib.Core.List.{List}
use lib.ListN.{length, get_or, length-append, get_or-append}
use lib.Seq.{get_or-append-add}
use Rattle.sheet_bytes.specs.Bytes.{byte_at, number_at}
use Rattle.sheet_bytes.specs.Encode.{bytes_of, in_turn}

pub length_bytes : (width n : ℕ) → length (bytes_of width n) ≡ width
length_bytes zero n = refl
length_bytes (suc width) n = ap suc (length_bytes width (n / 256))

-- ---- lists of length w in turn

pub length_turn : (w : ℕ) (f : ℕ → List ℕ) (n : ℕ) → ((k : ℕ) → length (f k) ≡ w) → length (in_turn f n) ≡ n * w
length_turn w f zero e = sym (zero-mul w)
length_turn w f (suc n) e =
    length-append (f 0) (in_turn (λ k. f (suc k)) n)
    ∙ ap (λ (x : ℕ). x + length (in_turn (λ k. f (suc k)) n)) (e 0)
    ∙ ap (λ (x : ℕ). w + x) (length_turn w (λ k. f (suc k)) n (λ k. e (suc k)))
    ∙ add_comm w (n * w)
    ∙ sym (suc-mul n w)

pub get_d_turn : (w : ℕ) (f : ℕ → List ℕ) (n : ℕ) → ((k : ℕ) → length (f k) ≡ w) → (k j : ℕ) → k < n → j < w
    → get_or (in_turn f n) (k * w + j) 0 ≡ get_or (f k) j 0
get_d_turn w f zero e k j h g = absurd (omega arith)
get_d_turn w f (suc n) e zero j h g =
    ap (λ (i : ℕ). get_or (in_turn f (suc n)) i 0) (ap (λ (x : ℕ). x + j) (zero-mul w) ∙ zero-add j)
    ∙ get_or-append (f 0) (in_turn (λ k. f (suc k)) n) 0 j (subst (λ (x : ℕ). j < x) (sym (e 0)) g)
get_d_turn w f (suc n) e (suc k) j h g =
    ap (λ (i : ℕ). get_or (in_turn f (suc n)) i 0)
    (ap (λ (x : ℕ). x + j) (suc-mul k w ∙ add_comm (k * w) w) ∙ add_assoc w (k * w) j ∙ ap (λ (x : ℕ). x + (k * w + j)) (sym (e 0)))
    ∙ get_or-append-add (f 0) (in_turn (λ k. f (suc k)) n) (k * w + j) 0
    ∙ get_d_turn w (λ k. f (suc k)) n (λ k. e (suc k)) k j (omega arith) g

-- ---- a number whose bytes stand from a place on

rest_below : (width n : ℕ) → n < 256 ^ suc width → n / 256 < 256 ^ width
rest_below width n h = (div-lt_iff_lt-mul (zero-lt-suc 255)).1 (subst (λ (k : ℕ). n < k) (pow-suc 256 width) h)

pub number_back : (width n : ℕ) (bytes : List ℕ) (at : ℕ) → n < 256 ^ width
    → ((j : ℕ) → j < width → byte_at bytes (at + j) ≡ get_or (bytes_of width n) j 0) → number_at width bytes at ≡ n
unfolding number_at
number_back zero n bytes at h e = omega arith
number_back (suc width) n bytes at h e =
    let first : byte_at bytes at ≡ n % 256 = ap (byte_at bytes) (sym (add-zero at)) ∙ e 0 (omega arith) in
    let rest : number_at width bytes (suc at) ≡ n / 256 =
    number_back width (n / 256) bytes (suc at) (rest_below width n h)
    (λ j g. ap (byte_at bytes) (next at j) ∙ e (suc j) (omega arith)) in
    omega (arith, first, rest)
  where
    next : (a j : ℕ) → suc a + j ≡ a + suc j
    next a j = omega arith
