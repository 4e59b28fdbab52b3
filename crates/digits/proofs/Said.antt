-- Digits say their number: the last one is what is left over, and those before it say the quotient. Assumes nothing.
use mathlib.Core.Path.{◌≡◌, refl, sym, ap, ◌∙◌, subst}
use Prim.Native.Nat.{ℕ, zero, suc, ◌+◌, ◌-◌, ◌*◌, ◌/◌, ◌%◌, ◌^◌, ◌≤◌, ◌<◌}
use native.Mathlib.Omega.{arith}
use native.Mathlib.Nat.{div-add-mod', mod-lt, div-lt_iff_lt-mul, le-div_iff_mul-le, pow-suc, pow-zero, mod-eq_of_lt, one-mul}
use mathlib.Core.List.{List, [], ◌∷◌, ◌++◌}
use lib.ListN.{get_or, get_or-append}
use lib.Dec.{ltb, ltb→lt, nltb→le}
use lib.Ieee.{to_bits}
use Rattle.basics.specs.Walk.{walk}
use Rattle.basics.proofs.Choice.{by_ltb, reach}
use Rattle.basics.proofs.Walk.{walked}
use Rattle.digits.specs.Digits.{digit_of, digits_of, digits_in, decimal_of, hex_of, most_places}
use Rattle.digits.specs.Laws.{digit_said, number_said, DecimalSays, NoLeadingZero, HexSays, NanBits}
use Rattle.digits.proofs.Puts.{length_digits}

-- ---- one digit

digit_back : (d : ℕ) → d < 16 → digit_said (digit_of d) ≡ d
unfolding digit_of digit_said
digit_back d h =
    by_ltb (λ (g : ℕ). digit_said g ≡ d) d 10
    (λ k. by_ltb (λ (r : ℕ). r ≡ d) (48 + d) 65 (λ _. omega arith) (λ z. absurd (omega arith)))
    (λ k. by_ltb (λ (r : ℕ). r ≡ d) (55 + d) 65 (λ z. absurd (omega arith)) (λ _. omega arith))

-- ---- one digit more

said_more : (base before : ℕ) (xs : List ℕ) (code : ℕ) → number_said base before (xs ++ (code ∷ [])) ≡ number_said base before xs * base + digit_said code
said_more base before [] code = refl
said_more base before (x ∷ xs) code = said_more base (before * base + digit_said x) xs code

pub says : (base : ℕ) → 0 < base → base ≤ 16 → (count n : ℕ) → n < base ^ count → number_said base 0 (digits_of base count n) ≡ n
says base p q zero n h = omega (arith, pow-zero base)
says base p q (suc count) n h =
    let below : n / base < base ^ count = (div-lt_iff_lt-mul p).1 (subst (λ (k : ℕ). n < k) (pow-suc base count) h) in
    let last : n % base < 16 = omega (arith, mod-lt n p) in
    said_more base 0 (digits_of base count (n / base)) (digit_of (n % base))
    ∙ ap (λ (x : ℕ). x * base + digit_said (digit_of (n % base))) (says base p q count (n / base) below)
    ∙ ap (λ (x : ℕ). n / base * base + x) (digit_back (n % base) last)
    ∙ div-add-mod' n base

-- ---- as many digits as n has

pub places_hold : (n : ℕ) → n < 10 ^ most_places → n < 10 ^ digits_in n
unfolding digits_in
places_hold n h =
    let r = walk (λ k. ltb n (10 ^ k)) 19 1 in
    let v = walked (λ k. ltb n (10 ^ k)) 19 1 in
    reach r 20 v.high (λ e. subst (λ (k : ℕ). n < 10 ^ k) (sym e) h) (λ l. ltb→lt n (10 ^ r) (v.found l))

pub decimal_says : DecimalSays
unfolding decimal_of
decimal_says n h = says 10 (omega arith) (omega arith) (digits_in n) n (places_hold n h)

pub hex_says : HexSays
unfolding hex_of
hex_says bits h = (says 16 (omega arith) (omega arith) 16 bits h, length_digits 16 16 bits)

-- ---- the first digit

some_digit : (d : ℕ) → 1 ≤ d → digit_of d ≡ 48 → ⊥
unfolding digit_of
some_digit d h = by_ltb (λ (g : ℕ). g ≡ 48 → ⊥) d 10 (λ _ e. omega arith) (λ _ e. omega arith)

first_digit : (base count n : ℕ) → 0 < base → base ^ count ≤ n → n < base ^ suc count → base ≤ 16 → get_or (digits_of base (suc count) n) 0 0 ≡ 48 → ⊥
first_digit base zero n p l h q e =
    let once : base ^ suc zero ≡ base = pow-suc base 0 ∙ ap (λ (k : ℕ). k * base) (pow-zero base) ∙ one-mul base in
    let itself : n % base ≡ n = mod-eq_of_lt (subst (λ (k : ℕ). n < k) once h) in
    some_digit (n % base) (omega (arith, itself, pow-zero base)) e
first_digit base (suc count) n p l h q e =
    first_digit base count (n / base) p
    ((le-div_iff_mul-le p).1 (subst (λ (k : ℕ). k ≤ n) (pow-suc base count) l))
    ((div-lt_iff_lt-mul p).1 (subst (λ (k : ℕ). n < k) (pow-suc base (suc count)) h))
    q
    (sym (get_or-append (digits_of base (suc count) (n / base)) (digit_of (n % base) ∷ []) 0 0 (omega (arith, length_digits base (suc count) (n / base)))) ∙ e)

pub no_leading_zero : NoLeadingZero
unfolding decimal_of digits_in
no_leading_zero n h l e =
    let r = walk (λ k. ltb n (10 ^ k)) 19 1 in
    let v = walked (λ k. ltb n (10 ^ k)) 19 1 in
    let many : 1 < r = omega (arith, length_digits 10 r n) in
    let one_less : r ≡ suc (r - 1) = omega arith in
    first_digit 10 (r - 1) n (omega arith)
    (nltb→le n (10 ^ (r - 1)) (v.before (r - 1) (omega arith) (omega arith)))
    (subst (λ (k : ℕ). n < 10 ^ k) one_less (places_hold n h))
    (omega arith)
    (subst (λ (k : ℕ). get_or (digits_of 10 k n) 0 0 ≡ 48) one_less e)

-- ---- a NaN

pub nan_bits : NanBits
unfolding to_bits
nan_bits = refl
