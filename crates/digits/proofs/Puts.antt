-- Stores one after the other: a text that is stored in two parts, or from its last byte to its first, is stored. Assumes nothing.
use mathlib.Core.Path.{◌≡◌, refl, sym, ap, ◌∙◌}
use Prim.Native.Nat.{ℕ, zero, suc, ◌+◌, ◌-◌, ◌/◌, ◌%◌, ◌≤◌, ◌<◌}
use native.Mathlib.Omega.{arith}
use native.Mathlib.Nat.{add-zero}
use mathlib.Core.List.{List, [], ◌∷◌, ◌++◌}
use lib.ListN.{length, set, take, drop, length-append}
use lib.Seq.{sets, sets-eq, set_comm, take-length}
use borrow.Rule.Slice.PartMut.{put_mid}
use Rattle.std.proofs.lemmas.Slice.{put_mid-paste}
use Rattle.digits.specs.Digits.{digit_of, digits_of}
use Rattle.digits.specs.Put.{Put}

-- ---- in two parts

sets_append : (l : List ℕ) (at : ℕ) (xs ys : List ℕ) → sets l at (xs ++ ys) ≡ sets (sets l at xs) (at + length xs) ys
sets_append l at [] ys = ap (λ (i : ℕ). sets l i ys) (sym (add-zero at))
sets_append l at (x ∷ xs) ys =
    let e : suc at + length xs ≡ at + suc (length xs) = omega arith in
    sets_append (set l at x) (suc at) xs ys ∙ ap (λ (i : ℕ). sets (sets l at (x ∷ xs)) i ys) e

pub joined : {l m r : List ℕ} {at next last : ℕ} {xs ys : List ℕ} → Put l at xs next m → Put m next ys last r → Put l at (xs ++ ys) last r
joined {l} {m} {r} {at} {next} {last} {xs} {ys} p q =
    record {
      past = omega (arith, length-append xs ys, p.past, q.past);
      stored =
          q.stored
          ∙ ap (λ (k : List ℕ). sets k next ys) p.stored
          ∙ ap (λ (i : ℕ). sets (sets l at xs) i ys) p.past
          ∙ sym (sets_append l at xs ys);
    }

-- ---- from the last byte back

later_store : (l : List ℕ) (at i a : ℕ) (xs : List ℕ) → at + length xs ≤ i → set (sets l at xs) i a ≡ sets (set l i a) at xs
later_store l at i a [] h = refl
later_store l at i a (x ∷ xs) h =
    later_store (set l at x) (suc at) i a xs (omega arith)
    ∙ ap (λ (k : List ℕ). sets k (suc at) xs) (set_comm l at i x a (λ e. omega arith))

last_first : (l : List ℕ) (at a : ℕ) (xs : List ℕ) → sets l at (xs ++ (a ∷ [])) ≡ sets (set l (at + length xs) a) at xs
last_first l at a xs = sets_append l at xs (a ∷ []) ∙ later_store l at (at + length xs) a xs (omega arith)

pub length_digits : (base count n : ℕ) → length (digits_of base count n) ≡ count
length_digits base zero n = refl
length_digits base (suc count) n =
    length-append (digits_of base count (n / base)) (digit_of (n % base) ∷ []) ∙ omega (arith, length_digits base count (n / base))

-- one digit less is left
pub last_digit : (l : List ℕ) (at base left rest : ℕ) → 0 < left
    → sets l at (digits_of base left rest) ≡ sets (set l (at + (left - 1)) (digit_of (rest % base))) at (digits_of base (left - 1) (rest / base))
last_digit l at base left rest h =
    ap (λ (k : ℕ). sets l at (digits_of base k rest)) (one_less left h)
    ∙ last_first l at (digit_of (rest % base)) (digits_of base (left - 1) (rest / base))
    ∙ ap (λ (i : ℕ). sets (set l (at + i) (digit_of (rest % base))) at (digits_of base (left - 1) (rest / base))) (length_digits base (left - 1) (rest / base))
  where
    one_less : (n : ℕ) → 0 < n → n ≡ suc (n - 1)
    one_less n h = omega arith

-- ---- a text over the place that is as long

pub copied : (l copy text : List ℕ) (at count : ℕ) → copy ≡ text → count ≡ length text → at + length text ≤ length l → put_mid at count l copy ≡ sets l at text
copied l copy text at count same long room =
    put_mid-paste at count l copy text (length text) same (sym long) refl
    ∙ ap (λ (k : List ℕ). take at l ++ k ++ drop (at + length text) l) (take-length text)
    ∙ sym (sets-eq text l at room)
