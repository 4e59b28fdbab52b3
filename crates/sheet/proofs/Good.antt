-- A sound sheet meets no condition of the table: each is the contrary of something that soundness says. Assumes nothing.
use mathlib.Core.Path.{◌≡◌, refl, sym, ◌∙◌}
use mathlib.Core.Logic.{⊎_elim}
use Prim.Native.Nat.{ℕ, zero, suc, ◌-◌, ◌*◌, ◌≤◌, ◌<◌}
use native.Mathlib.Omega.{arith}
use mathlib.Core.Bool.{Bool}
use lib.Dec.{T, eqb, eqb→eq}
use Rattle.basics.specs.Lists.{tally, table}
use Rattle.basics.proofs.Choice.{bit_true, bit_false, bit_le, decide, eqb_yes}
use lib.Ieee.{lt}
use Rattle.threshold.specs.Order.{comparable}
use Rattle.threshold.proofs.Keys.{lt→}
use Rattle.threshold.proofs.Law.{measured_comparable}
use Rattle.sheet.specs.declared.Terms.{Terms}
use Rattle.sheet.specs.Limits.{words_per_row}
use Rattle.sheet.specs.Sheet.{Sheet, row_at, value_at, order_of}
use Rattle.sheet.specs.Sound.{Sound, SoundColumn}
use Rattle.sheet.specs.Laws.{Condition, Lengths, TermsLimited, SoundAccepted}
use Rattle.sheet.proofs.Exact.{accepted_exactly}

-- ---- a row stands in the order once

abbrev equal : ℕ → ℕ → Bool
equal r x = eqb x r

once : (f : ℕ → ℕ) (r i n : ℕ) → i < n → f i ≡ r → 1 ≤ tally (equal r) (table f n)
once f r i zero h e = absurd (omega arith)
once f r zero (suc n) h e = omega (arith, bit_true (eqb (f 0) r) (eqb_yes (f 0) r e))
once f r (suc i) (suc n) h e = omega (arith, once (λ k. f (suc k)) r i n (omega arith) e)

twice : (f : ℕ → ℕ) (r j i n : ℕ) → j < i → i < n → f j ≡ r → f i ≡ r → 2 ≤ tally (equal r) (table f n)
twice f r j i zero l h d e = absurd (omega arith)
twice f r j zero (suc n) l h d e = absurd (omega arith)
twice f r zero (suc i) (suc n) l h d e = omega (arith, bit_true (eqb (f 0) r) (eqb_yes (f 0) r d), once (λ k. f (suc k)) r i n (omega arith) e)
twice f r (suc j) (suc i) (suc n) l h d e = omega (arith, twice (λ k. f (suc k)) r j i n (omega arith) (omega arith) d e)

none : (f : ℕ → ℕ) (r n : ℕ) → ((i : ℕ) → i < n → f i ≡ r → ⊥) → tally (equal r) (table f n) ≡ 0
none f r zero h = refl
none f r (suc n) h =
    decide (eqb (f 0) r) (λ t. absurd (h 0 (omega arith) (eqb→eq (f 0) r t)))
    (λ t. omega (arith, bit_false (eqb (f 0) r) t, none (λ k. f (suc k)) r n (λ i l. h (suc i) (omega arith))))

-- no row of the sheet is listed twice among all rows
alone : (f : ℕ → ℕ) (r n : ℕ) → ((i j : ℕ) → j < i → i < n → f j ≡ f i → ⊥) → tally (equal r) (table f n) ≤ 1
alone f r zero h = omega arith
alone f r (suc n) h =
    decide (eqb (f 0) r)
    (λ t. omega (arith, bit_le (eqb (f 0) r), none (λ k. f (suc k)) r n (λ i l e. h (suc i) 0 (omega arith) (omega arith) (eqb→eq (f 0) r t ∙ sym e))))
    (λ t. omega (arith, bit_false (eqb (f 0) r) t, alone (λ k. f (suc k)) r n (λ i j l g. h (suc i) (suc j) (omega arith) (omega arith))))

module _ (s : Sheet) (c : ℕ) (col : SoundColumn s c) where
  met_once : (i j : ℕ) → j < i → i < s.rows → row_at s c j ≡ row_at s c i → ⊥
  unfolding order_of
  met_once i j l h e =
      omega (
        arith,
        twice (row_at s c) (row_at s c i) j i s.rows l h e refl,
        col.each_once (equal (row_at s c i)),
        alone (λ r. r) (row_at s c i) s.rows (λ i j l g e. omega arith),
      )

  rises : (i : ℕ) → i < s.rows → T (lt (value_at s c i) (value_at s c (i - 1))) → ⊥
  unfolding value_at
  rises i h t =
      let at : (k : ℕ) → k < s.rows → T (comparable (value_at s c k)) = λ k l. measured_comparable (value_at s c k) (col.measured (row_at s c k) (col.in_rows k l)) in
      omega (arith, lt→ (value_at s c i) (value_at s c (i - 1)) (at i h) (at (i - 1) (omega arith)) t, col.ascends (i - 1) i (omega arith) h)

-- ---- no condition holds

module _ (s : Sheet) (t : Terms) (words : ℕ) (sound : Sound s) (long : Lengths s) (room : words_per_row * s.rows ≤ words) (few : TermsLimited t) where
  none_holds : (n p : ℕ) → Condition s t words n p → ⊥
  none_holds zero p h = h
  none_holds (suc zero) p h = h.1 sound.limited
  none_holds (suc (suc zero)) p h = h.1 long
  none_holds (suc (suc (suc zero))) p h = omega (arith, h.1)
  none_holds (suc (suc (suc (suc zero)))) p h =
      ⊎_elim (λ a. omega (arith, few.support)) (⊎_elim (λ a. omega (arith, few.gap)) (⊎_elim (λ a. omega (arith, few.error)) (λ a. omega (arith, few.bound)))) h.1
  none_holds (suc (suc (suc (suc (suc zero))))) p h = h.5 ((sound.column h.0 h.2).measured h.1 h.3).limited
  none_holds (suc (suc (suc (suc (suc (suc zero)))))) p h = omega (arith, h.1, sound.labelled p h.0)
  none_holds (suc (suc (suc (suc (suc (suc (suc zero))))))) p h =
      let col : SoundColumn s h.0 = sound.column h.0 h.2 in
      ⊎_elim (λ a. omega (arith, a, col.in_rows h.1 h.3)) (λ a. met_once s h.0 col h.1 a.0 a.1 h.3 a.2) h.5
  none_holds (suc (suc (suc (suc (suc (suc (suc (suc zero)))))))) p h = rises s h.0 (sound.column h.0 h.2) h.1 h.3 h.6
  none_holds (suc (suc (suc (suc (suc (suc (suc (suc (suc zero))))))))) p h = h.1 (sound.column p h.0).cuts
  none_holds (suc (suc (suc (suc (suc (suc (suc (suc (suc (suc n)))))))))) p h = h

pub sound_accepted : SoundAccepted
sound_accepted s t words sound long room few = (accepted_exactly s t words).1 (none_holds s t words sound long room few)
