-- The answer, reason by reason, as the code finds it. Assumes nothing.
use mathlib.Core.Path.{◌≡◌, refl, sym, ap, ◌∙◌}
use Prim.Native.Nat.{ℕ, ◌*◌, ◌≤◌}
use mathlib.Core.Bool.{Bool, not}
use mathlib.Core.List.{List}
use lib.Dec.{T, ltb, lt→ltb}
use borrow.Author.Tests.{le-ltb}
use Rattle.std.specs.Prelude.{Option, Some, None, Err}
use Rattle.basics.specs.Choice.{pick}
use Rattle.basics.specs.Walk.{walk, place_among}
use Rattle.basics.proofs.Walk.{place_some, place_none}
use Rattle.basics.proofs.Choice.{by_test, pick_true, pick_false}
use Rattle.sheet.specs.declared.Terms.{Terms}
use Rattle.sheet.specs.declared.refusals.Reason.{Reason}
use Rattle.sheet.specs.declared.refusals.Reason.TheVariants.{SizeOutside, ValueOutside, LabelHigh, OrderWrong, ValueFalls, CutsWrong}
use Rattle.sheet.specs.Reasons.{refused}
use Rattle.sheet.specs.Limits.{words_per_row}
use Rattle.sheet.specs.Sheet.{Sheet}
use Rattle.sheet.specs.Check.{cells_of, size_holds, bad_value, bad_label, bad_order, falls, bad_cuts, at_index, Verdict, reason, content_of, cleared, scratch_after, whole, check_of}
use Rattle.sheet.proofs.Search.{untruth}
use Rattle.sheet.proofs.Answer.{rest2, rest6}

-- ---- one reason

module _ (why : Reason) (places : ℕ) (bad : ℕ → Bool) (rest : Verdict) where
  pub reason_past : places ≤ walk bad places 0 → {r : Verdict} → r ≡ rest → r ≡ reason why places bad rest
  unfolding reason
  reason_past h f =
      f
      ∙ sym
      (pick_false (ltb (walk bad places 0) places) (Err (refused why (walk bad places 0))) rest
      (untruth (le-ltb (walk bad places 0) places h)))

  -- what a search of its places found, of as many as there are
  module _ (n : ℕ) (all : n ≡ places) (place : Option ℕ) (is : place ≡ place_among n (walk bad n 0)) where
    searched : place ≡ place_among places (walk bad places 0)
    searched = is ∙ ap (λ (m : ℕ). place_among m (walk bad m 0)) all

    pub reason_stop : (p : ℕ) → place ≡ Some p → Err (refused why p) ≡ reason why places bad rest
    unfolding reason
    reason_stop p e =
        let w = place_some places (walk bad places 0) p (sym searched ∙ e) in
        sym
        (pick_true (ltb (walk bad places 0) places) (Err (refused why (walk bad places 0))) rest (lt→ltb (walk bad places 0) places w.1)
        ∙ ap (λ (m : ℕ). Err (refused why m)) w.0)

    pub reason_go : place ≡ None → {r : Verdict} → r ≡ rest → r ≡ reason why places bad rest
    reason_go e f = reason_past (place_none places (walk bad places 0) (sym searched ∙ e)) f

-- whatever holds of a refusal at every place, and of the rest, holds of the answer
pub by_reason {ℓ} : (P : Verdict → Type ℓ) (why : Reason) (places : ℕ) (bad : ℕ → Bool) {rest : Verdict} → ((p : ℕ) → P (Err (refused why p)))
    → P rest → P (reason why places bad rest)
unfolding reason
by_reason P why places bad {rest} f g = by_test P (ltb (walk bad places 0) places) (λ _. f (walk bad places 0)) (λ _. g)

-- ---- reasons 1 to 4

module _ (why : Reason) (holds : Bool) (rest : Verdict) where
  pub whole_stop : T (not holds) → Err (refused why 0) ≡ whole why holds rest
  whole_stop t = sym (pick_false holds rest (Err (refused why 0)) t)

  pub whole_go : T holds → {r : Verdict} → r ≡ rest → r ≡ whole why holds rest
  whole_go t f = f ∙ sym (pick_true holds rest (Err (refused why 0)) t)

module _ (s : Sheet) (t : Terms) (words : ℕ) where
  pub checked : check_of s t words ≡ whole SizeOutside (size_holds s.rows s.columns s.labels) (rest2 s t words)
  unfolding check_of
  checked = refl

-- ---- reasons 5 to 9

module _ (s : Sheet) where
  pub content : content_of s ≡ reason ValueOutside (cells_of s) (bad_value s.values) (rest6 s)
  unfolding content_of
  content = refl

  -- scratch is cleared whatever they answer
  pub content_clears : (rows : ℕ) (scratch : List ℕ) → scratch_after (content_of s) rows scratch ≡ cleared (words_per_row * rows) scratch
  unfolding content_of scratch_after pick
  content_clears rows scratch =
      let P : Verdict → Type 0 = λ r. scratch_after r rows scratch ≡ cleared (words_per_row * rows) scratch in
      by_reason P ValueOutside (cells_of s) (bad_value s.values) (λ _. refl)
      (by_reason P LabelHigh s.rows (bad_label s.codes s.labels) (λ _. refl)
      (by_reason P OrderWrong (cells_of s) (at_index (bad_order s) s.rows) (λ _. refl)
      (by_reason P ValueFalls (cells_of s) (at_index (falls s) s.rows) (λ _. refl)
      (by_reason P CutsWrong s.columns (bad_cuts s) (λ _. refl) refl))))
