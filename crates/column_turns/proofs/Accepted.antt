-- What an accepted call comes with, and the lent words after it. Assumes nothing.
use mathlib.Core.Path.{◌≡◌, sym, ap, ◌∙◌}
use Prim.Native.Nat.{ℕ, ◌*◌, ◌≤◌}
use native.Mathlib.Omega.{arith}
use mathlib.Core.Bool.{Bool, true, false}
use mathlib.Core.List.{List, ◌++◌}
use lib.ListN.{length, drop, replicate, length-append, length-drop, length-replicate}
use lib.Seq.{drop_at}
use lib.Dec.{T, leb→le}
use Rattle.basics.specs.Choice.{pick}
use Rattle.sheet.specs.declared.Terms.{Terms}
use Rattle.std.specs.Prelude.{Ok}
use Rattle.sheet.specs.declared.refusals.Reason.{Reason}
use Rattle.sheet.specs.declared.refusals.Reason.TheVariants.{SizeOutside, LengthWrong, ScratchShort, TermAbove}
use Rattle.sheet.specs.Limits.{words_per_row}
use Rattle.sheet.specs.Sheet.{Sheet}
use Rattle.sheet.specs.Check.{size_holds, lengths_hold, scratch_holds, terms_hold, Verdict, whole, content_of, check_of, cleared, scratch_after}
use Rattle.sheet.specs.Laws.{Doubles}
use Rattle.sheet.proofs.Answer.{measured_lists}
use Rattle.sheet.proofs.Accepted.{accepted_sound}
use Rattle.column_turns.specs.Lent.{rest_of, Enough, RestKept}
use Rattle.column_turns.specs.Promise.{Whole}

-- a condition of the whole call passed, and so did the rest
passes : (why : Reason) (holds : Bool) (rest : Verdict) → whole why holds rest ≡ Ok tt → T holds × (rest ≡ Ok tt)
unfolding pick
passes why true rest e = (tt, e)
passes why false rest e = absurd cc

pub accepted_parts : (s : Sheet) (t : Terms) (words : ℕ) → Doubles s → check_of s t words ≡ Ok tt → Whole s × (words_per_row * s.rows ≤ words)
unfolding check_of scratch_holds
accepted_parts s t words doubles e =
    let rest4 : Verdict = whole TermAbove (terms_hold t) (content_of s) in
    let rest3 : Verdict = whole ScratchShort (scratch_holds s words) rest4 in
    let first = passes SizeOutside (size_holds s.rows s.columns s.labels) (whole LengthWrong (lengths_hold s) rest3) e in
    let second = passes LengthWrong (lengths_hold s) rest3 first.1 in
    let third = passes ScratchShort (scratch_holds s words) rest4 second.1 in (
      record { sound = accepted_sound s t words doubles e; lengths = measured_lists s second.0 },
      leb→le (words_per_row * s.rows) words third.0,
    )

pub accepted_whole : (s : Sheet) (t : Terms) (xs : List ℕ) → Doubles s → check_of s t (length xs) ≡ Ok tt → Whole s × Enough s.rows xs
accepted_whole s t xs doubles e =
    let parts = accepted_parts s t (length xs) doubles e in
    let limited = parts.0.sound.limited in
    (parts.0, record { some = limited.rows_some; few = limited.rows_most; words = parts.1 })

-- ---- the lent words

cleared_length : (n : ℕ) (xs : List ℕ) → n ≤ length xs → length (cleared n xs) ≡ length xs
cleared_length n xs h = length-append (replicate n 0) (drop n xs) ∙ simp (length-replicate, length-drop) (omega arith)

cleared_rest : (n : ℕ) (xs : List ℕ) → drop n (cleared n xs) ≡ drop n xs
cleared_rest n xs = drop_at (replicate n 0) (drop n xs) n (length-replicate n 0)

after_check : (c : Verdict) (rows : ℕ) (xs ys : List ℕ) → ys ≡ scratch_after c rows xs → c ≡ Ok tt → ys ≡ cleared (words_per_row * rows) xs
unfolding scratch_after
after_check c rows xs ys e a = e ∙ ap (λ (z : Verdict). scratch_after z rows xs) a

module _ (s : Sheet) (t : Terms) (xs ys : List ℕ) (checked : Verdict) (is : checked ≡ check_of s t (length xs)) (accepted : checked ≡ Ok tt)
    (lent : ys ≡ scratch_after checked s.rows xs) where
  pub still_enough : Enough s.rows xs → Enough s.rows ys
  still_enough e =
      let l : length ys ≡ length xs = ap length (after_check checked s.rows xs ys lent accepted) ∙ cleared_length (words_per_row * s.rows) xs e.words in
      record { some = e.some; few = e.few; words = omega (arith, e.words) }

  pub cleared_again : (zs : List ℕ) → RestKept s.rows ys zs → cleared (words_per_row * s.rows) zs ≡ scratch_after (check_of s t (length xs)) s.rows xs
  unfolding rest_of scratch_after
  cleared_again zs k =
      let w : ℕ = words_per_row * s.rows in
      ap (λ (l : List ℕ). replicate w 0 ++ l)
      (k.rest ∙ ap (drop w) (after_check checked s.rows xs ys lent accepted) ∙ cleared_rest w xs)
      ∙ ap (λ (z : Verdict). scratch_after z s.rows xs) (sym (sym is ∙ accepted))
