-- The search as a whole: an accepted sheet is one that the columns can be searched of, and the lent words are cleared however they were used.
-- Assumes nothing.
use mathlib.Core.Path.{◌≡◌, refl, sym, ap, ◌∙◌}
use Prim.Native.Nat.{ℕ}
use mathlib.Core.Option.{Option, none, some}
use mathlib.Core.List.{List}
use lib.ListN.{length}
use Rattle.sheet.specs.declared.Terms.{Terms}
use Rattle.std.specs.Prelude.{Ok, Err}
use Rattle.sheet.specs.declared.refusals.Refusal.{Refusal}
use Rattle.sheet.specs.Reasons.{turned_back_for}
use Rattle.sheet.specs.Sheet.{Sheet}
use Rattle.sheet.specs.Check.{Verdict, check_of, scratch_after}
use Rattle.sheet.specs.Laws.{Doubles}
use Rattle.column_turns.specs.Lent.{Enough}
use Rattle.column_turns.specs.Promise.{Whole}
use Rattle.column_turns.proofs.Accepted.{accepted_whole, still_enough}
use Rattle.column_turns.specs.declared.interval_steps.Standing.{Standing}
use Rattle.depth2.specs.Search.{Progress, searched, answer_holding, answer_after, search_of}
use Rattle.depth2.specs.Columns.{held_of, standing_of, answer_held}

-- a refused sheet is turned back by the check's number and place
pub refused : (s : Sheet) (t : Terms) (words : ℕ) (refusal : Refusal) → check_of s t words ≡ Err refusal → turned_back_for refusal ≡ search_of s t words
unfolding search_of answer_after
refused s t words refusal e = sym (ap (answer_after s t) e)

held_answer : (s : Sheet) (t : Terms) (q : Progress) (best : Option (ℕ × ℕ))
    → answer_held q.error q.tried (held_of s t.support best q.error) ≡ answer_holding s t q best
unfolding answer_held held_of answer_holding
held_answer s t q none = refl
held_answer s t q (some cut) = refl

module _ (s : Sheet) (t : Terms) (xs : List ℕ) (checked : Verdict) (is : checked ≡ check_of s t (length xs)) (accepted : checked ≡ Ok tt) where
  pub found_answer : (p : Standing) → p ≡ standing_of s t.support (searched s t) → answer_held p.error p.tried p.held ≡ search_of s t (length xs)
  unfolding search_of answer_after standing_of
  found_answer p e =
      let q : Progress = searched s t in
      (λ k. answer_held (e k).error (e k).tried (e k).held)
      ∙ held_answer s t q q.best
      ∙ ap (answer_after s t) (sym (sym is ∙ accepted))

  -- its columns can be searched, in the words that the check has left
  pub searchable : Doubles s → (ys : List ℕ) → ys ≡ scratch_after checked s.rows xs → Whole s × Enough s.rows ys
  searchable doubles ys lent =
      let fit = accepted_whole s t xs doubles (sym is ∙ accepted) in
      (fit.0, still_enough s t xs ys checked is accepted lent fit.1)
