-- For a signer. The search of a whole sheet (document 01, "Search"): its columns in order, and what it answers. Definitions only.
use Rattle.std.specs.Prelude.{ℕ, zero, suc, ◌+◌, ◌-◌, List, length, leb, ltb, Ok, Err}
use Rattle.std.proofs.Math.Option.{Option, none, some}
use Rattle.basics.specs.Choice.{pick}
use Rattle.sheet.specs.Sheet.{Sheet, before_cuts}
use Rattle.sheet.specs.declared.Terms.{Terms}
use Rattle.sheet.specs.Reasons.{turned_back_for}
use Rattle.sheet.specs.Check.{Verdict, check_of, scratch_after}
use Rattle.tree.specs.declared.Answer.{Answer}
use Rattle.tree.specs.declared.Answer.TheVariants.{Kept, Found}
use Rattle.cuts.specs.declared.Run.{Run}
use Rattle.cuts.specs.Feasible.{feasible_of}
use Rattle.column_search.specs.Search.{State, column_run, tries_of}
use Rattle.column_turns.specs.Try.{searched_column, tree_at}

-- The state between two columns: the current error, the column and number of the cut whose tree it is, if any, and the tries so far.
pub record Progress : Type 0 where
  pub error : ℕ
  pub best : Option (ℕ × ℕ)
  pub tried : ℕ

-- "A strictly lower error replaces the tree"
unfoldable pub cut_after : ℕ → Option ℕ → Option (ℕ × ℕ) → Option (ℕ × ℕ)
cut_after c none best = best
cut_after c (some k) best = some (c, k)

unfoldable pub with_column : ℕ → Progress → State → Progress
with_column c p run = record { error = run.error; best = cut_after c run.best p.best; tried = p.tried + tries_of run }

-- "One interval, the feasible cuts' numbers (from 0 in the column's list), is queued": the run of column c, if it has a feasible cut
unfoldable pub progress_after_column : Sheet → Terms → ℕ → Progress → Progress
progress_after_column s t c p =
    let f : Run = feasible_of (before_cuts s c) s.rows t.support in
    pick (ltb f.first f.end) (with_column c p (column_run (searched_column s t c) t.bound f.first (f.end - 1) p.error)) p

-- n columns from c on; "After a column, stop if the error is at most the gap."
unfoldable pub search_columns : Sheet → Terms → ℕ → ℕ → Progress → Progress
search_columns s t zero c p = p
search_columns s t (suc n) c p =
    let next : Progress = progress_after_column s t c p in
    let rest : Progress = search_columns s t n (suc c) next in
    pick (leb next.error t.gap) next rest

-- "The tried count restarts at 0 each call."
unfoldable pub searched : Sheet → Terms → Progress
searched s t = search_columns s t s.columns 0 (record { error = t.error; best = none; tried = 0 })

unfoldable pub answer_holding : Sheet → Terms → Progress → Option (ℕ × ℕ) → Answer
answer_holding s t p none = Kept p.error p.tried
answer_holding s t p (some cut) = Found (tree_at s t.support cut.0 cut.1 p.error) p.tried

unfoldable pub answer_after : Sheet → Terms → Verdict → Answer
answer_after s t (Err refusal) = turned_back_for refusal
answer_after s t (Ok accepted) = let p : Progress = searched s t in answer_holding s t p p.best

-- "A search answers Turned back (number, place), Kept (error, tried) or Found (error, column, threshold, two sides, tried)."
unfoldable pub search_of : Sheet → Terms → ℕ → Answer
search_of s t words = answer_after s t (check_of s t words)

-- "After search reasons 1 to 4 scratch is untouched; after every other search call the first 8·rows words are 0 and the rest untouched."
abbrev pub scratch_of : Sheet → Terms → List ℕ → List ℕ
scratch_of s t scratch = scratch_after (check_of s t (length scratch)) s.rows scratch
