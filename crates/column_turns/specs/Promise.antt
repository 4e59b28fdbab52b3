-- For a signer. The search of one column in code: the sheet that it asks for, and what it promises, by the definition of a column's run (column_search).
-- Definitions and statements only.
use Rattle.std.specs.Prelude.{◌≡◌, ℕ, ◌+◌, ◌-◌, ◌*◌, ◌≤◌, ◌<◌, List, ltb, Option, Some}
use Rattle.std.proofs.Math.Option.{Option as Maybe, none, some}
use Rattle.basics.specs.Choice.{pick}
use Rattle.sheet.specs.declared.Terms.{Terms}
use Rattle.sheet.specs.Limits.{most_columns}
use Rattle.sheet.specs.Sheet.{Sheet, before_cuts}
use Rattle.sheet.specs.Sound.{Sound}
use Rattle.sheet.specs.Laws.{Lengths}
use Rattle.cuts.specs.declared.Run.{Run}
use Rattle.cuts.specs.Feasible.{feasible_of}
use Rattle.column_search.specs.Search.{State, column_run, tries_of}
use Rattle.tree.specs.declared.Tree.{Tree}
use Rattle.column_turns.specs.declared.interval_steps.Standing.{Standing}
use Rattle.column_turns.specs.Lent.{Enough, RestKept}
use Rattle.column_turns.specs.Try.{searched_column, tree_at}

-- ---- what is asked

-- an accepted sheet: sound, and its lists of just the lengths that they must have
pub record Whole (s : Sheet) : Type 0 where
  pub sound : Sound s
  pub lengths : Lengths s

-- the most tries that a column may take, rounded up
abbrev pub most_tries : ℕ
most_tries = 8192

-- a column of an accepted sheet, scratch enough, and so few tries before it that they can be counted on
pub record Searching (s : Sheet) (c : ℕ) (standing : Standing) (scratch : List ℕ) : Type 0 where
  pub whole : Whole s
  pub here : c < s.columns
  pub enough : Enough s.rows scratch
  pub few : standing.tried ≤ most_columns * most_tries

-- ---- what is promised

-- the tree held after a run of column c that ends with that best cut and that error
unfoldable pub held_after : Sheet → ℕ → ℕ → Maybe ℕ → ℕ → Option Tree → Option Tree
held_after s support c none error held = held
held_after s support c (some k) error held = Some (tree_at s support c k error)

-- the standing after such a run: its error, its tries too, and the tree held
unfoldable pub standing_after_run : Sheet → ℕ → ℕ → Standing → State → Standing
standing_after_run s support c p run =
    record { error = run.error; tried = p.tried + tries_of run; held = held_after s support c run.best run.error p.held }

-- the feasible cuts' numbers
abbrev pub feasible_at : Sheet → Terms → ℕ → Run
feasible_at s t c = feasible_of (before_cuts s c) s.rows t.support

abbrev pub first_at : Sheet → Terms → ℕ → ℕ
first_at s t c = (feasible_at s t c).first

abbrev pub last_at : Sheet → Terms → ℕ → ℕ
last_at s t c = (feasible_at s t c).end - 1

-- the standing after column c: that after its run, if it has a feasible cut
unfoldable pub standing_after_column : Sheet → Terms → ℕ → Standing → Standing
standing_after_column s t c p =
    pick (ltb (first_at s t c) (feasible_at s t c).end)
    (standing_after_run s t.support c p (column_run (searched_column s t c) t.bound (first_at s t c) (last_at s t c) p.error))
    p

-- its standing, and every lent word that is not the search's
pub record ColumnSearched (s : Sheet) (t : Terms) (c : ℕ) (standing : Standing) (was : List ℕ) (answer : Standing) (scratch : List ℕ) : Type 0 where
  pub standing_is : answer ≡ standing_after_column s t c standing
  pub kept : RestKept s.rows was scratch
