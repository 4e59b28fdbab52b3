-- For proofs only. The search's state between two columns as the code keeps it, beside the definition's, and what one must say of the other.
use Rattle.std.specs.Prelude.{◌≡◌, ℕ, ◌-◌, ◌*◌, ◌≤◌, List, get_or, T, Float, Option, Some, None}
use Rattle.std.specs.Float.{nan, binary64}
use Rattle.std.specs.Float.Ieee.{fits}
use Rattle.std.proofs.Math.Option.{Option as Maybe, none, some}
use Rattle.sheet.specs.declared.Terms.{Terms}
use Rattle.sheet.specs.Sheet.{Sheet}
use Rattle.tree.specs.declared.Answer.{Answer}
use Rattle.tree.specs.declared.Answer.TheVariants.{Kept, Found}
use Rattle.tree.specs.declared.Tree.{Tree}
use Rattle.column_turns.specs.declared.interval_steps.Standing.{Standing}
use Rattle.column_turns.specs.Lent.{RestKept}
use Rattle.column_turns.specs.Promise.{most_tries}
use Rattle.column_turns.specs.Try.{tree_at}
use Rattle.depth2.specs.Search.{Progress, search_columns, searched}

-- what is listed are doubles, as in every slice of f64
abbrev pub AllDouble : List Float → Type 0
AllDouble values = (i : ℕ) → T (fits binary64 (get_or values i nan))

-- the code's state for the definition's
unfoldable pub held_of : Sheet → ℕ → Maybe (ℕ × ℕ) → ℕ → Option Tree
held_of s support none error = None
held_of s support (some cut) error = Some (tree_at s support cut.0 cut.1 error)

unfoldable pub standing_of : Sheet → ℕ → Progress → Standing
standing_of s support p = record { error = p.error; tried = p.tried; held = held_of s support p.best p.error }

-- before the first column
abbrev pub none_tried : ℕ → Standing
none_tried error = record { error = error; tried = 0; held = None }

-- what is answered
unfoldable pub answer_held : ℕ → ℕ → Option Tree → Answer
answer_held error tried None = Kept error tried
answer_held error tried (Some tree) = Found tree tried

-- before column c, the standing is that of a progress from which the definition's columns come to its end
pub record BetweenColumns (s : Sheet) (t : Terms) (c : ℕ) (standing : Standing) : Type 0 where
  pub progress : Progress
  pub standing_is : standing ≡ standing_of s t.support progress
  pub comes : search_columns s t (s.columns - c) c progress ≡ searched s t
  pub few : standing.tried ≤ c * most_tries

-- what the search of the columns leaves: the standing of the definition's end, and every lent word that is not the search's
pub record ColumnsSearched (s : Sheet) (t : Terms) (was : List ℕ) (answer : Standing) (scratch : List ℕ) : Type 0 where
  pub standing_is : answer ≡ standing_of s t.support (searched s t)
  pub kept : RestKept s.rows was scratch
