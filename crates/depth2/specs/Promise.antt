-- For a signer. What a call of the search promises: its answer, and every lent word as it ends.
use Rattle.std.specs.Prelude.{◌≡◌, ℕ, List, length}
use Rattle.sheet.specs.declared.Terms.{Terms}
use Rattle.sheet.specs.Sheet.{Sheet}
use Rattle.tree.specs.declared.Answer.{Answer}
use Rattle.depth2.specs.Search.{search_of, scratch_of}

pub record SearchedOf (s : Sheet) (t : Terms) (scratch : List ℕ) (answer : Answer) (scratch' : List ℕ) : Type 0 where
  pub answers : answer ≡ search_of s t (length scratch)
  pub words : scratch' ≡ scratch_of s t scratch
