-- For a signer. What a call of the input check promises: its answer, and every lent word as it ends.
use Rattle.std.specs.Prelude.{◌≡◌, ℕ, List, length}
use Rattle.sheet.specs.declared.Terms.{Terms}
use Rattle.sheet.specs.Sheet.{Sheet}
use Rattle.sheet.specs.Check.{Verdict, check_of, scratch_after}

pub record CheckedOf (s : Sheet) (t : Terms) (scratch : List ℕ) (answer : Verdict) (scratch' : List ℕ) : Type 0 where
  pub answers : answer ≡ check_of s t (length scratch)
  pub words : scratch' ≡ scratch_after answer s.rows scratch
