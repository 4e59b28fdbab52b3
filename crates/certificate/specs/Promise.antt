-- For a signer. What a call of the certified search promises: all that the search does, and the three sentences of its answer.
use Rattle.std.specs.Prelude.{ℕ, List, length}
use Rattle.sheet.specs.declared.Terms.{Terms}
use Rattle.sheet.specs.Sheet.{Sheet}
use Rattle.tree.specs.declared.Answer.{Answer}
use Rattle.depth2.specs.Promise.{SearchedOf}
use Rattle.certificate.specs.Certificate.{Certified}

pub record SignedOf (s : Sheet) (t : Terms) (scratch : List ℕ) (answer : Answer) (scratch' : List ℕ) : Type 0 where
  pub searched : SearchedOf s t scratch answer scratch'
  pub certified : Certified s t (length scratch) answer
