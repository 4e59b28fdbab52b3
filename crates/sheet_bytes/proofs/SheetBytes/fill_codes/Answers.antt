use mathlib.Core.Path.{sym, ap, ◌∙◌}
use Prim.Native.Nat.{ℕ, ◌+◌}
use native.Mathlib.Omega.{arith}
use lib.ListN.{drop, set, length-set}
use lib.Seq.{sets}
use Rattle.basics.specs.Lists.{table}
use Rattle.sheet_bytes.specs.Read.{code_of, codes_of}
use Rattle.sheet_bytes.proofs.Stores.{next, none_left}
use Rattle.sheet_bytes.proofs.SheetBytes.fill_codes.Goals as goal

pub loop-row-preserved : goal.loop-row-preserved
unfolding codes_of
loop-row-preserved c =
    let a = c.args in
    let l = c.loop-row in
    let f : ℕ → ℕ = code_of a.self.now.bytes.now a.self.now.head in (
      simp length-set l.invariant.0,
      ap (λ (b : ℕ). sets (set l.codes l.row b) (l.row + 1) (drop (l.row + 1) (table f a.self.now.head.size.rows))) c.code_at.ensures
          ∙ sym (next f a.self.now.head.size.rows l.codes l.row 0 (omega arith))
          ∙ l.invariant.1,
    )

pub returns : goal.returns
unfolding codes_of
returns c =
    let a = c.args in
    let l = c.loop-row in
    sym (none_left (code_of a.self.now.bytes.now a.self.now.head) a.self.now.head.size.rows l.codes l.row (omega arith) (omega arith)) ∙ l.invariant.1
