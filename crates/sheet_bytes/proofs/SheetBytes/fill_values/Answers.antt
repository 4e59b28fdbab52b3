use mathlib.Core.Path.{sym, ap, ◌∙◌, subst}
use Prim.Native.Nat.{ℕ, ◌+◌}
use native.Mathlib.Omega.{arith}
use lib.ListN.{drop, set, length-set}
use mathlib.Core.Bool.{not}
use lib.Dec.{T}
use lib.Seq.{sets}
use lib.Ieee.{Float, nan, binary64, of_bits, nan_bits}
use Rattle.basics.specs.Lists.{table}
use Rattle.sheet_bytes.specs.Read.{head_cells, bits_of, value_read, values_of}
use Rattle.sheet_bytes.proofs.Numbers.{within_number}
use Rattle.sheet_bytes.proofs.Stores.{next, none_left}
use Rattle.sheet_bytes.proofs.SheetBytes.fill_values.Goals as goal

pub float_from_bits-values : goal.float_from_bits-values
unfolding value_read
float_from_bits-values c =
    let a = c.args in
    let i = c.loop-index.index in
    subst (λ (b : ℕ). T (not (nan_bits binary64 b))) (sym c.bits_at.ensures)
    (within_number (bits_of a.self.now.bytes.now a.self.now.head i) (c.requires.1 i (omega arith)))

pub loop-index-preserved : goal.loop-index-preserved
unfolding values_of value_read
loop-index-preserved c =
    let a = c.args in
    let l = c.loop-index in
    let i = l.index in
    let f : ℕ → Float = value_read a.self.now.bytes.now a.self.now.head in (
      simp length-set l.invariant.0,
      ap (λ (b : ℕ). sets (set l.values i (of_bits binary64 b)) (i + 1) (drop (i + 1) (table f (head_cells a.self.now.head)))) c.bits_at.ensures
          ∙ sym (next f (head_cells a.self.now.head) l.values i nan (omega arith))
          ∙ l.invariant.1,
    )

pub returns : goal.returns
unfolding values_of
returns c =
    let a = c.args in
    let l = c.loop-index in
    sym (none_left (value_read a.self.now.bytes.now a.self.now.head) (head_cells a.self.now.head) l.values l.index (omega arith) (omega arith)) ∙ l.invariant.1
