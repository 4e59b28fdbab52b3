-- What is known once a reason is ruled out. Assumes nothing.
use mathlib.Core.Path.{◌≡◌, sym, ◌∙◌}
use Prim.Native.Nat.{ℕ, ◌≤◌}
use native.Mathlib.Omega.{arith}
use mathlib.Core.Bool.{Bool, true}
use lib.ListN.{length}
use lib.Dec.{T, leb, eqb, eqb→eq, nleb→lt}
use Rattle.std.specs.Prelude.{Option, None}
use Rattle.basics.specs.Walk.{walk, place_among}
use Rattle.basics.proofs.Choice.{and_left, and_right}
use Rattle.basics.proofs.Walk.{place_none}
use Rattle.sheet.specs.declared.lent.Measured.{Measured}
use Rattle.sheet.specs.Limits.{most_rows, most_columns}
use Rattle.sheet.specs.Sheet.{Sheet}
use Rattle.sheet.specs.Sound.{Limited}
use Rattle.sheet.specs.Lent.{measured_in}
use Rattle.sheet.specs.Check.{cells_of, size_holds}
use Rattle.sheet.proofs.Answer.{limited}
use Rattle.sheet.proofs.Search.{truth, clean_walk}
use Rattle.tree.specs.declared.Tree.{Tree}
use Rattle.judge.specs.Reasons.{places}
use Rattle.judge.specs.Passing.{JudgeShaped, Asking}
use Rattle.judge.specs.Judge.{judged_holds, bad_column, bad_at, bad_columns}

-- ---- reasons 1 and 2

pub values_length : (s : Sheet) → T (judged_holds s) → length s.values ≡ cells_of s
unfolding judged_holds
values_length s t =
    eqb→eq (length s.values) (cells_of s) (and_left (eqb (length s.values) (cells_of s)) (eqb (length s.codes) s.rows) t)

pub codes_length : (s : Sheet) → T (judged_holds s) → length s.codes ≡ s.rows
unfolding judged_holds
codes_length s t =
    eqb→eq (length s.codes) s.rows (and_right (eqb (length s.values) (cells_of s)) (eqb (length s.codes) s.rows) t)

module _ (m : Measured) {b : Bool} (e : b ≡ size_holds m.size.rows m.size.columns m.size.labels) (f : b ≡ true) where
  pub small : (m.size.rows ≤ most_rows) × (m.size.columns ≤ most_columns)
  small = let h : Limited (measured_in m) = limited (measured_in m) (truth (sym e ∙ f)) in (h.rows_most, h.columns_most)

  pub shaped : {d : Bool} → d ≡ judged_holds (measured_in m) → d ≡ true → JudgeShaped m
  shaped g h =
      let l : T (judged_holds (measured_in m)) = truth (sym g ∙ h) in
      record { rows_most = small.0; values_all = values_length (measured_in m) l; codes_all = codes_length (measured_in m) l }

-- ---- reason 10: the tree asks columns of the sheet at each place

pub asking : (s : Sheet) (t : Tree) {a b : Bool} {o : Option ℕ} → a ≡ bad_column s.columns t.left → b ≡ bad_column s.columns t.right
    → o ≡ place_among places (walk (bad_at (leb s.columns t.question.column) a b) places 0) → o ≡ None → Asking s.columns t
unfolding bad_at
asking s t {a} {b} {o} e f said none =
    let same : o ≡ place_among places (walk (bad_columns s t) places 0) = cc in
    let h : places ≤ walk (bad_columns s t) places 0 = place_none places (walk (bad_columns s t) places 0) (sym same ∙ none) in
    let fair = (clean_walk (bad_columns s t) places).none in
    record { root = nleb→lt s.columns t.question.column (fair 0 (omega arith)); left = fair 1 (omega arith); right = fair 2 (omega arith) }
