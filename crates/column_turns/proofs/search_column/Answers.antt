-- `column_turns::search_column` meets its contract. The three parts are of their lengths, and the rest stays.
use mathlib.Core.Path.{◌≡◌, sym, ap, ◌∙◌, subst}
use native.Mathlib.Omega.{arith}
use mathlib.Core.List.{List, ◌++◌}
use Prim.Native.Nat.{ℕ}
use Rattle.column_turns.specs.Lent.{RestKept}
use Rattle.column_turns.proofs.Lent.{parts_kept}
use Rattle.column_turns.proofs.search_column.Goals as goal

pub search_in-requires : goal.search_in-requires
search_in-requires c =
    let start = c in
    let pre = start.requires in
    let x = c.split_at_mut-table.ensures in
    let y = c.split_at_mut-ring.ensures in
    let z = c.split_at_mut-marks.ensures in
    record {
      whole = pre.whole;
      here = pre.here;
      few = pre.few;
      table_size = omega (arith, x.front_len, pre.enough.words);
      ring_size = omega (arith, y.front_len, x.back_len, pre.enough.words);
      marks_size = omega (arith, z.front_len, y.back_len, x.back_len, pre.enough.words);
    }

pub returns : goal.returns
returns c =
    let start = c in
    let a = start.args in
    let pre = start.requires in
    let x = c.split_at_mut-table.ensures in
    let y = c.split_at_mut-ring.ensures in
    let z = c.split_at_mut-marks.ensures in
    let done = c.search_in.ensures in
    let rows : ℕ = a.sheet.now.measured.size.rows in
    let rest : List ℕ = c.split_at_mut-marks.result.1.now in
    let t : List ℕ = c.split_at_mut-table.result.0.now in
    let r : List ℕ = c.split_at_mut-ring.result.0.now in
    let whole : a.scratch.now ≡ t ++ (r ++ (c.split_at_mut-marks.result.0.now ++ rest)) =
    x.value ∙ ap (λ (l : List ℕ). t ++ l) (y.value ∙ ap (λ (l : List ℕ). r ++ l) z.value) in
    let after : List ℕ = c.search_in.new.table ++ (c.search_in.new.ring ++ (c.search_in.new.marks ++ rest)) in
    record {
      standing_is = done.standing_is;
      kept =
          subst (λ (l : List ℕ). RestKept rows l after) (sym whole)
          (parts_kept rows t r c.split_at_mut-marks.result.0.now c.search_in.new.table c.search_in.new.ring c.search_in.new.marks rest
          (omega (arith, x.front_len, pre.enough.words))
          (omega (arith, y.front_len, x.back_len, pre.enough.words))
          (omega (arith, z.front_len, y.back_len, x.back_len, pre.enough.words))
          done.table_size done.ring_size done.marks_size);
    }
