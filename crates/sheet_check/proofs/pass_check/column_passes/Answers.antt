use mathlib.Core.Path.{◌≡◌, refl, sym, ap, ◌∙◌, subst}
use Prim.Native.Nat.{ℕ, ◌+◌, ◌*◌, ◌-◌, ◌≤◌}
use mathlib.Core.Bool.{false}
use native.Mathlib.Omega.{arith}
use native.Mathlib.Nat.{add-zero}
use borrow.Author.Tests.{not-false}
use lib.ListN.{length, get_or}
use lib.Dec.{T, eqb→eq}
use lib.Ieee.{Float, nan, binary64, fits, eq, ne}
use Rattle.sheet.specs.Laws.{Doubles}
use Rattle.sheet.specs.Sheet.{Sheet, row_at, value_of, value_at}
use Rattle.sheet.specs.Lent.{sheet_in}
use Rattle.sheet.proofs.Search.{truth}
use Rattle.sheet_check.proofs.Seen.{equal_back, seen_first, seen_rise, seen_level, seen_all}
use Rattle.sheet_check.proofs.Named.{as_row, as_value_of, as_place, as_count}
use Rattle.sheet_check.proofs.pass_check.column_passes.Goals as goal
use Rattle.sheet_check.proofs.pass_check.column_passes.Goals.{then-last-value+else-from-place, else-last-value+else-value-last}

-- ---- what was read, as the definitions name it

row_first : (s : Sheet) (c row : ℕ) → row ≡ get_or s.order (c * s.rows) 0 → row ≡ row_at s c 0
unfolding row_at
row_first s c row e = e ∙ ap (λ (n : ℕ). get_or s.order n 0) (sym (add-zero (c * s.rows)))

last_double : (s : Sheet) → Doubles s → (c i : ℕ) (v : Float) → v ≡ value_at s c (i - 1) → T (fits binary64 v)
unfolding value_at value_of
last_double s doubles c i v e = subst (λ x. T (fits binary64 x)) (sym e) (doubles (c * s.rows + row_at s c (i - 1)))

equal : (x y : Float) → ne x y ≡ false → T (eq x y)
unfolding ne
equal x y e = truth (not-false (eq x y) e)

-- ---- the goals

pub loop-place-init : goal.loop-place-init
loop-place-init c =
    let s : Sheet = sheet_in c.args.sheet.now in
    let column : ℕ = c.args.column in
    let e : c.from-first.result ≡ row_at s column 0 = row_first s column _ c.from-first.ensures in
    record {
      size = refl;
      doubles = c.type_inv.values;
      seen =
          seen_first (λ r. omega (arith, c.requires.lower_marks r)) e (c.take_row.ensures.taken (truth c.if-not-take_row.false)) c.requires.room
          (as_value_of s column 0 c.from-first.result e);
    }

pub loop-place-preserved : goal.loop-place-preserved
loop-place-preserved c =
    let s : Sheet = sheet_in c.args.sheet.now in
    let column : ℕ = c.args.column in
    let i : ℕ = c.loop-place.place in
    let inv = c.loop-place.invariant in
    let m = inv.seen in
    let e : c.from-row.result ≡ row_at s column i = as_row s column i _ c.from-row.ensures in
    let t = c.take_row-in-loop-place.ensures.taken (truth c.if-not-take_row-2.false) in
    let value : Float = get_or s.values (column * s.rows + c.from-row.result) nan in
    let double : T (fits binary64 value) = inv.doubles _ in
    let before : T (fits binary64 c.loop-place.last) = last_double s inv.doubles column i c.loop-place.last m.at in
    let q = as_value_of s column i c.from-row.result e in
    let l : s.rows ≤ length c.loop-place.marks = omega (arith, c.requires.room, inv.size) in
    record {
      size = omega (arith, inv.size);
      doubles = inv.doubles;
      seen =
          elim c.if-last-value.branch [
            | then-last-value+else-from-place w ↦ seen_rise m e t l q w.if-last-value.true
                (sym (as_place s column c.loop-place.found) ∙ sym w.from.ensures ∙ w.if-from-place.false) w.found-is
            | else-last-value+else-value-last w ↦ seen_level m e t l q w.if-last-value.false
                (equal_back value c.loop-place.last double before (equal value c.loop-place.last w.if-value-last.false)) w.found-is
          ];
    }

pub returns : goal.returns
returns c t =
    let s : Sheet = sheet_in c.args.sheet.now in
    let m = c.loop-place.invariant.seen in (
      seen_all m c.loop-place.invariant.doubles (omega (arith, c.requires.shaped.limited.rows_some, c.loop-place.auto.place-end, c.loop-place-test.false))
          (eqb→eq c.loop-place.found c.from-2.result t ∙ c.from-2.ensures ∙ as_count s c.args.column),
      m.met.most,
    )
