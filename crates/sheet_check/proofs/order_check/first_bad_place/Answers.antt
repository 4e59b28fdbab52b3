use mathlib.Core.Path.{◌≡◌, sym, subst}
use mathlib.Core.Logic.{⊎_elim}
use Prim.Native.Nat.{ℕ, ◌+◌, ◌≤◌}
use mathlib.Core.List.{List}
use native.Mathlib.Omega.{arith}
use lib.Dec.{T}
use lib.ListN.{length, get_or}
use Rattle.sheet.specs.Sheet.{Sheet, row_at}
use Rattle.sheet.specs.Check.{bad_order}
use Rattle.sheet.specs.Lent.{sheet_in}
use Rattle.sheet.proofs.Search.{Clean, clean_found, clean_missed, truth, untruth}
use Rattle.sheet_check.proofs.Marks.{bad_high, bad_met}
use Rattle.sheet_check.proofs.Named.{as_row}
use Rattle.sheet_check.proofs.Seen.{met_more, order_more}
use Rattle.sheet_check.proofs.order_check.first_bad_place.Goals as goal

pub returns-then-not-take_row-clause-place : goal.returns-then-not-take_row-clause-place
returns-then-not-take_row-clause-place c =
    let s : Sheet = sheet_in c.args.sheet.now in
    let column : ℕ = c.args.column in
    let i : ℕ = c.loop-place.place in
    let m = c.loop-place.invariant.met in
    let e : c.from-row.result ≡ row_at s column i = as_row s column i _ c.from-row.ensures in
    let left = c.take_row.ensures.left (untruth c.if-not-take_row.true) in
    let bad : T (bad_order s column i) = ⊎_elim (λ h. bad_high s column i _ _ m _ e h) (λ h. bad_met s column i _ _ m _ e h) left.why in
    clean_found c.loop-place.invariant.clean c.loop-place-test.true bad

pub returns-then-not-take_row-clause-marked : goal.returns-then-not-take_row-clause-marked
returns-then-not-take_row-clause-marked c r =
    let left = c.take_row.ensures.left (untruth c.if-not-take_row.true) in
    subst (λ (marks : List ℕ). get_or marks r 0 ≤ c.args.column + 1) (sym left.same) (c.loop-place.invariant.met.most r)

pub loop-place-preserved : goal.loop-place-preserved
loop-place-preserved c =
    let s : Sheet = sheet_in c.args.sheet.now in
    let inv = c.loop-place.invariant in
    let e : c.from-row.result ≡ row_at s c.args.column c.loop-place.place = as_row s c.args.column c.loop-place.place _ c.from-row.ensures in
    let taken = c.take_row.ensures.taken (truth c.if-not-take_row.false) in
    let room : s.rows ≤ length c.loop-place.marks = omega (arith, c.requires.room, inv.size) in
    record {
      size = omega (arith, inv.size);
      clean = order_more inv.met e taken room inv.clean;
      met = met_more inv.met e taken room;
    }

pub returns-clause-place : goal.returns-clause-place
returns-clause-place c =
    let all : c.loop-place.place ≡ c.args.sheet.now.measured.size.rows = omega (arith, c.loop-place-test.false, c.loop-place.auto.place-end) in
    clean_missed (subst (λ (n : ℕ). Clean (bad_order (sheet_in c.args.sheet.now) c.args.column) n) all c.loop-place.invariant.clean)
