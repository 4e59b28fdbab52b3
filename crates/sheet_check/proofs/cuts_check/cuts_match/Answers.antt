use mathlib.Core.Path.{◌≡◌, sym, ap, ap₂, ◌∙◌, subst}
use Prim.Native.Nat.{ℕ, ◌+◌, ◌*◌, ◌-◌}
use mathlib.Core.Bool.{◌&&◌}
use native.Mathlib.Omega.{arith}
use lib.ListN.{get_or}
use lib.Dec.{ltb, eqb, eqb→eq}
use Rattle.basics.proofs.Choice.{and_right}
use Rattle.sheet.specs.Sheet.{Sheet, value_at, place_of, count_of, places_of}
use Rattle.sheet.specs.Check.{cuts_of, same}
use Rattle.sheet.specs.Lent.{sheet_in}
use Rattle.sheet.proofs.Search.{truth, untruth, falsity}
use Rattle.sheet.proofs.Values.{value_ready, as_value, cut_yes, cut_no}
use Rattle.sheet_check.proofs.Matched.{Matched, matched_none, matched_skip, matched_take, mismatch, matched_end}
use Rattle.sheet_check.proofs.Named.{as_place, as_count}
use Rattle.sheet_check.proofs.cuts_check.cuts_match.Goals as goal
use Rattle.sheet_check.proofs.cuts_check.cuts_match.Goals.{then-value_at+else-not-is_listed, else-value_at}

-- whether a cut is listed, as the definitions say it
as_listed : (s : Sheet) (c count found i : ℕ) → count ≡ count_of s c
    → (ltb found count && eqb (get_or s.cuts (c * s.rows + found) 0) i) ≡ (ltb found (count_of s c) && eqb (place_of s c found) i)
as_listed s c count found i e = ap₂ (λ (n p : ℕ). ltb found n && eqb p i) e (as_place s c found)

pub loop-place-init : goal.loop-place-init
loop-place-init c = matched_none (sheet_in c.args.sheet.now) c.args.column

pub value_at-requires : goal.value_at-requires
value_at-requires c = value_ready c.requires (c.loop-place.place - 1) (omega arith)

pub value_at-requires-in-loop-place : goal.value_at-requires-in-loop-place
value_at-requires-in-loop-place c = value_ready c.requires c.loop-place.place (omega arith)

pub returns-then-not-is_listed : goal.returns-then-not-is_listed
returns-then-not-is_listed c =
    let s : Sheet = sheet_in c.args.sheet.now in
    let column : ℕ = c.args.column in
    let i : ℕ = c.loop-place.place in
    let m = c.loop-place.invariant in
    let count : c.from-count.result ≡ count_of s column = c.from-count.ensures ∙ as_count s column in
    sym
    (falsity (same (places_of s column) (cuts_of s column))
    (mismatch s column c.loop-place.found i m (omega (arith, c.loop-place-test.true))
    (cut_yes s column i _ _ (c.value_at-in-loop-place.ensures ∙ as_value s column i) (c.value_at.ensures ∙ as_value s column (i - 1))
    (omega (arith, m.few)) c.if-value_at.true)
    (untruth (sym (as_listed s column _ c.loop-place.found i count) ∙ sym c.is_listed.ensures ∙ c.if-not-is_listed.true))))

pub loop-place-preserved : goal.loop-place-preserved
loop-place-preserved c =
    let s : Sheet = sheet_in c.args.sheet.now in
    let column : ℕ = c.args.column in
    let i : ℕ = c.loop-place.place in
    let found : ℕ = c.loop-place.found in
    let m = c.loop-place.invariant in
    let count : c.from-count.result ≡ count_of s column = c.from-count.ensures ∙ as_count s column in
    let here : c.value_at-in-loop-place.result ≡ value_at s column i = c.value_at-in-loop-place.ensures ∙ as_value s column i in
    let before : c.value_at.result ≡ value_at s column (i - 1) = c.value_at.ensures ∙ as_value s column (i - 1) in
    elim c.if-value_at.branch [
      | then-value_at+else-not-is_listed w ↦ subst (λ n. Matched s column n (i + 1)) (sym w.found-is)
          (matched_take s column found i m (cut_yes s column i _ _ here before (omega (arith, m.few)) w.if-value_at.true)
          (eqb→eq (place_of s column found) i
          (and_right (ltb found (count_of s column)) (eqb (place_of s column found) i)
          (truth (sym (as_listed s column _ found i count) ∙ sym w.is_listed.ensures ∙ w.if-not-is_listed.false)))))
      | else-value_at w ↦ subst (λ n. Matched s column n (i + 1)) (sym w.found-is)
          (matched_skip s column found i m (cut_no s column i _ _ here before w.if-value_at.false))
    ]

pub returns : goal.returns
returns c =
    let s : Sheet = sheet_in c.args.sheet.now in
    ap (λ (n : ℕ). eqb c.loop-place.found n) (c.from-count.ensures ∙ as_count s c.args.column)
    ∙ matched_end s c.args.column c.loop-place.found c.loop-place.place c.loop-place.invariant
    (omega (arith, c.loop-place-test.false, c.loop-place.auto.place-end))
