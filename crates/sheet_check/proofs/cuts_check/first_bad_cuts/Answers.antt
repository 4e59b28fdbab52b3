use mathlib.Core.Path.{◌≡◌, sym, ap, ◌∙◌, subst}
use Prim.Native.Nat.{ℕ}
use mathlib.Core.Bool.{not}
use native.Mathlib.Omega.{arith}
use Rattle.sheet.specs.Check.{bad_cuts}
use Rattle.sheet.specs.Lent.{sheet_in}
use Rattle.sheet.proofs.Search.{Clean, clean_none, clean_more, clean_found, clean_missed, truth, untruth}
use Rattle.sheet_check.proofs.cuts_check.first_bad_cuts.Goals as goal

pub loop-column-init : goal.loop-column-init
loop-column-init c = clean_none

pub cuts_match-requires : goal.cuts_match-requires
cuts_match-requires c = c.requires.column c.loop-column.column c.loop-column-test.true

pub returns-then-not-cuts_match : goal.returns-then-not-cuts_match
unfolding bad_cuts
returns-then-not-cuts_match c =
    clean_found c.loop-column.invariant c.loop-column-test.true (truth (ap not (sym c.cuts_match.ensures ∙ c.if-not-cuts_match.true)))

pub loop-column-preserved : goal.loop-column-preserved
unfolding bad_cuts
loop-column-preserved c = clean_more c.loop-column.invariant (untruth (ap not (sym c.cuts_match.ensures ∙ c.if-not-cuts_match.false)))

pub returns : goal.returns
returns c =
    let bad = bad_cuts (sheet_in c.args.sheet.now) in
    let all : c.loop-column.column ≡ c.args.sheet.now.measured.size.columns = omega (arith, c.loop-column-test.false, c.loop-column.auto.column-end) in
    clean_missed (subst (λ (n : ℕ). Clean bad n) all c.loop-column.invariant)
