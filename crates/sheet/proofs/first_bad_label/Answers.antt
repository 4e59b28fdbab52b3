-- `sheet::first_bad_label` meets its contract.
use mathlib.Core.Path.{◌∙◌}
use Rattle.std.proofs.Common.{rules, tests}
use Rattle.std.proofs.lemmas.Iterator.{YieldsList-from_slice}
use Rattle.std.proofs.lemmas.Iterator.Search.{position_from_yields_List}
use Rattle.std.specs.Prelude.{ℕ, leb}
use Rattle.sheet.specs.Check.{bad_label}
use Rattle.sheet.proofs.Search.{position_place}
use Rattle.sheet.proofs.first_bad_label.Goals as goal

pub returns : goal.returns
unfolding bad_label
returns c =
    position_from_yields_List (λ (code : ℕ). leb c.args.labels code) _ _ c.position.result c.position.ensures.ran
    (YieldsList-from_slice _ c.iter.ensures.rest) (λ x b q k. search (rules, tests))
    ∙ position_place (λ (code : ℕ). leb c.args.labels code) c.args.codes.now 0
