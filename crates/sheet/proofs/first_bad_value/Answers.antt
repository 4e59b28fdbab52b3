-- `sheet::first_bad_value` meets its contract.
use mathlib.Core.Path.{◌∙◌}
use mathlib.Core.Bool.{not}
use lib.Ieee.{Float, nan}
use Rattle.std.proofs.Common.{rules, tests}
use Rattle.std.proofs.lemmas.Iterator.{YieldsList-from_slice}
use Rattle.std.proofs.lemmas.Iterator.Search.{position_from_yields_List}
use Rattle.threshold.specs.Threshold.{within}
use Rattle.sheet.specs.Check.{bad_value}
use Rattle.sheet.proofs.Search.{position_place}
use Rattle.sheet.proofs.first_bad_value.Goals as goal

pub returns : goal.returns
unfolding bad_value
returns c =
    position_from_yields_List (λ (value : Float). not (within value)) _ _ c.position.result c.position.ensures.ran
    (YieldsList-from_slice _ c.iter.ensures.rest) (λ x b q k. search (rules, tests))
    ∙ position_place (λ (value : Float). not (within value)) c.args.values.now nan
