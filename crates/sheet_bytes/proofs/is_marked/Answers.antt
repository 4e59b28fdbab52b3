-- Two bytes of a slice are two bytes at their places.
use mathlib.Core.Path.{◌∙◌}
use Rattle.sheet_bytes.proofs.Numbers.{two_marked}
use Rattle.sheet_bytes.proofs.is_marked.Goals as goal
use native.Mathlib.Omega.{arith}

pub returns : goal.returns
returns c =
    c.eq.ensures ∙ two_marked c.args.bytes.now c.args.mark.now c.args.at _ (omega arith) c.requires c.told-mark
