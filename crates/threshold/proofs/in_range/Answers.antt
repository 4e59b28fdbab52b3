-- `threshold::in_range` meets its contract: `&&` is its second test where the first passes, and the first where it fails.
use mathlib.Core.Path.{sym, ap, ◌∙◌}
use mathlib.Core.Bool.{Bool, ◌&&◌}
use lib.Ieee.{le, of_bits}
use Rattle.threshold.specs.Threshold.{within, largest_value}
use Rattle.threshold.proofs.in_range.Goals as goal

pub returns-then-value : goal.returns-then-value
unfolding within of_bits
returns-then-value c = sym (ap (λ (t : Bool). t && le c.args.value largest_value) c.if-value.true)

pub returns-else-value : goal.returns-else-value
unfolding within of_bits
returns-else-value c = c.if-value.false ∙ sym (ap (λ (t : Bool). t && le c.args.value largest_value) c.if-value.false)
