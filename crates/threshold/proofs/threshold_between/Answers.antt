-- `threshold::threshold_between` meets its contract. Each arm returns what `cond` picks where the test is as the arm found it.
use mathlib.Core.Path.{sym, ap}
use mathlib.Core.Bool.{Bool, cond}
use lib.Ieee.{of_bits}
use Rattle.threshold.specs.Threshold.{midpoint_of, threshold_of}
use Rattle.threshold.proofs.threshold_between.Goals as goal

pub returns-then-midpoint-upper : goal.returns-then-midpoint-upper
unfolding threshold_of of_bits
returns-then-midpoint-upper c =
    let a = c.args in
    sym (ap (λ (t : Bool). cond t (midpoint_of a.lower a.upper) a.lower) c.if-midpoint-upper.true)

pub returns-else-midpoint-upper : goal.returns-else-midpoint-upper
unfolding threshold_of of_bits
returns-else-midpoint-upper c =
    let a = c.args in
    sym (ap (λ (t : Bool). cond t (midpoint_of a.lower a.upper) a.lower) c.if-midpoint-upper.false)
