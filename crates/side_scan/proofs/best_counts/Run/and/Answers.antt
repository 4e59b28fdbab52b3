-- `side_scan::best_counts::Run::and` meets its contract: it compares the scores as they are, since both fit.
use Rattle.std.proofs.Common.{arith}
use Rattle.std.proofs.lemmas.Int.{ints, to_z-of_z}
use Rattle.basics.specs.Choice.{pick}
use Rattle.side_scan.proofs.best_counts.Run.and.Goals as goal

pub returns-then-score-self : goal.returns-then-score-self
unfolding pick
returns-then-score-self c = grind (arith, ints, to_z-of_z)

pub returns-else-score-self : goal.returns-else-score-self
unfolding pick
returns-else-score-self c = grind (arith, ints, to_z-of_z)
