-- `prepare::column_lists::find_cuts` meets its contract. The cut list begins with the cuts among the places looked at; the rest is cleared.
use Rattle.prepare.proofs.Cutting.{Cutting}
use Rattle.prepare.proofs.column_lists.find_cuts.Given as goal

abbrev pub invariant-loop-i : goal.invariant-loop-i
invariant-loop-i l = Cutting l.values l.order l.initial.cuts l.cuts l.count l.i
