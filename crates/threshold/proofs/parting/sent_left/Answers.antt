-- `threshold::parting::sent_left` meets its contract: the library's count is the definition's.
use Rattle.std.proofs.Common.{◌≡◌, ◌∙◌, sym, rules, count_by}
use Rattle.basics.proofs.Lists.{tally_count}
use Rattle.threshold.specs.Threshold.{goes_left}
use Rattle.threshold.specs.Column.{count_left}
use Rattle.threshold.proofs.parting.sent_left.Goals as goal

pub returns : goal.returns
unfolding count_left
returns c =
    let a = c.args in
    let h : c.count.result ≡ count_by (λ v. goes_left v a.threshold) a.values.now = search rules in
    h ∙ sym (tally_count _ a.values.now)
