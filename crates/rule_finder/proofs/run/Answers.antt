-- `rule_finder::run` meets its contract: what is written is the answer's listing.
use mathlib.Core.Path.{subst}
use Rattle.tree.specs.declared.Answer.{Answer}
use Rattle.listing.specs.Listing.{ListedIn}
use Rattle.rule_finder.proofs.run.Goals as goal

pub returns : goal.returns
returns c =
    let w = c.write_answer in
    subst (λ (x : Answer). ListedIn x c.args.out.now w.result w.new.out) c.answer_to-answer.ensures w.ensures
