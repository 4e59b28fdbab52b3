-- `c_face::c_words::found_words` meets its contract: the rule's line comes first, and then its two sides.
use Rattle.std.proofs.Common.{rules, ◌∙◌}
use Rattle.c_face.proofs.Words.{rule_words}
use Rattle.c_face.proofs.c_words.found_words.Goals as goal

pub returns : goal.returns
returns c =
    rule_words c.args.tree c.args.tried _ _ _ (search rules)
    (c.copy_from_slice-2.ensures.after ∙ c.side_words.ensures)
    (c.copy_from_slice-3.ensures.after ∙ c.side_words-2.ensures)
