-- `certificate::certified_search` meets its contract: the search's own equations, and the three sentences of whatever fits them.
use lib.ListN.{length}
use Rattle.sheet.specs.Lent.{sheet_in}
use Rattle.certificate.proofs.Sentences.{certified}
use Rattle.certificate.proofs.certified_search.Goals as goal

pub returns : goal.returns
returns c =
    let e = c.search.ensures in
    record {
      searched = e;
      certified = certified (sheet_in c.args.sheet.now) c.args.terms (length c.args.scratch.now) c.are_doubles.ensures c.search.result e.answers;
    }
