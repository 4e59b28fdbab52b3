-- `depth2::search` meets its contract. What the check accepts can be searched; what the search leaves in the lent words is cleared.
use mathlib.Core.Path.{sym, ap, ◌∙◌}
use Prim.Native.Nat.{ℕ}
use native.Mathlib.Omega.{arith}
use mathlib.Core.List.{List}
use lib.ListN.{length}
use Rattle.sheet.specs.Sheet.{Sheet}
use Rattle.sheet.specs.Check.{Verdict, scratch_after}
use Rattle.sheet.specs.Lent.{sheet_in}
use Rattle.column_turns.proofs.Accepted.{cleared_again}
use Rattle.depth2.proofs.Answer.{found_answer, searchable, refused}
use Rattle.depth2.proofs.search.Goals as goal

pub returns-in-Err : goal.returns-in-Err
returns-in-Err c =
    let s : Sheet = sheet_in c.args.sheet.now in
    let xs : List ℕ = c.args.scratch.now in
    record {
      answers = c.from.ensures ∙ refused s c.args.terms (length xs) _ (sym c.check.ensures.answers ∙ c.in-Err.is);
      words = c.check.ensures.words ∙ ap (λ (z : Verdict). scratch_after z s.rows xs) c.check.ensures.answers;
    }

pub search_columns-standing-requires : goal.search_columns-standing-requires
search_columns-standing-requires c =
    searchable (sheet_in c.args.sheet.now) c.args.terms c.args.scratch.now c.check.result c.check.ensures.answers c.in_default.is c.are_doubles.ensures
    c.check.new.scratch c.check.ensures.words

pub overflow_mul-sheet : goal.overflow_mul-sheet
overflow_mul-sheet c =
    let able =
    searchable (sheet_in c.args.sheet.now) c.args.terms c.args.scratch.now c.check.result c.check.ensures.answers c.in_default.is c.are_doubles.ensures
    c.check.new.scratch c.check.ensures.words in
    omega (arith, able.1.few)

pub clear-requires : goal.clear-requires
clear-requires c =
    let able =
    searchable (sheet_in c.args.sheet.now) c.args.terms c.args.scratch.now c.check.result c.check.ensures.answers c.in_default.is c.are_doubles.ensures
    c.check.new.scratch c.check.ensures.words in
    omega (arith, able.1.words, c.search_columns-standing.ensures.kept.size)

pub returns : goal.returns
returns c =
    let s : Sheet = sheet_in c.args.sheet.now in
    let xs : List ℕ = c.args.scratch.now in
    let check = c.check in
    let searching = c.search_columns-standing in
    record {
      answers =
          c.answer_of.ensures
          ∙ found_answer s c.args.terms xs check.result check.ensures.answers c.in_default.is searching.result searching.ensures.standing_is;
      words =
          c.clear.ensures
          ∙ cleared_again s c.args.terms xs check.new.scratch check.result check.ensures.answers c.in_default.is check.ensures.words
          searching.new.scratch searching.ensures.kept;
    }
