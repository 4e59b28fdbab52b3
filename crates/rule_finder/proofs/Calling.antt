-- What a call hands on: the search of what the preparer wrote is that of the prepared sheet. Assumes nothing.
use mathlib.Core.Path.{◌≡◌, sym, ap, ◌∙◌}
use Prim.Native.Nat.{ℕ}
use mathlib.Core.List.{List}
use lib.ListN.{length}
use Rattle.std.specs.Prelude.{Ok}
use Rattle.sheet.specs.declared.Terms.{Terms}
use Rattle.sheet.specs.declared.lent.Measured.{Measured}
use Rattle.sheet.specs.Check.{Verdict, sheet_of}
use Rattle.depth2.specs.Search.{search_of}
use Rattle.prepare.specs.Prepared.{order_list, cut_list, count_list, prepare_of, leaves, PreparedOf}
use Rattle.rule_finder.specs.Run.{prepared_in}

-- a preparer that does not turn back leaves its lists
left : (answer : Verdict) (written before after : List ℕ) → answer ≡ Ok tt → after ≡ leaves answer written before → after ≡ written
left answer written before after d e = e ∙ ap (λ (x : Verdict). leaves x written before) d

pub search_prepared : (m : Measured) (terms : Terms) (order cuts counts : List ℕ) (answer : Verdict) (order' cuts' counts' : List ℕ) (words : ℕ)
    → Ok tt ≡ prepare_of m.size.rows m.size.columns m.values.now (length order) (length cuts) (length counts)
    → PreparedOf m.size.rows m.size.columns m.values.now order cuts counts answer order' cuts' counts'
    → search_of (sheet_of m.size m.values.now m.codes.now order' cuts' counts') terms words ≡ search_of (prepared_in m) terms words
search_prepared m terms order cuts counts answer order' cuts' counts' words done p =
    let rows = m.size.rows in
    let columns = m.size.columns in
    let values = m.values.now in
    let d : answer ≡ Ok tt = p.answers ∙ sym done in
    let o : order' ≡ order_list rows columns values = left answer _ order order' d p.orders in
    let k : cuts' ≡ cut_list rows columns values = left answer _ cuts cuts' d p.places in
    let n : counts' ≡ count_list rows columns values = left answer _ counts counts' d p.numbers in
    cc
