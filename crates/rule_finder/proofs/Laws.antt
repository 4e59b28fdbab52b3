-- What is refused is what the reader refuses; every other answer carries the certificate. Assumes nothing.
use mathlib.Core.Path.{◌≡◌, refl, sym, ap, ap₂, ◌∙◌}
use Prim.Native.Nat.{ℕ, ◌≤◌}
use mathlib.Core.Option.{Option, none, some}
use mathlib.Core.List.{List, ◌++◌}
use lib.ListN.{length, take, drop}
use lib.Seq.{take-append_seam}
use lib.Dec.{leb, le→leb}
use Rattle.std.specs.Prelude.{Result, Ok, Err}
use Rattle.basics.proofs.Choice.{pick_true}
use Rattle.sheet.specs.Sheet.{Sheet}
use Rattle.sheet.specs.declared.Terms.{Terms}
use Rattle.sheet.specs.Check.{check_of}
use Rattle.sheet.specs.Reasons.{number_of, reason_of}
use Rattle.sheet.specs.declared.refusals.Refusal.{Refusal}
use Rattle.tree.specs.declared.Answer.{Answer}
use Rattle.tree.specs.declared.Answer.TheVariants.{TurnedBack}
use Rattle.tree.specs.Answer.{turned_back}
use Rattle.depth2.specs.Search.{answer_holding, answer_after, search_of, searched, Progress}
use Rattle.listing.specs.Listing.{listing_of, longest, written_of, out_of}
use Rattle.listing.proofs.Room as within
use Rattle.certificate.proofs.Sentences.{certified}
use Rattle.sheet_bytes.specs.declared.Head.{Head}
use Rattle.sheet_bytes.specs.Read.{read_of}
use Rattle.sheet_bytes.proofs.Stages as stages
use Rattle.rule_finder.specs.Run.{sheet_read, answer_to, run_of, words_lent}
use Rattle.rule_finder.specs.Laws.{NeverTurnedBack, RefusedExactly, EverySigned, WrittenWithin, TextWritten, RunsCoincide}
use Rattle.rule_finder.proofs.Reading.{doubles, accepted}

-- ---- the answer, by what the reader says

pub refused : (bytes : List ℕ) (refusal : Refusal) → read_of bytes ≡ Err refusal → run_of bytes ≡ TurnedBack (number_of refusal.reason) refusal.place
unfolding run_of answer_to
refused bytes refusal e = ap (answer_to bytes) e

pub searched_of : (bytes : List ℕ) (h : Head) → read_of bytes ≡ Ok h → run_of bytes ≡ search_of (sheet_read bytes h) h.terms words_lent
unfolding run_of answer_to
searched_of bytes h e = ap (answer_to bytes) e

-- ---- a search that the check accepts turns nothing back

no_reason : (s : Sheet) (t : Terms) (p : Progress) (best : Option (ℕ × ℕ)) → turned_back (answer_holding s t p best) ≡ none
unfolding answer_holding
no_reason s t p none = refl
no_reason s t p (some cut) = refl

not_back : (s : Sheet) (t : Terms) (words : ℕ) → check_of s t words ≡ Ok tt → turned_back (search_of s t words) ≡ none
unfolding search_of answer_after
not_back s t words e = ap (λ x. turned_back (answer_after s t x)) e ∙ no_reason s t (searched s t) (searched s t).best

pub never_turned_back : NeverTurnedBack
never_turned_back bytes h e =
    ap turned_back (searched_of bytes h e) ∙ not_back (sheet_read bytes h) h.terms words_lent (accepted bytes h (stages.accepted bytes h e))

-- ---- what is refused is what the reader refuses

told : (bytes : List ℕ) (number place : ℕ) (r : Result Head Refusal) → read_of bytes ≡ r → reason_of r ≡ some (number, place)
    → run_of bytes ≡ TurnedBack number place
told bytes number place (Ok h) e f = absurd cc
told bytes number place (Err refusal) e f =
    let q : ◌≡◌ {A = ℕ × ℕ} (number_of refusal.reason, refusal.place) (number, place) = cc in
    refused bytes refusal e ∙ ap (λ (k : ℕ × ℕ). TurnedBack k.0 k.1) q

only : (bytes : List ℕ) (number place : ℕ) (r : Result Head Refusal) → read_of bytes ≡ r → run_of bytes ≡ TurnedBack number place
    → reason_of r ≡ some (number, place)
only bytes number place (Err refusal) e f =
    let same : TurnedBack (number_of refusal.reason) refusal.place ≡ TurnedBack number place = sym (refused bytes refusal e) ∙ f in cc
only bytes number place (Ok h) e f = absurd (never (ap turned_back (sym f) ∙ never_turned_back bytes h e))
  where
    never : ◌≡◌ {A = Option (ℕ × ℕ)} (some (number, place)) none → ⊥
    never g = cc

pub refused_exactly : RefusedExactly
refused_exactly bytes number place =
    record { told = told bytes number place (read_of bytes) refl; only = only bytes number place (read_of bytes) refl }

-- ---- the certificate

pub every_signed : EverySigned
every_signed bytes h e =
    let a = stages.accepted bytes h e in
    record {
      accepted = accepted bytes h a;
      certified = certified (sheet_read bytes h) h.terms words_lent (doubles bytes h a) (run_of bytes) (searched_of bytes h e);
    }

-- ---- the outcome

pub written_within : WrittenWithin
written_within bytes out count after o = (within.written_within (run_of bytes) out after count o).0

said : (answer : Answer) (out : List ℕ) → longest ≤ length out → take (written_of answer out) (out_of answer out) ≡ listing_of answer
unfolding written_of out_of
said answer out room =
    let text = listing_of answer in
    ap₂ take (pick_true (leb longest (length out)) (length text) 0 (le→leb longest (length out) room))
    (pick_true (leb longest (length out)) (text ++ drop (length text) out) out (le→leb longest (length out) room))
    ∙ take-append_seam text (drop (length text) out)

pub text_written : TextWritten
text_written bytes out count after o room = ap₂ take o.says o.holds ∙ said (run_of bytes) out room

pub outcomes_coincide : RunsCoincide
outcomes_coincide bytes out m n after other a b = (a.says ∙ sym b.says, a.holds ∙ sym b.holds)
