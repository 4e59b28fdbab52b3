-- The three sentences. 1: any root question parts the rows as a cut does, no cut is passed over but by pruning that loses nothing, and a side's
-- error is the least of all trees on its rows. 2: an error is replaced by a lower one only. 3: each leaf's error is a count of its rows.
-- Assumes nothing.
use mathlib.Core.Path.{◌≡◌, refl, sym, ap, ◌∙◌, subst}
use Prim.Native.Nat.{ℕ, ◌+◌, ◌≤◌, ◌<◌, min}
use native.Mathlib.Omega.{arith}
use mathlib.Core.Option.{Option, none, some}
use Rattle.std.specs.Prelude.{Ok}
use Rattle.basics.specs.Choice.{Hit}
use Rattle.threshold.proofs.Keys.{finite_comparable}
use Rattle.sheet.specs.Sheet.{Sheet, count_of}
use Rattle.sheet.specs.Sound.{Sound}
use Rattle.sheet.specs.declared.Terms.{Terms}
use Rattle.sheet.specs.Check.{check_of}
use Rattle.sheet.specs.Laws.{Doubles}
use Rattle.sheet.specs.Rows.{sent_left}
use Rattle.sheet.proofs.Accepted.{accepted_sound}
use Rattle.tree.specs.declared.Tree.{Tree}
use Rattle.tree.specs.declared.Answer.{Answer}
use Rattle.tree.specs.Answer.{final_error, rule_of}
use Rattle.leaves_score.specs.Column.{other}
use Rattle.leaves_score.specs.Root.{cut_question, sides_at}
use Rattle.side_laws.specs.Told.{Told}
use Rattle.side_laws.specs.Root.{root_mistakes}
use Rattle.side_laws.proofs.Sides.{tells}
use Rattle.side_laws.proofs.Cuts.{at_cuts}
use Rattle.side_laws.proofs.Root.{root_least, cut_mistakes}
use Rattle.judge.specs.declared.judge_rows.Judgement.{Judgement}
use Rattle.judge.specs.Mistakes.{root_leftward, root_rightward, judgement_of}
use Rattle.column_turns.specs.Try.{tree_at}
use Rattle.depth2.specs.Search.{Progress, searched, answer_holding, answer_after, search_of}
use Rattle.depth2.specs.Laws.{cut_error, MakesError, Bettered}
use Rattle.depth2.proofs.Laws.{error_falls}
use Rattle.column_turns.proofs.Accepted.{accepted_parts}
use Rattle.certificate.specs.Certificate.{NothingBetter, NeverWorse, AsItSays, TreeTells, Certified}
use Rattle.certificate.proofs.Progress.{searched_best}
use Rattle.judge.proofs.Taking.{Accepts, accepts, same_sheet}
use Rattle.certificate.proofs.Judging.{proper, tree_sum, taken, told_wrong}

-- ---- the answer of an accepted call

answer_is : (s : Sheet) (t : Terms) (words : ℕ) → check_of s t words ≡ Ok tt → search_of s t words ≡ answer_holding s t (searched s t) (searched s t).best
unfolding search_of answer_after
answer_is s t words e = ap (answer_after s t) e

error_is : (s : Sheet) (t : Terms) (p : Progress) (best : Option (ℕ × ℕ)) → final_error (answer_holding s t p best) ≡ some p.error
unfolding answer_holding tree_at
error_is s t p none = refl
error_is s t p (some cut) = refl

final_is : (s : Sheet) (t : Terms) (words : ℕ) → check_of s t words ≡ Ok tt → final_error (search_of s t words) ≡ some (searched s t).error
final_is s t words e = ap final_error (answer_is s t words e) ∙ error_is s t (searched s t) (searched s t).best

-- what holds of the final error
final : (P : ℕ → Type 0) (s : Sheet) (t : Terms) (words : ℕ) → check_of s t words ≡ Ok tt → P (searched s t).error → Hit P (final_error (search_of s t words))
final P s t words e h = subst (Hit P) (sym (final_is s t words e)) h

-- the error falls or stays, and a lower one is that of the cut named
falls_or_stays : (s : Sheet) (t : Terms) (words : ℕ) → Doubles s → check_of s t words ≡ Ok tt → Bettered s t t.error (searched s t)
falls_or_stays s t words doubles e = error_falls s t (accepted_parts s t words doubles e).0

-- ---- 1

pub nothing_better : NothingBetter
nothing_better s t words doubles e small tree j any =
    let sound : Sound s = accepted_sound s t words doubles e in
    let a : Accepts s tree j = accepts s tree j any.judged in
    let r =
    root_least s sound t.support small tree.question a.column (finite_comparable tree.question.threshold a.threshold any.double.root)
    any.left_rows any.right_rows tree.left tree.right (proper s tree.left a.left any.double.left) (proper s tree.right a.right any.double.right) in
    let m : root_mistakes s tree.question tree.left tree.right ≡ j.mistakes = sym (tree_sum s tree) ∙ ap (λ (x : Judgement). x.mistakes) a.judgement in
    final (λ n. min n t.bound ≤ j.mistakes + t.gap) s t words e
    (omega (arith, m, r.2, searched_best s sound t small tree.question.column r.0 a.column r.1))

-- ---- 2

pub never_worse : NeverWorse
never_worse s t words doubles e = final (λ n. n ≤ t.error) s t words e (falls_or_stays s t words doubles e).falls

-- ---- 3

module _ (s : Sheet) (t : Terms) (words : ℕ) (sound : Sound s) (e : check_of s t words ≡ Ok tt) (c k error : ℕ) (here : c < s.columns) (listed : k < count_of s c)
    (is : error ≡ cut_error s t c k) where
  left_told : Told s t.support (sent_left s (cut_question s c k)) (sides_at s t.support c k).left
  unfolding sides_at
  left_told = (tells s sound t.support (sent_left s (cut_question s c k))).left

  right_told : Told s t.support (other (sent_left s (cut_question s c k))) (sides_at s t.support c k).right
  unfolding sides_at
  right_told = (tells s sound t.support (sent_left s (cut_question s c k))).right

  cut_tells : AsItSays s (tree_at s t.support c k error)
  unfolding tree_at judgement_of
  cut_tells =
      let tree : Tree = tree_at s t.support c k error in
      record {
        judgement = judgement_of s tree;
        judged = same_sheet s t words e tree ∙ taken s tree t.support here (at_cuts s sound c k here listed).in_range left_told right_told;
        mistakes = tree_sum s tree ∙ cut_mistakes s sound t.support c k ∙ sym is;
        left = told_wrong s t.support (root_leftward s tree) tree.left left_told;
        right = told_wrong s t.support (root_rightward s tree) tree.right right_told;
      }

pub tree_tells : TreeTells
tree_tells s t words doubles e =
    final (λ n. n < t.error → Hit (λ tree. (tree.error ≡ n) × AsItSays s tree) (rule_of (search_of s t words))) s t words e
    (λ lower. subst (λ (x : Answer). Hit (λ tree. (tree.error ≡ (searched s t).error) × AsItSays s tree) (rule_of x)) (sym (answer_is s t words e))
    (go (searched s t).best ((falls_or_stays s t words doubles e).named lower)))
  where
    sound : Sound s
    sound = accepted_sound s t words doubles e

    go : (best : Option (ℕ × ℕ)) → Hit (MakesError s t (searched s t).error) best
        → Hit (λ tree. (tree.error ≡ (searched s t).error) × AsItSays s tree) (rule_of (answer_holding s t (searched s t) best))
    go none n = absurd n
    go (some cut) n =
        unfold answer_holding in
        (unfold tree_at in refl, cut_tells s t words sound e cut.0 cut.1 (searched s t).error n.0 n.1 n.2)

-- ---- of what the search answers

pub certified : (s : Sheet) (t : Terms) (words : ℕ) → Doubles s → (r : Answer) → r ≡ search_of s t words → Certified s t words r
certified s t words doubles r is =
    subst (Certified s t words) (sym is)
    (record {
      nothing_better = nothing_better s t words doubles;
      never_worse = never_worse s t words doubles;
      tree_tells = tree_tells s t words doubles;
    })
