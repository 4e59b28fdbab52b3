-- Both outcomes are what the contract says, so they are the same.
use mathlib.Core.Path.{sym, ◌∙◌}
use Rattle.std.proofs.Common.{◌≡◌, ℕ, ◌+◌, ◌<◌, min, List, length, take, drop, Option, None, Some, Ok, inl, inr, ap, arith}
use Rattle.std.proofs.lemmas.List.{length-append, length-take-le, get_or-take, take_at, drop_at}
use Rattle.std.proofs.lemmas.Bool.{cases_lt, cases_order}
use Rattle.prepare.proofs.Soundness.{determined}
use Rattle.rule_finder.proofs.Laws.{outcomes_coincide}
use Rattle.outcomes.specs.Outcomes.{Equation, ThresholdBetween, GoesLeft, RangeAnswer, SentLeft, LeftOfCut, RunFits, RunLength, FullRead, ReadFull, FirstBadValue, FirstBadLabel, SizeHolds, GridHolds, TermsHold, Check, Prepare, PlaceAt, ReaderLowerBound, ReaderUpperBound, LowerBound, UpperBound, FeasibleSplits, AddResult, SubintervalPruning, IntervalShrinking, NeighbourhoodPruning, Push, Pop, GetLeavesScore, Search, Judge, ReadSheet, WriteAnswer, BitsOf, RunText, TellVerdict, TellSearched, FinderPrepare, FinderCheck, FinderSearch}

pub equation : Equation
equation A said a b p q = p ∙ sym q

pub threshold_between : ThresholdBetween
threshold_between lower upper a b p q = p ∙ sym q

pub goes_left : GoesLeft
goes_left value threshold a b p q = p ∙ sym q

pub in_range : RangeAnswer
in_range value a b p q = p ∙ sym q

pub sent_left : SentLeft
sent_left values threshold a b p q = p ∙ sym q

pub left_of_cut : LeftOfCut
left_of_cut values at a b p q = p ∙ sym q

-- a run ends at a word of another number, and a longer run would hold that word
no_longer : (words : List ℕ) (number n m : ℕ) → RunFits words number n → RunFits words number m → n < m → ⊥
no_longer words number n m p q l =
    let size : length (take m words) ≡ m = length-take-le m words q.within in
    p.ended (omega arith) (sym (get_or-take m words n 0 l) ∙ q.held n 0 (omega arith))

pub run_length : RunLength
run_length words number n m p q =
    elim (cases_order n m) [
      | inl same ↦ same
      | inr apart ↦ elim apart [ inl l ↦ absurd (no_longer words number n m p q l) | inr l ↦ absurd (no_longer words number m n q p l) ]
    ]

-- as many bytes come as there are and there is room for, the first ones, and the reader has the others left
came : (E : Type 0) (xs room : List ℕ) (n : ℕ) (left : Option (List ℕ)) → FullRead E (Some xs) left (Ok n) room
    → (n ≡ min (length room) (length xs)) × (take n room ≡ take n xs) × (left ≡ Some (drop n xs))
came E xs room n None p = absurd p.read
came E xs room n (Some ys) p =
    let filled : length (take n room) ≡ n = sym p.within.1 in
    let size : length xs ≡ length (take n room) + length ys = ap length p.read ∙ length-append (take n room) ys in
    let count : n ≡ min (length room) (length xs) =
    elim (cases_lt n (length room)) [ inl l ↦ (let none : length ys ≡ 0 = ap length (p.to_the_end l) in omega (arith, p.within.0)) | inr full ↦ omega (arith, p.within.0) ] in
    (count, sym (ap (take n) p.read ∙ take_at (take n room) ys n filled), ap Some (sym (ap (drop n) p.read ∙ drop_at (take n room) ys n filled)))

pub read_full : ReadFull
read_full E xs n m room room' left left' same p q =
    let a = came E xs room n left p in
    let b = came E xs room' m left' q in
    let count : n ≡ m = omega (arith, a.0, b.0) in
    (count, a.1 ∙ ap (λ k. take k xs) count ∙ sym b.1, a.2 ∙ ap (λ k. Some (drop k xs)) count ∙ sym b.2)

pub first_bad_value : FirstBadValue
first_bad_value values a b p q = p ∙ sym q

pub first_bad_label : FirstBadLabel
first_bad_label codes labels a b p q = p ∙ sym q

pub size_holds : SizeHolds
size_holds rows columns labels a b p q = p ∙ sym q

pub grid_holds : GridHolds
grid_holds rows columns a b p q = p ∙ sym q

pub terms_hold : TermsHold
terms_hold t a b p q = p ∙ sym q

pub check : Check
check s t scratch a b p q = p ∙ sym q

pub prepare : Prepare
prepare = determined

pub place_at : PlaceAt
place_at cuts k a b p q = p ∙ sym q

pub reader_lower_bound : ReaderLowerBound
reader_lower_bound reader first last value ok a b p q = p ∙ sym q

pub reader_upper_bound : ReaderUpperBound
reader_upper_bound reader first last value ok a b p q = p ∙ sym q

pub lower_bound : LowerBound
lower_bound cuts first last value ok a b p q = p ∙ sym q

pub upper_bound : UpperBound
upper_bound cuts first last value ok a b p q = p ∙ sym q

pub feasible_splits : FeasibleSplits
feasible_splits cuts rows support ok a b p q = p ∙ sym q

pub add_result : AddResult
add_result table zeros cut left right a b p q = p ∙ sym q

pub subinterval_pruning : SubintervalPruning
subinterval_pruning c best bound a b p q = p ∙ sym q

pub interval_shrinking : IntervalShrinking
interval_shrinking c zeros best bound ok a b p q = p ∙ sym q

pub neighbourhood_pruning : NeighbourhoodPruning
neighbourhood_pruning c zeros excess cut first ok a b p q = p ∙ sym q

pub push : Push
push words queue bound a b p q = p ∙ sym q

pub pop : Pop
pop words queue a b p q = p ∙ sym q

pub get_leaves_score : GetLeavesScore
get_leaves_score s support mark a b p q = p ∙ sym q

pub search : Search
search s t scratch a b p q = p ∙ sym q

pub judge : Judge
judge s tree a b p q = p ∙ sym q

pub read_sheet : ReadSheet
read_sheet sheet values codes a b p q = p ∙ sym q

pub write_answer : WriteAnswer
write_answer answer out a b p q = p ∙ sym q

pub bits_of : BitsOf
bits_of x a b p q = p ∙ sym q

pub run_text : RunText
run_text = outcomes_coincide

pub tell_verdict : TellVerdict
tell_verdict verdict answer a b p q = p ∙ sym q

pub tell_searched : TellSearched
tell_searched found answer a b p q = p ∙ sym q

pub finder_prepare : FinderPrepare
finder_prepare numbers values order cuts counts answer a b p q = p ∙ sym q

pub finder_check : FinderCheck
finder_check numbers values codes order cuts counts scratch answer a b p q = p ∙ sym q

pub finder_search : FinderSearch
finder_search numbers values codes order cuts counts scratch answer a b p q = p ∙ sym q
