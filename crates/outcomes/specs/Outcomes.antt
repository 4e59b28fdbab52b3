-- For a signer. "show that two outcomes fitting the contract coincide, or list the exception and why": one statement for each public function,
-- over its result and every lent word at exit. A contract is an equation, so each says the same of what the equation names; two are no equations, and
-- their clauses stand here one for one. Statements only; `proofs/Coincide.antt` proves them.
use Rattle.std.specs.Prelude.{◌≡◌, ◌≢◌, ◌<◌, ◌≤◌, ℕ, Bool, List, length, take, get_or, slice_index, All, Option, Some, Result, Ok, IfOk, Float}
use Rattle.std.specs.Io.{ReadsAtMost}
use Rattle.std.specs.Io.KnownBytes.{Consumes, IsAtEnd}
use Rattle.std.specs.Float.{binary64}
use Rattle.std.specs.Float.Ieee.{to_bits}
use Rattle.basics.specs.Walk.{place_among}
use Rattle.threshold.specs.Threshold.{threshold_of, goes_left, within}
use Rattle.threshold.specs.Column.{count_left, left_of_cut}
use Rattle.sheet.specs.declared.Terms.{Terms}
use Rattle.sheet.specs.declared.refusals.Refusal.{Refusal}
use Rattle.sheet.specs.Sheet.{Sheet}
use Rattle.sheet.specs.Check.{first_bad_value, first_bad_label, grid_holds, size_holds, terms_hold, Verdict, check_of, scratch_after}
use Rattle.cuts.specs.declared.CutReader.{CutReader}
use Rattle.cuts.specs.declared.Run.{Run}
use Rattle.cuts.specs.Lookups.{Ascending, place, lower_bound_of, upper_bound_of}
use Rattle.cuts.specs.Feasible.{feasible_of}
use Rattle.interval_pruner.specs.declared.Bound.{Bound}
use Rattle.interval_pruner.specs.declared.Zeros.{Zeros}
use Rattle.interval_pruner.specs.declared.Parts.{Parts}
use Rattle.interval_pruner.specs.Column.{Column}
use Rattle.interval_pruner.specs.Pruner.{zeros_after, recorded_after, hopeless, shrunk_of, parts_of, PartsListed}
use Rattle.interval_queue.specs.declared.Queue.{Queue}
use Rattle.interval_queue.specs.declared.Popped.{Popped}
use Rattle.interval_queue.specs.Ring.{pushed, pushed_words, taken}
use Rattle.tree.specs.declared.Tree.{Tree}
use Rattle.tree.specs.declared.Answer.{Answer}
use Rattle.leaves_score.specs.declared.Sides.{Sides}
use Rattle.leaves_score.specs.Scan.{sides_of}
use Rattle.depth2.specs.Search.{search_of, scratch_of}
use Rattle.judge.specs.declared.judge_rows.Judgement.{Judgement}
use Rattle.judge.specs.Judge.{judge_of}
use Rattle.prepare.specs.Laws.{Determined}
use Rattle.sheet_bytes.specs.declared.Head.{Head}
use Rattle.sheet_bytes.specs.Read as bytes
use Rattle.listing.specs.Listing.{written_of, out_of}
use Rattle.rule_finder.specs.Laws as finder
use Rattle.c_face.specs.Numbers.{terms_in}
use Rattle.c_face.specs.Told.{written, verdict_told}
use Rattle.c_face.specs.Rule.{search_words}
use Rattle.c_face.specs.Face.{sheet_in, prepare_answer, check_answer, search_answer}

-- two outcomes that are what an equation says
abbrev pub One : (A : Type 0) → A → Type 0
One A said = (a b : A) → a ≡ said → b ≡ said → a ≡ b

-- of a function whose whole contract is that its answer, or a lent list at exit, is what a definition says
abbrev pub Equation : Type 1
Equation = (A : Type 0) (said : A) → One A said

-- ---- values

abbrev pub ThresholdBetween : Type 0
ThresholdBetween = (lower upper : Float) → One Float (threshold_of lower upper)

abbrev pub GoesLeft : Type 0
GoesLeft = (value threshold : Float) → One Bool (goes_left value threshold)

abbrev pub RangeAnswer : Type 0
RangeAnswer = (value : Float) → One Bool (within value)

abbrev pub SentLeft : Type 0
SentLeft = (values : List Float) (threshold : Float) → One ℕ (count_left values threshold)

abbrev pub LeftOfCut : Type 0
LeftOfCut = (values : List Float) (at : ℕ) → One ℕ (left_of_cut values at)

-- ---- runs and readers: the two whose contracts are no equations

-- the count n fits `run_length`
pub record RunFits (words : List ℕ) (number n : ℕ) : Type 0 where
  pub within : n ≤ length words
  pub held : All (λ word. word ≡ number) (take n words)
  pub ended : n < length words → slice_index words n ≢ number

abbrev pub RunLength : Type 0
RunLength = (words : List ℕ) (number n m : ℕ) → RunFits words number n → RunFits words number m → n ≡ m

-- the answer, what the reader has left and the room at exit fit `read_full`, of a reader that had the known bytes; E is the type of its errors
pub record FullRead (E : Type 0) (known left : Option (List ℕ)) (answer : Result ℕ E) (room : List ℕ) : Type 0 where
  pub within : ReadsAtMost answer room
  pub read : IfOk answer (λ n. Consumes known left (take n room))
  pub to_the_end : IfOk answer (λ n. n < length room → IsAtEnd left)

-- of a reader whose bytes are known, where it gives no error. What the room holds past the bytes that came is left open.
abbrev pub ReadFull : Type 1
ReadFull =
    (E : Type 0) (xs : List ℕ) (n m : ℕ) (room room' : List ℕ) (left left' : Option (List ℕ))
    → length room ≡ length room'
    → FullRead E (Some xs) left (Ok n) room
    → FullRead E (Some xs) left' (Ok m) room'
    → (n ≡ m) × (take n room ≡ take m room') × (left ≡ left')

-- ---- the sheet

abbrev pub FirstBadValue : Type 0
FirstBadValue = (values : List Float) → One (Option ℕ) (place_among (length values) (first_bad_value values))

abbrev pub FirstBadLabel : Type 0
FirstBadLabel = (codes : List ℕ) (labels : ℕ) → One (Option ℕ) (place_among (length codes) (first_bad_label codes labels))

abbrev pub SizeHolds : Type 0
SizeHolds = (rows columns labels : ℕ) → One Bool (size_holds rows columns labels)

abbrev pub GridHolds : Type 0
GridHolds = (rows columns : ℕ) → One Bool (grid_holds rows columns)

abbrev pub TermsHold : Type 0
TermsHold = (t : Terms) → One Bool (terms_hold t)

abbrev pub Check : Type 0
Check =
    (s : Sheet) (t : Terms) (scratch : List ℕ)
    → One (Verdict × List ℕ) (check_of s t (length scratch), scratch_after (check_of s t (length scratch)) s.rows scratch)

-- `prepare`
abbrev pub Prepare : Type 0
Prepare = Determined

-- ---- the search of one column. On a list of cuts that does not ascend, which no accepted sheet has, the lookups only end within their range: a halving lookup and a walk
-- may differ there, and the contract holds for both.

abbrev pub PlaceAt : Type 0
PlaceAt = (cuts : List ℕ) (k : ℕ) → One ℕ (place cuts k)

abbrev pub ReaderLowerBound : Type 0
ReaderLowerBound =
    (reader : CutReader) (first last value : ℕ)
    → Ascending reader.places.now → One ℕ (lower_bound_of reader.places.now first last value)

abbrev pub ReaderUpperBound : Type 0
ReaderUpperBound =
    (reader : CutReader) (first last value : ℕ)
    → Ascending reader.places.now → One ℕ (upper_bound_of reader.places.now first last value)

abbrev pub LowerBound : Type 0
LowerBound = (cuts : List ℕ) (first last value : ℕ) → Ascending cuts → One ℕ (lower_bound_of cuts first last value)

abbrev pub UpperBound : Type 0
UpperBound = (cuts : List ℕ) (first last value : ℕ) → Ascending cuts → One ℕ (upper_bound_of cuts first last value)

abbrev pub FeasibleSplits : Type 0
FeasibleSplits = (cuts : List ℕ) (rows support : ℕ) → Ascending cuts → One Run (feasible_of cuts rows support)

abbrev pub AddResult : Type 0
AddResult =
    (table : List ℕ) (zeros : Zeros) (cut left right : ℕ)
    → One (Zeros × List ℕ) (zeros_after zeros cut left right, recorded_after table cut left right)

abbrev pub SubintervalPruning : Type 0
SubintervalPruning = (c : Column) (best : ℕ) (bound : Bound) → One Bool (hopeless c best bound)

abbrev pub IntervalShrinking : Type 0
IntervalShrinking = (c : Column) (zeros : Zeros) (best : ℕ) (bound : Bound) → Ascending c.places → One (Option Bound) (shrunk_of c zeros best bound)

abbrev pub NeighbourhoodPruning : Type 0
NeighbourhoodPruning =
    (c : Column) (zeros : Zeros) (excess cut first : ℕ) → PartsListed c.places zeros cut → One Parts (parts_of c zeros excess cut first)

abbrev pub Push : Type 0
Push = (words : List ℕ) (queue : Queue) (bound : Bound) → One (Queue × List ℕ) (pushed words queue, pushed_words words queue bound)

abbrev pub Pop : Type 0
Pop = (words : List ℕ) (queue : Queue) → One (Option Popped) (taken words queue)

-- ---- the scan, the search and the judge

abbrev pub GetLeavesScore : Type 0
GetLeavesScore = (s : Sheet) (support : ℕ) (mark : ℕ → Bool) → One Sides (sides_of s support mark)

-- `search` and `certified_search`
abbrev pub Search : Type 0
Search = (s : Sheet) (t : Terms) (scratch : List ℕ) → One (Answer × List ℕ) (search_of s t (length scratch), scratch_of s t scratch)

abbrev pub Judge : Type 0
Judge = (s : Sheet) (tree : Tree) → One (Result Judgement Refusal) (judge_of s tree)

-- ---- the program's bytes

abbrev pub ReadSheet : Type 0
ReadSheet =
    (sheet : List ℕ) (values : List Float) (codes : List ℕ)
    → let read : Result Head Refusal = bytes.read_answer sheet (length values) (length codes) in
    One (Result Head Refusal × (List Float × List ℕ)) (read, (bytes.values_in read sheet values, bytes.codes_in read sheet codes))

abbrev pub WriteAnswer : Type 0
WriteAnswer = (answer : Answer) (out : List ℕ) → One (ℕ × List ℕ) (written_of answer out, out_of answer out)

abbrev pub BitsOf : Type 0
BitsOf = (x : Float) → One ℕ (to_bits binary64 x)

-- `run`
abbrev pub RunText : Type 0
RunText = finder.RunsCoincide

-- ---- callers from C: the answer's words, and scratch

-- of the preparer and of the check
abbrev pub TellVerdict : Type 0
TellVerdict = (verdict : Verdict) (answer : List ℕ) → One (List ℕ) (verdict_told verdict answer)

abbrev pub TellSearched : Type 0
TellSearched = (found : Answer) (answer : List ℕ) → One (List ℕ) (written (search_words found) answer)

-- the three lists are those of `Prepare`
abbrev pub FinderPrepare : Type 0
FinderPrepare =
    (numbers : List ℕ) (values : List Float) (order cuts counts answer : List ℕ)
    → One (List ℕ) (verdict_told (prepare_answer numbers values order cuts counts) answer)

abbrev pub FinderCheck : Type 0
FinderCheck =
    (numbers : List ℕ) (values : List Float) (codes order cuts counts scratch answer : List ℕ)
    → let checked : Verdict = check_answer numbers values codes order cuts counts (length scratch) in
    One (List ℕ × List ℕ) (verdict_told checked answer, scratch_after checked (get_or numbers 0 0) scratch)

abbrev pub FinderSearch : Type 0
FinderSearch =
    (numbers : List ℕ) (values : List Float) (codes order cuts counts scratch answer : List ℕ)
    → One (List ℕ × List ℕ) (
      written (search_words (search_answer numbers values codes order cuts counts (length scratch))) answer,
      scratch_of (sheet_in numbers values codes order cuts counts) (terms_in numbers) scratch,
    )
