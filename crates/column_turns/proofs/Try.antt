-- A try: the marks say which rows go left, so the scan by the marks is the scan of the cut, and its two errors together are no more than the rows.
-- Assumes nothing.
use mathlib.Core.Path.{◌≡◌, refl, ap, ◌∙◌, subst}
use Prim.Native.Nat.{ℕ, zero, suc, ◌+◌, ◌-◌, ◌*◌, ◌≤◌, ◌<◌}
use native.Mathlib.Omega.{arith}
use mathlib.Core.Bool.{Bool, true, false, not}
use mathlib.Core.List.{List}
use lib.ListN.{length, get_or}
use lib.Dec.{eqb}
use lib.Ieee.{Float, nan}
use Rattle.basics.specs.Choice.{pick}
use Rattle.basics.proofs.Choice.{by_test}
use Rattle.basics.proofs.Lists.{tally_le, length_table}
use Rattle.threshold.specs.Threshold.{threshold_of}
use Rattle.sheet.specs.declared.Size.{Size}
use Rattle.sheet.specs.Sheet.{Sheet, value_of, label_of, row_at, value_at, count_of, place_of, every_row}
use Rattle.sheet.specs.declared.lent.LentSheet.{LentSheet}
use Rattle.sheet.specs.Lent.{sheet_in}
use Rattle.sheet.specs.Sound.{Sound}
use Rattle.sheet.specs.Rows.{sent_left}
use Rattle.sheet.proofs.Index.{column_in}
use Rattle.tree.specs.Answer.{side_error}
use Rattle.leaves_score.specs.Root.{preceding_place, cut_threshold, cut_question, sides_at, errors_at}
use Rattle.leaves_score.specs.Scan.{sides_of}
use Rattle.side_laws.specs.Opt.{answer}
use Rattle.side_laws.specs.Root.{root_mistakes}
use Rattle.side_laws.proofs.Cuts.{at_cuts}
use Rattle.side_laws.proofs.Root.{place_of_lem, cut_mistakes}
use Rattle.leaves_score.specs.Lists.{scan_of, Scannable, go_left}
use Rattle.leaves_score.proofs.Accepted.{accepted, same_sides}
use Rattle.column_turns.specs.Ready.{MarkingCut, MarkedTo, place_before, TryingCut, Trying}
use Rattle.column_turns.specs.Promise.{Whole}
use Rattle.leaves_score.proofs.Marks.{sides_alike}

-- ---- the preceding cut

pub before_next : (cuts : List ℕ) (base k : ℕ) → 0 < k → get_or cuts (base + k - 1) 0 ≡ place_before cuts base k
unfolding place_before
before_next cuts base zero h = absurd (omega arith)
before_next cuts base (suc k) h = let e : base + suc k - 1 ≡ base + k = omega arith in ap (λ (n : ℕ). get_or cuts n 0) e

pub before_first : (cuts : List ℕ) (base k : ℕ) → k ≡ 0 → 0 ≡ place_before cuts base k
unfolding place_before
before_first cuts base zero e = refl
before_first cuts base (suc k) e = absurd (omega arith)

pub before_placed : (l : LentSheet) (column cut : ℕ) → TryingCut l column cut
    → place_before l.cuts.now (column * l.measured.size.rows) cut < l.measured.size.rows
unfolding place_before
before_placed l column zero h = omega (arith, h.rows_some)
before_placed l column (suc k) h = h.placed k (omega arith)

-- ---- the threshold

-- the value at a sorted place, in the lists
abbrev pub sorted : LentSheet → ℕ → ℕ → Float
sorted l column i =
    get_or l.measured.values.now (column * l.measured.size.rows + get_or l.order.now (column * l.measured.size.rows + i) 0) nan

pub threshold_is : (l : LentSheet) (column cut : ℕ)
    → threshold_of (sorted l column (place_before l.cuts.now (column * l.measured.size.rows) cut))
    (sorted l column (get_or l.cuts.now (column * l.measured.size.rows + cut) 0))
    ≡ cut_threshold (sheet_in l) column cut
unfolding place_before preceding_place cut_threshold value_at value_of row_at place_of
threshold_is l column zero = refl
threshold_is l column (suc k) = refl

pub read_place : (l : LentSheet) (column cut i : ℕ) → TryingCut l column cut → i < l.measured.size.rows
    → (column * l.measured.size.rows + i < length l.order.now)
    × (column * l.measured.size.rows + get_or l.order.now (column * l.measured.size.rows + i) 0 < length l.measured.values.now)
read_place l column cut i h k = (omega (arith, h.ordered), omega (arith, h.valued, h.in_rows i k))

-- a mark is 0 where the test passes
mark_zero : (b : Bool) → eqb (pick b 0 1) 0 ≡ b
unfolding pick
mark_zero true = refl
mark_zero false = refl

-- ---- a cut of an accepted sheet

module _ (s : Sheet) (whole : Whole s) (c k : ℕ) (here : c < s.columns) (cut_in : k < count_of s c) where
  abbrev sound : Sound s
  sound = whole.sound

  -- the marks say what the cut does
  marks_are : (size : Size) (marks : List ℕ) → size.rows ≡ s.rows → MarkedTo size s.order c (place_of s c k) marks s.rows
      → (r : ℕ) → r < s.rows → get_or marks r 0 ≡ pick (sent_left s (cut_question s c k) r) 0 1
  unfolding row_at
  marks_are size marks e marked r h =
      let left : ℕ → Bool = sent_left s (cut_question s c k) in
      let m : MarkedTo (record { rows = s.rows; columns = size.columns; labels = size.labels }) s.order c (place_of s c k) marks s.rows =
      subst (λ (n : ℕ). MarkedTo (record { rows = n; columns = size.columns; labels = size.labels }) s.order c (place_of s c k) marks s.rows) e marked in
      let z = place_of_lem s sound c here r h in
      subst (λ (n : ℕ). get_or marks n 0 ≡ pick (left n) 0 1) z.2 (m left (λ i l. (at_cuts s sound c k here cut_in).parts i l) z.0 z.1)

  module _ (size : Size) (marks : List ℕ) (e : size.rows ≡ s.rows) (marked : MarkedTo size s.order c (place_of s c k) marks s.rows) (r : ℕ) (h : r < s.rows) where
    pub marks_tell : go_left marks r ≡ sent_left s (cut_question s c k) r
    marks_tell = ap (λ (m : ℕ). eqb m 0) (marks_are size marks e marked r h) ∙ mark_zero (sent_left s (cut_question s c k) r)

    pub marks_number : get_or marks r 0 < 2
    marks_number = rw (marks_are size marks e marked r h) (by_test (λ m. m < 2) (sent_left s (cut_question s c k) r) (λ _. omega arith) (λ _. omega arith))

  -- both errors together
  pub errors_few : (support : ℕ) → (errors_at s support c k).0 + (errors_at s support c k).1 ≤ s.rows
  unfolding root_mistakes
  errors_few support =
      let wrong : ℕ → Bool = λ x. not (eqb (label_of s x) (pick (sent_left s (cut_question s c k) x) (answer s (sides_at s support c k).left x) (answer s (sides_at s support c k).right x))) in
      omega (arith, cut_mistakes s sound support c k, tally_le wrong (every_row s), length_table (λ r. r) s.rows)

-- ---- what a try asks of its parts

module _ (l : LentSheet) (column cut : ℕ) (was : List ℕ) (trying : Trying (sheet_in l) column cut was) where
  abbrev sheet : Sheet
  sheet = sheet_in l

  abbrev size : Size
  size = l.measured.size

  abbrev entries : column * size.rows + size.rows ≤ size.columns * size.rows
  entries = column_in size.rows size.columns column trying.here

  pub tried_listed : column * size.rows + cut < length l.cuts.now
  tried_listed =
      omega (arith, entries, trying.whole.lengths.cuts_all, (trying.whole.sound.column column trying.here).cuts.count_most, trying.cut_in)

  pub tried_cutting : TryingCut l column cut
  unfolding row_at place_of
  tried_cutting =
      record {
        rows_some = trying.whole.sound.limited.rows_some;
        rows_most = trying.whole.sound.limited.rows_most;
        columns_most = omega (arith, trying.here, trying.whole.sound.limited.columns_most);
        ordered = omega (arith, entries, trying.whole.lengths.order_all);
        valued = omega (arith, entries, trying.whole.lengths.values_all);
        listed = tried_listed;
        placed = λ k h. (trying.whole.sound.column column trying.here).cuts.place_high k (omega (arith, trying.cut_in));
        in_rows = λ i h. (trying.whole.sound.column column trying.here).in_rows i h;
      }

  pub tried_marking : MarkingCut l column cut was
  tried_marking =
      let k : TryingCut l column cut = tried_cutting in
      record {
        marking =
            record {
              rows_most = k.rows_most;
              columns_most = k.columns_most;
              ordered = k.ordered;
              marked = omega (arith, trying.marked);
              in_rows = k.in_rows;
            };
        listed = tried_listed;
      }

  pub tried_scannable : (marks : List ℕ) → length marks ≡ size.rows → MarkedTo size l.order.now column (get_or l.cuts.now (column * size.rows + cut) 0) marks size.rows
      → Scannable (scan_of sheet) marks
  unfolding place_of
  tried_scannable marks e marked =
      accepted sheet marks trying.whole.sound
      (record {
        ordered = omega (arith, trying.whole.lengths.order_all);
        valued = omega (arith, trying.whole.lengths.values_all);
        coded = omega (arith, trying.whole.lengths.codes_all);
        marked = omega arith;
        numbered = λ r h. marks_number sheet trying.whole column cut trying.here trying.cut_in size marks refl marked r h;
      })

  -- what the scan of the marks comes to
  pub tried_sides : (support : ℕ) (marks : List ℕ) → MarkedTo size l.order.now column (get_or l.cuts.now (column * size.rows + cut) 0) marks size.rows
      → sides_of (scan_of sheet) support (go_left marks) ≡ sides_at sheet support column cut
  unfolding sides_at place_of row_at
  tried_sides support marks marked =
      same_sides sheet (go_left marks) support
      ∙ sides_alike sheet (go_left marks) (sent_left sheet (cut_question sheet column cut)) (λ d l i h. (trying.whole.sound.column d l).in_rows i h)
      (λ r h. marks_tell sheet trying.whole column cut trying.here trying.cut_in size marks refl marked r h)
      support

  pub tried_few : (support : ℕ) → side_error (sides_at sheet support column cut).left + side_error (sides_at sheet support column cut).right ≤ size.rows
  unfolding errors_at
  tried_few support = errors_few sheet trying.whole column cut trying.here trying.cut_in support
