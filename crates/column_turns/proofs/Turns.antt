-- One interval in code is one turn of the definition: the ring's first interval is the queue's, the table says of the cuts that it remembers what the
-- evaluator does, and what is left is tried. Assumes nothing.
use mathlib.Core.Path.{◌≡◌, refl, sym, ap, ◌∙◌, subst}
use Prim.Native.Nat.{ℕ, ◌+◌, ◌*◌, ◌/◌, ◌≤◌, ◌<◌, min}
use native.Mathlib.Omega.{arith}
use mathlib.Core.Bool.{Bool, true, false}
use mathlib.Core.List.{List, [], ◌∷◌}
use lib.ListN.{length}
use lib.Dec.{leb, eqb}
use Rattle.basics.specs.Choice.{pick}
use Rattle.basics.specs.Lists.{All, total, table}
use Rattle.basics.proofs.Choice.{by_test}
use Rattle.basics.proofs.Lists.{all_map, length_table}
use Rattle.sheet.specs.declared.Terms.{Terms}
use Rattle.sheet.specs.Limits.{most_columns}
use Rattle.sheet.specs.Sheet.{Sheet, count_of, places_of}
use Rattle.leaves_score.specs.Root.{errors_at}
use Rattle.cuts.specs.Lookups.{Ascending}
use Rattle.cuts.proofs.Feasible.{feasible_exactly}
use Rattle.std.specs.Prelude.{Option, Some, None}
use Rattle.interval_pruner.specs.declared.Bound.{Bound}
use Rattle.interval_pruner.specs.declared.Reach.{Reach}
use Rattle.interval_pruner.specs.declared.Zeros.{Zeros}
use Rattle.interval_pruner.specs.Column as column
use Rattle.interval_pruner.specs.Column.{Column, left_error, right_error, recorded}
use Rattle.interval_pruner.specs.Pruner.{highest_zero, zeros_after, hopeless, shrunk_of, Held}
use Rattle.interval_queue.specs.declared.Queue.{Queue}
use Rattle.interval_queue.specs.declared.Popped.{Popped}
use Rattle.interval_queue.specs.Ring.{contents, popped}
use Rattle.interval_queue.specs.Laws.{Sane}
use Rattle.interval_queue.proofs.Cases.{take_popped}
use Rattle.interval_queue.proofs.Waiting.{pop_takes_first}
use Rattle.column_search.specs.Search.{State, limit, zeros_of, middle, dropped, try_cut, after_shrink, turn_on, turn}
use Rattle.column_search.specs.Laws.{Feasible, Agree, Inside}
use Rattle.column_search.specs.Loop.{Seen, Waiting, Looping, weight}
use Rattle.column_search.proofs.Count.{loops}
use Rattle.column_search.proofs.Kept.{cut_map}
use Rattle.column_search.proofs.Same.{recalls, same_hope, same_shrunk}
use Rattle.column_search.proofs.Steps.{shrunk_in_lem}
use Rattle.column_turns.specs.declared.interval_steps.Standing.{Standing}
use Rattle.column_turns.specs.declared.Course.{Course}
use Rattle.column_turns.specs.declared.Attempt.{Attempt}
use Rattle.column_turns.specs.declared.Words.{Words}
use Rattle.column_turns.specs.Promise.{Whole, most_tries, standing_after_run, feasible_at, first_at, last_at}
use Rattle.column_turns.specs.Ready.{SameWords, Trying}
use Rattle.column_turns.specs.Try.{searched_column}
use Rattle.column_turns.specs.Steps.{pruned_of, PrunedBy}
use Rattle.column_turns.specs.Parts.{PartsWaiting, CutsNumbered}
use Rattle.column_turns.specs.Course.{Matches, Stands, Begun, Turning, Turned, Attempted, Attempting}
use Rattle.column_turns.proofs.Lent.{enough_after}
use Rattle.column_turns.proofs.Queueing.{ring_slots}
use Rattle.column_turns.proofs.Places.{places_count, places_ascend, places_low}

-- ---- the middle

pub middle_low : (a b : ℕ) → a ≤ b → a ≤ (a + b) / 2
middle_low a b h = omega arith

pub middle_high : (a b : ℕ) → a ≤ b → (a + b) / 2 ≤ b
middle_high a b h = omega arith

-- ---- the zero marks name cuts of the list

highest_in : (n k : ℕ) (t : Option ℕ) → k < n → CutsNumbered n t → CutsNumbered n (highest_zero k t)
unfolding highest_zero
highest_in n k None h g = h
highest_in n k (Some z) h g = omega arith

pub numbered_after : (n : ℕ) (z : Zeros) (k l r : ℕ) → k < n → CutsNumbered n z.left → CutsNumbered n (zeros_after z k l r).left
unfolding zeros_after
numbered_after n z k l r h g = by_test (CutsNumbered n) (eqb l 0) (λ _. highest_in n k z.left h g) (λ _. g)

numbered_all : (c : Column) (n : ℕ) (tried : List ℕ) → All (λ k. k < n) tried → CutsNumbered n (zeros_of c tried).left
unfolding zeros_of
numbered_all c n [] h = tt
numbered_all c n (k ∷ tried) h = numbered_after n (zeros_of c tried) k (left_error c k) (right_error c k) h.0 (numbered_all c n tried h.1)

-- ---- the feasible cuts

module _ (s : Sheet) (t : Terms) (c : ℕ) (whole : Whole s) (here : c < s.columns) where
  pub end_listed : (feasible_at s t c).end ≤ count_of s c
  end_listed =
      omega (
        arith,
        (feasible_exactly (places_of s c) s.rows t.support (places_ascend s whole c here)).listed,
        places_count s whole c here,
      )

  pub feasible_cuts : first_at s t c < (feasible_at s t c).end → Feasible (searched_column s t c) (first_at s t c) (last_at s t c)
  feasible_cuts some =
      record {
        full = omega arith;
        listed = omega (arith, end_listed, places_count s whole c here);
        placed = λ k low high. places_low s whole c here k (omega (arith, end_listed));
      }

-- ---- a try's needs

module _ (s : Sheet) (t : Terms) (c : ℕ) (xs : Words) (course : Course) (i : Bound) (attempting : Attempting s t c xs course i) where
  pub middle_in : middle i < count_of s c
  middle_in = omega (arith, middle_high i.first i.last attempting.full, attempting.till)

  pub middle_row : middle i < s.rows
  middle_row = omega (arith, middle_in, (attempting.whole.sound.column c attempting.here).cuts.count_most)

  pub to_try : Trying s c (middle i) xs.marks.now
  to_try = record { whole = attempting.whole; here = attempting.here; cut_in = middle_in; marked = attempting.enough.marks_size }

  pub to_part : (ys : Words) (tried : Attempt) (reach : Reach) → Attempted s t.support c (middle i) course.zeros xs ys tried
      → PartsWaiting (places_of s c) (record { bound = i; cut = middle i; zeros = tried.zeros; reach = reach }) course.queue ys
  to_part ys tried reach attempted =
      let n : length (places_of s c) ≡ count_of s c = places_count s attempting.whole c attempting.here in
      let small : count_of s c < s.rows = (attempting.whole.sound.column c attempting.here).cuts.count_most in
      record {
        listed = omega (arith, n, small, attempting.enough.few);
        ascending = places_ascend s attempting.whole c attempting.here;
        full = attempting.full;
        till = omega (arith, n, attempting.till);
        from_first = middle_low i.first i.last attempting.full;
        to_last = middle_high i.first i.last attempting.full;
        placed = places_low s attempting.whole c attempting.here (middle i) middle_in;
        left = cut_map (λ k. k < count_of s c) (λ k. k < length (places_of s c)) (λ k h. omega (arith, n)) i.left attempting.left;
        right = cut_map (λ k. k < count_of s c) (λ k. k < length (places_of s c)) (λ k h. omega (arith, n)) i.right attempting.right;
        zero =
            subst (λ (z : Zeros). CutsNumbered (length (places_of s c)) z.left) (sym attempted.zeros_are)
            (numbered_after (length (places_of s c)) course.zeros (middle i) (errors_at s t.support c (middle i)).0
            (errors_at s t.support c (middle i)).1 (omega (arith, n, middle_in))
            (subst (λ (l : ℕ). CutsNumbered l course.zeros.left) (sym n) attempting.zero));
        sane = subst (λ (w : List ℕ). Sane w course.queue) (sym attempted.ring_is) attempting.sane;
        room = omega (arith, attempting.room, ring_slots s.rows ys (enough_after attempting.enough attempted.kept));
      }

-- ---- steps 1 and 2

-- a turn, by what is left of its first interval
turn_pruned : (col : Column) (bound : ℕ) (state : State) (i : Bound) (rest : List Bound)
    → turn_on col bound state (i ∷ rest) ≡ after_shrink col bound state rest (pruned_of col (zeros_of col state.tried) (limit bound state.error) i)
unfolding turn_on pruned_of after_shrink pick
turn_pruned col bound state i rest = go (hopeless col (limit bound state.error) i)
  where
    left : Option Bound
    left = shrunk_of col (zeros_of col state.tried) (limit bound state.error) i

    go : (b : Bool) → pick b (dropped state rest) (after_shrink col bound state rest left) ≡ after_shrink col bound state rest (pick b None left)
    go true = refl
    go false = refl

-- what is left lies inside
pruned_in : (col : Column) (z : Zeros) (b : ℕ) (i : Bound) → Held (Inside i) (pruned_of col z b i)
unfolding pruned_of
pruned_in col z b i = by_test (Held (Inside i)) (hopeless col b i) (λ _. tt) (λ _. shrunk_in_lem col z b i)

-- the table serves as the evaluator
pruned_same : (col : Column) (table : List ℕ) (z : Zeros) (b : ℕ) (i : Bound) → Held (Agree col (recorded table)) i.left
    → Held (Agree col (recorded table)) i.right → pruned_of (column.recorded_column col.places table col.gap col.small) z b i ≡ pruned_of col z b i
unfolding pruned_of
pruned_same col table z b i l r =
    sym (λ k. pick (same_hope col (recorded table) b i l r k) None (same_shrunk col (recorded table) z b i l r k))

-- ---- what is left

-- nothing is: the state stays
pub after_none : (s : Sheet) (t : Terms) (c : ℕ) (p : Standing) (xs : Words) (course : Course) (state : State) (left : Option Bound) → left ≡ None
    → Matches s t c p xs course state → Matches s t c p xs course (after_shrink (searched_column s t c) t.bound state state.queue left)
unfolding after_shrink standing_after_run
after_none s t c p xs course state left e matches =
    subst (λ (z : Option Bound). Matches s t c p xs course (after_shrink (searched_column s t c) t.bound state state.queue z)) (sym e)
    (record { standing = matches.standing; zeros = matches.zeros; queue = matches.queue; sane = matches.sane; agrees = matches.agrees })

-- an interval is: it is tried
pub after_some : (s : Sheet) (t : Terms) (c : ℕ) (p : Standing) (xs : Words) (course : Course) (state : State) (left : Option Bound) (j : Bound) → left ≡ Some j
    → Matches s t c p xs course (try_cut (searched_column s t c) t.bound state state.queue j)
    → Matches s t c p xs course (after_shrink (searched_column s t c) t.bound state state.queue left)
unfolding after_shrink
after_some s t c p xs course state left j e matches =
    subst (λ (z : Option Bound). Matches s t c p xs course (after_shrink (searched_column s t c) t.bound state state.queue z)) (sym e) matches

-- the queue of the state itself is not looked at
after_dropped : (col : Column) (bound : ℕ) (state : State) (rest : List Bound) (left : Option Bound)
    → after_shrink col bound (dropped state rest) rest left ≡ after_shrink col bound state rest left
unfolding after_shrink try_cut
after_dropped col bound state rest None = refl
after_dropped col bound state rest (Some j) = refl

-- ---- one interval

length_contents : (words : List ℕ) (q : Queue) → length (contents words q) ≡ q.waiting
unfolding contents
length_contents words q = length_table _ q.waiting

module _ (s : Sheet) (t : Terms) (c : ℕ) (xs : Words) (course : Course) (begun : Begun s t c xs) (waits : 0 < course.queue.waiting)
    (p : Standing) (stands : Stands s t c p xs course) (b : Bound) (others : Queue) (taken : record { bound = b; queue = others } ≡ popped xs.ring.now course.queue) where
  abbrev col : Column
  col = searched_column s t c

  abbrev state : State
  state = stands.state

  abbrev ring : List ℕ
  ring = xs.ring.now

  abbrev rest : List Bound
  rest = contents ring others

  fair : Feasible col (first_at s t c) (last_at s t c)
  fair = feasible_cuts s t c begun.whole begun.here begun.some

  looping : Looping col t.bound (first_at s t c) (last_at s t c) p.error
  looping = loops col t.bound (first_at s t c) (last_at s t c) p.error fair

  first_taken : (contents ring course.queue ≡ b ∷ rest) × Sane ring others
  first_taken =
      subst (λ (z : Popped). (contents ring course.queue ≡ z.bound ∷ contents ring z.queue) × Sane ring z.queue) (sym taken)
      (let p = pop_takes_first ring course.queue stands.matches.sane waits in (p.1, p.2))

  queue_is : state.queue ≡ b ∷ rest
  queue_is = sym stands.matches.queue ∙ first_taken.0

  waiting_head : Waiting col (first_at s t c) (last_at s t c) (limit t.bound state.error) state.tried b
  waiting_head =
      (subst (All (Waiting col (first_at s t c) (last_at s t c) (limit t.bound state.error) state.tried)) queue_is stands.running.kept.queue).0

  recalled : Held (Agree col (recorded xs.table.now)) b.left × Held (Agree col (recorded xs.table.now)) b.right
  recalled =
      (subst (All (λ i. Held (Agree col (recorded xs.table.now)) i.left × Held (Agree col (recorded xs.table.now)) i.right))
      queue_is
      (recalls col (recorded xs.table.now) t.bound (first_at s t c) (last_at s t c) state stands.running.kept stands.matches.agrees)).0

  -- the definition's error and zero marks are the code's
  current : course.standing.error ≡ state.error
  unfolding standing_after_run
  current = ap (λ (z : Standing). z.error) stands.matches.standing

  -- what the code prunes is what the definition prunes
  pruned_is : pruned_of (column.recorded_column (places_of s c) xs.table.now t.gap (leb t.support 1)) course.zeros (min course.standing.error t.bound) b
      ≡ pruned_of col (zeros_of col state.tried) (limit t.bound state.error) b
  pruned_is =
      (λ k. pruned_of (column.recorded_column (places_of s c) xs.table.now t.gap (leb t.support 1)) (stands.matches.zeros k) (min (current k) t.bound) b)
      ∙ pruned_same col xs.table.now (zeros_of col state.tried) (limit t.bound state.error) b recalled.0 recalled.1

  turn_is : (left : Option Bound) → pruned_of col (zeros_of col state.tried) (limit t.bound state.error) b ≡ left
      → turn col t.bound state ≡ after_shrink col t.bound state rest left
  turn_is left e = ap (turn_on col t.bound state) queue_is ∙ turn_pruned col t.bound state b rest ∙ ap (after_shrink col t.bound state rest) e

  -- without its first interval, the queue is the state's
  without_first : Matches s t c p xs (record { standing = course.standing; zeros = course.zeros; queue = others }) (dropped state rest)
  unfolding standing_after_run
  without_first =
      record {
        standing = stands.matches.standing;
        zeros = stands.matches.zeros;
        queue = refl;
        sane = first_taken.1;
        agrees = stands.matches.agrees;
      }

  -- whatever is left, the course after it stands
  stands_next : (zs : Words) (course2 : Course) (left : Option Bound)
      → pruned_of col (zeros_of col state.tried) (limit t.bound state.error) b ≡ left
      → Matches s t c p zs course2 (after_shrink col t.bound (dropped state rest) rest left)
      → Stands s t c p zs course2 × (total weight (contents zs.ring.now course2.queue) < total weight (contents ring course.queue))
  stands_next zs course2 left e matches =
      let m : Matches s t c p zs course2 (turn col t.bound state) =
      subst (Matches s t c p zs course2) (after_dropped col t.bound state rest left ∙ sym (turn_is left e)) matches in (
        record { state = turn col t.bound state; running = looping.keeps state stands.running; matches = m },
        omega (
          arith,
          ap (total weight) m.queue,
          ap (total weight) stands.matches.queue,
          looping.lighter state stands.running,
          ap (total weight) queue_is,
        ),
      )

  -- what is left can be tried
  cuts_few : (feasible_at s t c).end ≤ count_of s c
  cuts_few = end_listed s t c begun.whole begun.here

  seen_in : (k : ℕ) → Seen col (first_at s t c) (last_at s t c) (limit t.bound state.error) state.tried k → k < count_of s c
  seen_in k h = omega (arith, h.till, cuts_few, begun.some)

  attempting_next : p.tried ≤ most_columns * most_tries → (j : Bound)
      → pruned_of col (zeros_of col state.tried) (limit t.bound state.error) b ≡ Some j
      → Attempting s t c xs (record { standing = course.standing; zeros = course.zeros; queue = others }) j
  unfolding standing_after_run
  attempting_next few j e =
      let in_b : Inside b j = subst (Held (Inside b)) e (pruned_in col (zeros_of col state.tried) (limit t.bound state.error) b) in
      let rows : count_of s c < s.rows = (begun.whole.sound.column c begun.here).cuts.count_most in
      let run = waiting_head.run in
      record {
        whole = begun.whole;
        here = begun.here;
        few =
            omega (
              arith,
              few,
              ap (λ (z : Standing). z.tried) stands.matches.standing,
              stands.running.weights,
              rows,
              cuts_few,
              begun.enough.few,
            );
        enough = begun.enough;
        full = in_b.full;
        till = omega (arith, in_b.high, run.till, cuts_few, begun.some);
        left =
            subst (Held (λ k. k < count_of s c)) (sym in_b.left)
            (cut_map (λ k. (k < b.first) × Seen col (first_at s t c) (last_at s t c) (limit t.bound state.error) state.tried k) (λ k. k < count_of s c)
            (λ k h. seen_in k h.1) b.left waiting_head.left);
        right =
            subst (Held (λ k. k < count_of s c)) (sym in_b.right)
            (cut_map (λ k. (b.last ≤ k) × Seen col (first_at s t c) (last_at s t c) (limit t.bound state.error) state.tried k) (λ k. k < count_of s c)
            (λ k h. seen_in k h.1) b.right waiting_head.right);
        zero =
            subst (λ (z : Zeros). CutsNumbered (count_of s c) z.left) (sym stands.matches.zeros)
            (numbered_all col (count_of s c) state.tried
            (all_map (Seen col (first_at s t c) (last_at s t c) (limit t.bound state.error) state.tried) (λ k. k < count_of s c) seen_in state.tried
            stands.running.kept.tried));
        sane = first_taken.1;
        room =
            omega (
              arith,
              length_contents ring others,
              ap length queue_is,
              looping.waits state stands.running,
              rows,
              cuts_few,
              begun.some,
            );
      }

-- ---- a turn

-- what the code prunes, by the places that it reads
module _ (s : Sheet) (t : Terms) (c : ℕ) (xs : Words) (course : Course) (first : Popped) (turning : Turning s t c xs course first)
    (places : List ℕ) (places_are : places ≡ places_of s c)
    (left : Option Bound) (pruned : PrunedBy t places course.zeros first.bound course.standing.error xs.table.now left) where
  begun : Begun s t c xs
  begun = turning.begun

  waits : 0 < course.queue.waiting
  waits = (take_popped xs.ring.now course.queue first turning.first_is).0

  popped_is : first ≡ popped xs.ring.now course.queue
  popped_is = (take_popped xs.ring.now course.queue first turning.first_is).1

  left_is : (p : Standing) (stands : Stands s t c p xs course)
      → pruned_of (searched_column s t c) (zeros_of (searched_column s t c) stands.state.tried) (limit t.bound stands.state.error) first.bound ≡ left
  left_is p stands =
      sym (pruned_is s t c xs course begun waits p stands first.bound first.queue popped_is)
      ∙ sym (pruned (subst Ascending (sym places_are) (places_ascend s begun.whole c begun.here))
      ∙ (λ k. pruned_of (column.recorded_column (places_are k) xs.table.now t.gap (leb t.support 1)) course.zeros (min course.standing.error t.bound) first.bound))

  pub turn_attempts : (j : Bound) → left ≡ Some j → Attempting s t c xs (record { standing = course.standing; zeros = course.zeros; queue = first.queue }) j
  turn_attempts j e =
      attempting_next s t c xs course begun waits turning.from turning.stands first.bound first.queue popped_is turning.few j
      (left_is turning.from turning.stands ∙ e)

  -- a course that is the definition's after what is left is one turn on
  pub turn_done : (zs : Words) (next : Course)
      → ((p : Standing) (state : State) → Matches s t c p xs (record { standing = course.standing; zeros = course.zeros; queue = first.queue }) state
      → Matches s t c p zs next (after_shrink (searched_column s t c) t.bound state state.queue left))
      → SameWords xs zs → Turned s t c course xs next zs
  turn_done zs next follows kept =
      let same : (p : Standing) (stands : Stands s t c p xs course)
      → Stands s t c p zs next × (total weight (contents zs.ring.now next.queue) < total weight (contents xs.ring.now course.queue)) =
      λ p stands.
      stands_next s t c xs course begun waits p stands first.bound first.queue popped_is zs next left (left_is p stands)
      (follows p (dropped stands.state (contents xs.ring.now first.queue))
      (without_first s t c xs course begun waits p stands first.bound first.queue popped_is)) in
      record { stands = λ p stands. (same p stands).0; lighter = (same turning.from turning.stands).1; kept = kept }
