-- A try of an interval in code does what the definition's does: the tree is the cut's, its errors are the table's from then on, and the queue's parts are
-- step 5's. Assumes nothing.
use mathlib.Core.Path.{◌≡◌, refl, sym, ap, ◌∙◌, subst}
use Prim.Native.Nat.{ℕ, suc, ◌+◌, ◌-◌, ◌*◌, ◌<◌, min}
use native.Mathlib.Omega.{arith}
use mathlib.Core.Option.{Option as Maybe, some}
use mathlib.Core.List.{List, [], ◌∷◌, ◌++◌}
use lib.ListN.{length}
use lib.Dec.{leb, ltb, eqb, ltb→lt, nltb→le, eqb→eq}
use Rattle.basics.specs.Choice.{pick}
use Rattle.basics.specs.Lists.{All}
use Rattle.basics.proofs.Choice.{decide, pick_true, pick_false, neqb}
use Rattle.basics.proofs.Lists.{all_map}
use Rattle.sheet.specs.declared.Terms.{Terms}
use Rattle.sheet.specs.Sheet.{Sheet, places_of}
use Rattle.leaves_score.specs.Root.{errors_at}
use Rattle.interval_pruner.specs.declared.Bound.{Bound}
use Rattle.interval_pruner.specs.declared.Zeros.{Zeros}
use Rattle.interval_pruner.specs.declared.Parts.{Parts}
use Rattle.interval_pruner.specs.Column.{Column, left_error, right_error, error_of, recorded}
use Rattle.interval_pruner.specs.Pruner.{zeros_after, recorded_after}
use Rattle.interval_pruner.proofs.Results.{recorded_here, recorded_other}
use Rattle.interval_queue.specs.declared.Queue.{Queue}
use Rattle.interval_queue.specs.Ring.{contents}
use Rattle.interval_queue.specs.Laws.{Sane}
use Rattle.column_search.specs.Search.{State, limit, zeros_of, middle, part, upper_part, lower_part, queued, try_cut, tries_of}
use Rattle.column_search.specs.Laws.{Agree}
use Rattle.column_search.proofs.Same.{same_parts}
use Rattle.std.specs.Prelude.{Option, Some}
use Rattle.tree.specs.declared.Tree.{Tree}
use Rattle.column_turns.specs.declared.interval_steps.Standing.{Standing}
use Rattle.column_turns.specs.declared.Course.{Course}
use Rattle.column_turns.specs.declared.Attempt.{Attempt}
use Rattle.column_turns.specs.declared.Words.{Words}
use Rattle.column_turns.specs.Try.{searched_column, tree_at, tried_tree}
use Rattle.column_turns.specs.Ready.{EnoughWords}
use Rattle.column_turns.specs.Steps.{improved_by, ends_column}
use Rattle.column_turns.specs.Parts.{parts_queued}
use Rattle.column_turns.specs.Promise.{held_after, standing_after_run}
use Rattle.column_turns.specs.Course.{Attempted, Matches}

-- ---- the table

agree_after : (c : Column) (t : List ℕ) (k : ℕ) → 2 * k + 1 < length t → (j : ℕ) → Agree c (recorded t) j
    → Agree c (recorded (recorded_after t k (c.errors k).0 (c.errors k).1)) j
agree_after c t k h j g =
    decide (eqb j k)
    (λ y. let e : j ≡ k = eqb→eq j k y in
    ap (λ (n : ℕ). c.errors n) e ∙ sym (recorded_here t k (c.errors k).0 (c.errors k).1 h)
    ∙ ap (recorded (recorded_after t k (c.errors k).0 (c.errors k).1)) (sym e))
    (λ y. g ∙ sym (recorded_other t k (c.errors k).0 (c.errors k).1 j (neqb j k y)))

-- ---- the tree held

held_next : (s : Sheet) (support c m e error : ℕ) (best : Maybe ℕ) (held : Option Tree) → e ≡ (errors_at s support c m).0 + (errors_at s support c m).1
    → pick (ltb e error) (Some (tried_tree s support c m)) (held_after s support c best error held)
    ≡ held_after s support c (pick (ltb e error) (some m) best) (min e error) held
unfolding pick held_after tried_tree
held_next s support c m e error best held same =
    decide (ltb e error)
    (λ y. let lower : e ≡ min e error = omega (arith, ltb→lt e error y) in
    pick_true (ltb e error) (Some (tried_tree s support c m)) (held_after s support c best error held) y
    ∙ ap (λ (n : ℕ). Some (tree_at s support c m n)) (sym same ∙ lower)
    ∙ sym (ap (λ (o : Maybe ℕ). held_after s support c o (min e error) held) (pick_true (ltb e error) (some m) best y)))
    (λ y. let stays : error ≡ min e error = omega (arith, nltb→le e error y) in
    pick_false (ltb e error) (Some (tried_tree s support c m)) (held_after s support c best error held) y
    ∙ ap (λ (n : ℕ). held_after s support c best n held) stays
    ∙ sym (ap (λ (o : Maybe ℕ). held_after s support c o (min e error) held) (pick_false (ltb e error) (some m) best y)))

-- ---- step 5

parts_queued_lem : (c : Column) (z : Zeros) (b m : ℕ) (i : Bound)
    → parts_queued c.places c.gap c.small z (error_of c m - b) m i ≡ queued c z b m i
unfolding parts_queued queued
parts_queued_lem c z b m i =
    ap (λ (p : Parts). pick (eqb i.first i.last) [] (part (upper_part i m p.upper) ++ part (lower_part i m p.lower)))
    (sym (same_parts c (recorded []) z (error_of c m - b) m i.first))

-- ---- a try of an interval

module _ (s : Sheet) (t : Terms) (c : ℕ) (p : Standing) (xs ys zs : Words) (course : Course) (state : State) (i : Bound) (tried : Attempt)
    (queue : Queue) (enough : EnoughWords s.rows xs) (inside : middle i < s.rows) (matches : Matches s t c p xs course state)
    (attempted : Attempted s t.support c (middle i) course.zeros xs ys tried)
    (table_is : zs.table.now ≡ ys.table.now)
    (waiting : contents zs.ring.now queue
    ≡ pick (ends_column tried.tree.error course.standing.error) []
    (contents ys.ring.now course.queue
    ++ parts_queued (places_of s c) t.gap (leb t.support 1) tried.zeros
    (tried.tree.error - min (improved_by course.standing tried.tree).error t.bound) (middle i) i))
    (sane : Sane zs.ring.now queue) where
  abbrev col : Column
  col = searched_column s t c

  abbrev m : ℕ
  m = middle i

  error_is : tried.tree.error ≡ error_of col m
  unfolding left_error right_error tried_tree tree_at
  error_is = ap (λ z. z.error) attempted.tree

  whole_error : error_of col m ≡ (errors_at s t.support c m).0 + (errors_at s t.support c m).1
  unfolding left_error right_error
  whole_error = refl

  tree_error : (tried_tree s t.support c m).error ≡ error_of col m
  unfolding left_error right_error tried_tree tree_at
  tree_error = refl

  current_is : course.standing.error ≡ state.error
  unfolding standing_after_run
  current_is = ap (λ (z : Standing). z.error) matches.standing

  zeros_next : tried.zeros ≡ zeros_of col (m ∷ state.tried)
  unfolding zeros_of left_error right_error
  zeros_next = attempted.zeros_are ∙ ap (λ (z : Zeros). zeros_after z m (errors_at s t.support c m).0 (errors_at s t.support c m).1) matches.zeros

  standing_next : improved_by course.standing tried.tree ≡ standing_after_run s t.support c p (try_cut col t.bound state state.queue i)
  unfolding improved_by standing_after_run try_cut
  standing_next =
      let h = held_next s t.support c m (error_of col m) state.error state.best p.held whole_error in
      let n : p.tried + tries_of state + 1 ≡ p.tried + suc (tries_of state) = omega arith in
      (λ k. improved_by (matches.standing k) (attempted.tree k))
      ∙ ap (λ (e : ℕ). record {
        error = min e state.error;
        tried = p.tried + tries_of state + 1;
        held = pick (ltb e state.error) (Some (tried_tree s t.support c m)) (held_after s t.support c state.best state.error p.held);
      }) tree_error
      ∙ (λ k. record { error = min (error_of col m) state.error; tried = n k; held = h k })

  -- B after step 4
  limit_is : min (improved_by course.standing tried.tree).error t.bound ≡ limit t.bound (min (error_of col m) state.error)
  unfolding improved_by
  limit_is = λ k. min (min (error_is k) (current_is k)) t.bound

  queue_next : contents zs.ring.now queue ≡ (try_cut col t.bound state state.queue i).queue
  unfolding try_cut
  queue_next =
      waiting
      ∙ (λ k. pick (ends_column (error_is k) (current_is k)) []
      (contents (attempted.ring_is k) course.queue
      ++ parts_queued (places_of s c) t.gap (leb t.support 1) (zeros_next k) (error_is k - limit_is k) m i))
      ∙ (λ k. pick (ends_column (error_of col m) state.error) []
      (matches.queue k
      ++ parts_queued_lem col (zeros_of col (m ∷ state.tried)) (limit t.bound (min (error_of col m) state.error)) m i k))

  agrees_next : All (Agree col (recorded zs.table.now)) (m ∷ state.tried)
  agrees_next =
      let table : List ℕ = xs.table.now in
      let after : List ℕ = recorded_after table m (errors_at s t.support c m).0 (errors_at s t.support c m).1 in
      let same : zs.table.now ≡ after = table_is ∙ attempted.table_is in
      let fits : 2 * m + 1 < length table = omega (arith, enough.table_size) in
      subst (λ (l : List ℕ). All (Agree col (recorded l)) (m ∷ state.tried)) (sym same) (
        sym (recorded_here table m (errors_at s t.support c m).0 (errors_at s t.support c m).1 fits),
        all_map (Agree col (recorded table)) (Agree col (recorded after)) (λ j g. agree_after col table m fits j g) state.tried matches.agrees,
      )

  pub matches_next : Matches s t c p zs (record { standing = improved_by course.standing tried.tree; zeros = tried.zeros; queue = queue })
      (try_cut col t.bound state state.queue i)
  unfolding try_cut
  matches_next = record { standing = standing_next; zeros = zeros_next; queue = queue_next; sane = sane; agrees = agrees_next }
