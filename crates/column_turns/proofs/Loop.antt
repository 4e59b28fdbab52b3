-- A column's loop begins with the definition's first state and ends with its run's. Assumes nothing.
use mathlib.Core.Path.{◌≡◌, sym, ap, ◌∙◌, subst}
use Prim.Native.Nat.{ℕ, ◌+◌, ◌≤◌, ◌<◌}
use native.Mathlib.Omega.{arith}
use mathlib.Core.List.{List, []}
use lib.Dec.{ltb, lt→ltb}
use Rattle.basics.specs.Lists.{table}
use Rattle.basics.proofs.Choice.{pick_true, pick_false, nltb}
use Rattle.sheet.specs.declared.Terms.{Terms}
use Rattle.sheet.specs.Limits.{most_rows}
use Rattle.sheet.specs.Sheet.{Sheet, places_of}
use Rattle.cuts.specs.declared.Run.{Run}
use Rattle.cuts.specs.Lookups.{Ascending}
use Rattle.cuts.specs.Feasible.{feasible_of}
use Rattle.std.specs.Prelude.{None}
use Rattle.interval_pruner.specs.Column.{Column}
use Rattle.interval_queue.specs.declared.Queue.{Queue}
use Rattle.interval_queue.specs.Ring.{slots_of, contents}
use Rattle.column_search.specs.Search.{zeros_of, start, column_run}
use Rattle.column_search.specs.Laws.{Feasible}
use Rattle.column_search.specs.Loop.{Looping}
use Rattle.column_search.proofs.Count.{loops}
use Rattle.column_turns.specs.declared.interval_steps.Standing.{Standing}
use Rattle.column_turns.specs.declared.Course.{Course}
use Rattle.column_turns.specs.declared.Words.{Words}
use Rattle.column_turns.specs.Ready.{SameWords}
use Rattle.column_turns.specs.Try.{searched_column}
use Rattle.column_turns.specs.Parts.{Pushing}
use Rattle.column_turns.specs.Promise.{Whole, held_after, standing_after_run, feasible_at, first_at, last_at, standing_after_column}
use Rattle.column_turns.specs.Course.{Stands, Begun, Opened}
use Rattle.column_turns.proofs.Lent.{enough_after}
use Rattle.column_turns.proofs.Places.{places_ascend}
use Rattle.column_turns.proofs.Turns.{feasible_cuts}

-- ---- the first interval

pub first_pushing : (first last : ℕ) (words : Words) → 1 ≤ slots_of words.ring.now → first ≤ last → last < most_rows
    → Pushing words (record { head = 0; waiting = 0 }) (record { first = first; last = last; left = None; right = None })
first_pushing first last words some h l =
    record {
      sane = record { head_in = omega arith; few = omega arith };
      room = omega arith;
      small = λ _. record { first = omega arith; last = omega arith; left = tt; right = tt };
    }

pub none_waits : (words : List ℕ) (q : Queue) → q.waiting ≤ 0 → contents words q ≡ []
unfolding contents
none_waits words q h = let z : q.waiting ≡ 0 = omega arith in ap (table _) z

-- ---- the loop

module _ (s : Sheet) (t : Terms) (c : ℕ) (p : Standing) (xs : Words) (course : Course) (begun : Begun s t c xs) where
  abbrev col : Column
  col = searched_column s t c

  fair : Feasible col (first_at s t c) (last_at s t c)
  fair = feasible_cuts s t c begun.whole begun.here begun.some

  looping : Looping col t.bound (first_at s t c) (last_at s t c) p.error
  looping = loops col t.bound (first_at s t c) (last_at s t c) p.error fair

  -- the loop begins with the run's first state
  pub opened_stands : Opened xs (first_at s t c) (last_at s t c) p course → Stands s t c p xs course
  unfolding standing_after_run held_after zeros_of
  opened_stands o =
      let n : p.tried ≡ p.tried + 0 = omega arith in
      record {
        state = start (first_at s t c) (last_at s t c) p.error;
        running = looping.begins;
        matches =
            record {
              standing = o.standing_is ∙ (λ k. record { error = p.error; tried = n k; held = p.held });
              zeros = o.zeros;
              queue = o.queue;
              sane = o.sane;
              agrees = tt;
            };
      }

  -- and ends with its last
  pub stands_done : Stands s t c p xs course → course.queue.waiting ≤ 0
      → course.standing ≡ standing_after_run s t.support c p (column_run col t.bound (first_at s t c) (last_at s t c) p.error)
  stands_done stands h =
      stands.matches.standing
      ∙ ap (standing_after_run s t.support c p)
      (looping.done stands.state stands.running (sym stands.matches.queue ∙ none_waits xs.ring.now course.queue h))

pub begun_after : (s : Sheet) (t : Terms) (c : ℕ) (xs ys : Words) → Begun s t c xs → SameWords xs ys → Begun s t c ys
begun_after s t c xs ys begun k =
    record { whole = begun.whole; here = begun.here; some = begun.some; enough = enough_after begun.enough k }

-- ---- whether there is a feasible cut

-- the feasible cuts, by the places and the support that the code reads
pub feasible_is : (s : Sheet) (t : Terms) (c : ℕ) → Whole s → c < s.columns → (places : List ℕ) (support : ℕ) (run : Run) → places ≡ places_of s c → support ≡ t.support
    → (Ascending places → run ≡ feasible_of places s.rows support) → run ≡ feasible_at s t c
feasible_is s t c whole here places support run places_are support-is found =
    found (subst Ascending (sym places_are) (places_ascend s whole c here)) ∙ (λ k. feasible_of (places_are k) s.rows (support-is k))

pub column_none : (s : Sheet) (t : Terms) (c : ℕ) (p : Standing) → (feasible_at s t c).end ≤ first_at s t c → p ≡ standing_after_column s t c p
unfolding standing_after_column
column_none s t c p h = sym (pick_false (ltb (first_at s t c) (feasible_at s t c).end) _ p (nltb (first_at s t c) (feasible_at s t c).end h))

pub column_some : (s : Sheet) (t : Terms) (c : ℕ) (p : Standing) → first_at s t c < (feasible_at s t c).end
    → standing_after_run s t.support c p (column_run (searched_column s t c) t.bound (first_at s t c) (last_at s t c) p.error) ≡ standing_after_column s t c p
unfolding standing_after_column
column_some s t c p h = sym (pick_true (ltb (first_at s t c) (feasible_at s t c).end) _ p (lt→ltb (first_at s t c) (feasible_at s t c).end h))
