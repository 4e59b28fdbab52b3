-- `column_turns::try_interval` meets its contract. The middle of an interval of listed cuts is a listed cut; the rest is `Steps`.
use mathlib.Core.Path.{sym, ap, ◌∙◌, subst}
use Prim.Native.Nat.{ℕ}
use native.Mathlib.Omega.{arith}
use mathlib.Core.List.{List, ◌++◌, []}
use Rattle.basics.specs.Choice.{pick}
use Rattle.sheet.specs.Sheet.{Sheet}
use Rattle.sheet.specs.Lent.{sheet_in}
use Rattle.interval_queue.specs.Ring.{contents}
use Rattle.column_search.specs.Search.{middle, try_cut}
use Rattle.column_turns.specs.declared.interval_steps.Standing.{Standing}
use Rattle.column_turns.specs.declared.Words.{Words}
use Rattle.column_turns.specs.Try.{searched_column}
use Rattle.column_turns.specs.Steps.{reach_of}
use Rattle.column_turns.specs.Parts.{PartsWaiting, parts_queued}
use Rattle.column_turns.specs.Course.{Matches}
use Rattle.column_turns.proofs.Lent.{same_then}
use Rattle.column_turns.proofs.Places.{placed_in}
use Rattle.column_turns.proofs.Steps.{matches_next}
use Rattle.column_turns.proofs.Turns.{to_try, to_part, middle_row}
use Rattle.column_turns.proofs.try_interval.Goals as goal

pub overflow_add-cut : goal.overflow_add-cut
overflow_add-cut c =
    let start = c in
    let pre = start.requires in
    record { fits = omega (arith, pre.full, pre.till, (pre.whole.sound.column start.args.column pre.here).cuts.count_most, pre.enough.few) }

pub try_and_keep-tried-requires : goal.try_and_keep-tried-requires
try_and_keep-tried-requires c =
    let start = c in
    let a = start.args in
    to_try (sheet_in a.sheet.now) a.terms a.column a.words.now a.course a.bound start.requires

pub places_of-places-requires : goal.places_of-places-requires
places_of-places-requires c =
    let start = c in
    let a = start.args in
    placed_in a.sheet.now a.column start.requires.whole start.requires.here

pub next_queue-queue-requires : goal.next_queue-queue-requires
next_queue-queue-requires c =
    let start = c in
    let a = start.args in
    let tried = c.try_and_keep-tried in
    let ys : Words = tried.new.words in
    subst (λ (l : List ℕ). PartsWaiting l (record { bound = a.bound; cut = middle a.bound; zeros = tried.result.zeros; reach = c.reach_of-reach.result }) a.course.queue ys)
    (sym (c.places_of-places.ensures))
    (to_part (sheet_in a.sheet.now) a.terms a.column a.words.now a.course a.bound start.requires ys tried.result c.reach_of-reach.result tried.ensures)

pub returns : goal.returns
returns c =
    let start = c in
    let a = start.args in
    let tried = c.try_and_keep-tried in
    let ys : Words = tried.new.words in
    let call = c.next_queue-queue in
    let zs : Words = call.new.words in
    let next = c.improved-standing.ensures in
    let places = c.places_of-places.ensures in
    let reach = c.reach_of-reach.ensures ∙ ap (λ (z : Standing). reach_of a.terms tried.result.tree.error z.error) next in
    let over = c.ends_column-over.ensures in
    let attempted = tried.ensures in
    let queued = call.ensures in
    let s : Sheet = sheet_in a.sheet.now in
    let waiting = queued.contents_are ∙ (λ k. pick (over k) []
    (contents ys.ring.now a.course.queue
    ++ parts_queued (places k) (reach k).gap (reach k).small tried.result.zeros (reach k).excess (middle a.bound) a.bound)) in
    record {
      matches = λ p state matches.
          subst (λ (z : Standing). Matches s a.terms a.column p zs (record { standing = z; zeros = tried.result.zeros; queue = call.result })
          (try_cut (searched_column s a.terms a.column) a.terms.bound state state.queue a.bound)) (sym next)
          (matches_next s a.terms a.column p a.words.now ys zs a.course state a.bound tried.result call.result start.requires.enough
          (middle_row (sheet_in a.sheet.now) a.terms a.column a.words.now a.course a.bound start.requires)
          matches attempted queued.table_is waiting queued.sane);
      kept = same_then attempted.kept queued.kept;
    }
