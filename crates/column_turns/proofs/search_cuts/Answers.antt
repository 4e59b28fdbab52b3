use mathlib.Core.Path.{refl, sym, ap, ◌∙◌, subst}
use Prim.Native.Nat.{◌-◌}
use native.Mathlib.Omega.{arith}
use Rattle.sheet.specs.Sheet.{Sheet}
use Rattle.sheet.specs.Lent.{sheet_in}
use Rattle.cuts.specs.declared.Run.{Run}
use Rattle.column_search.specs.Search.{column_run}
use Rattle.interval_queue.proofs.Cases.{take_all}
use Rattle.column_turns.specs.declared.Words.{Words}
use Rattle.column_turns.specs.declared.interval_steps.Standing.{Standing}
use Rattle.column_turns.specs.Promise.{first_at, last_at, standing_after_run}
use Rattle.column_turns.specs.Try.{searched_column}
use Rattle.column_turns.specs.Course.{Opened}
use Rattle.column_turns.proofs.Lent.{same_words, same_then}
use Rattle.column_turns.proofs.Queueing.{ring_slots}
use Rattle.column_turns.proofs.Turns.{end_listed}
use Rattle.column_turns.proofs.Loop.{opened_stands, stands_done, begun_after}
use Rattle.column_turns.proofs.search_cuts.Goals as goal

pub begin_column-course-requires : goal.begin_column-course-requires
begin_column-course-requires c =
    let start = c in
    let a = start.args in
    let pre = start.requires in
    let b = pre.begun in
    let f = pre.feasible in
    let s : Sheet = sheet_in a.sheet.now in
    let end = end_listed s a.terms a.column b.whole b.here in (
      omega (arith, ring_slots s.rows a.words.now b.enough, b.enough.some),
      omega (arith, ap (λ (z : Run). z.first) f, ap (λ (z : Run). z.end) f, b.some),
      omega (arith, ap (λ (z : Run). z.end) f, b.some, end, (b.whole.sound.column a.column b.here).cuts.count_most, b.enough.few),
    )

pub loop-first-init : goal.loop-first-init
loop-first-init c =
    let start = c in
    let a = start.args in
    let pre = start.requires in
    let s : Sheet = sheet_in a.sheet.now in
    let opened = c.begin_column-course in
    let xs : Words = opened.new.words in
    let o = subst (λ (z : Run). Opened xs z.first (z.end - 1) a.standing opened.result) pre.feasible opened.ensures.opened in
    let from : Opened xs (first_at s a.terms a.column) (last_at s a.terms a.column) opened.result.standing opened.result =
    record { standing_is = refl; zeros = o.zeros; queue = o.queue; sane = o.sane } in
    let here = begun_after s a.terms a.column a.words.now xs pre.begun opened.ensures.lent in (
      here,
      omega (arith, ap (λ (z : Standing). z.tried) o.standing_is, pre.few),
      opened_stands s a.terms a.column opened.result.standing xs opened.result here from,
      same_words xs,
    )

pub returns : goal.returns
returns c =
    let a = c.args in
    let s : Sheet = sheet_in a.sheet.now in
    let opened = c.begin_column-course in
    let loop = c.loop-first in
    let inv = loop.invariant in
    let empty = take_all loop.words.ring.now loop.course.queue inv.2.matches.sane.head_in (sym c.next_interval.ensures ∙ c.in_default.is) in
    record {
      standing_is =
          stands_done s a.terms a.column opened.result.standing loop.words loop.course inv.0 inv.2 empty
          ∙ ap (λ (p : Standing). standing_after_run s a.terms.support a.column p
          (column_run (searched_column s a.terms a.column) a.terms.bound (first_at s a.terms a.column) (last_at s a.terms a.column) p.error))
          opened.ensures.opened.standing_is;
      kept = same_then opened.ensures.lent inv.3;
    }
