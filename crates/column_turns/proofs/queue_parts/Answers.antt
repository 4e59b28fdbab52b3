-- `column_turns::queue_parts` meets its contract. One part after the other; there is room for both.
use mathlib.Core.Path.{sym, ap, ◌∙◌, subst}
use native.Mathlib.Omega.{arith}
use mathlib.Core.List.{[]}
use Rattle.interval_pruner.specs.declared.Bound.{Bound}
use Rattle.interval_pruner.specs.declared.Parts.{Parts}
use Rattle.interval_pruner.specs.Column.{recorded_column}
use Rattle.interval_pruner.specs.Pruner.{parts_of}
use Rattle.column_search.specs.Search.{part, upper_part, lower_part}
use Rattle.column_turns.specs.declared.Words.{Words}
use Rattle.column_turns.specs.Parts.{Pushing, Queued}
use Rattle.column_turns.proofs.Queueing.{none_queued, both_queued, upper_pushing, lower_pushing, parts_none, parts_both}
use Rattle.column_turns.proofs.queue_parts.Goals as goal

pub returns-then-bound : goal.returns-then-bound
returns-then-bound c =
    let start = c in
    let a = start.args in
    none_queued a.words.now a.queue _ start.requires.sane (parts_none a.places.now a.parting a.queue a.words.now start.requires c.if-bound.true)

pub queue_part-more-requires : goal.queue_part-more-requires
queue_part-more-requires c =
    let start = c in
    let a = start.args in
    let p : Parts = parts_of (recorded_column a.places.now [] a.parting.reach.gap a.parting.reach.small) a.parting.zeros a.parting.reach.excess a.parting.cut a.parting.bound.first in
    let e = c.neighbourhood_pruning-parts.ensures (record { ascending = start.requires.ascending; cut = omega (arith, start.requires.to_last, start.requires.till); zero = start.requires.zero }) in
    let upper = c.upper_part-upper.ensures ∙ ap (λ (z : Parts). upper_part a.parting.bound a.parting.cut z.upper) e in
    subst (Pushing a.words.now a.queue) (sym upper) (upper_pushing a.places.now a.parting a.queue a.words.now start.requires)

pub queue_part-requires : goal.queue_part-requires
queue_part-requires c =
    let start = c in
    let a = start.args in
    let p : Parts = parts_of (recorded_column a.places.now [] a.parting.reach.gap a.parting.reach.small) a.parting.zeros a.parting.reach.excess a.parting.cut a.parting.bound.first in
    let e = c.neighbourhood_pruning-parts.ensures (record { ascending = start.requires.ascending; cut = omega (arith, start.requires.to_last, start.requires.till); zero = start.requires.zero }) in
    let upper = c.upper_part-upper.ensures ∙ ap (λ (z : Parts). upper_part a.parting.bound a.parting.cut z.upper) e in
    let lower = c.lower_part-lower.ensures ∙ ap (λ (z : Parts). lower_part a.parting.bound a.parting.cut z.lower) e in
    let call = c.queue_part-more in
    let ys : Words = call.new.words in
    let first : Queued a.words.now ys a.queue call.result (part (upper_part a.parting.bound a.parting.cut p.upper)) =
    subst (λ (z : Bound). Queued a.words.now ys a.queue call.result (part z)) upper call.ensures in
    subst (Pushing ys call.result) (sym lower) (lower_pushing a.places.now a.parting a.queue a.words.now start.requires ys call.result first)

pub returns : goal.returns
returns c =
    let start = c in
    let a = start.args in
    let p : Parts = parts_of (recorded_column a.places.now [] a.parting.reach.gap a.parting.reach.small) a.parting.zeros a.parting.reach.excess a.parting.cut a.parting.bound.first in
    let e = c.neighbourhood_pruning-parts.ensures (record { ascending = start.requires.ascending; cut = omega (arith, start.requires.to_last, start.requires.till); zero = start.requires.zero }) in
    let upper = c.upper_part-upper.ensures ∙ ap (λ (z : Parts). upper_part a.parting.bound a.parting.cut z.upper) e in
    let lower = c.lower_part-lower.ensures ∙ ap (λ (z : Parts). lower_part a.parting.bound a.parting.cut z.lower) e in
    let call = c.queue_part-more in
    let ys : Words = call.new.words in
    let first : Queued a.words.now ys a.queue call.result (part (upper_part a.parting.bound a.parting.cut p.upper)) =
    subst (λ (z : Bound). Queued a.words.now ys a.queue call.result (part z)) upper call.ensures in
    let last = c.queue_part in
    let zs : Words = last.new.words in
    let second : Queued ys zs call.result last.result (part (lower_part a.parting.bound a.parting.cut p.lower)) =
    subst (λ (z : Bound). Queued ys zs call.result last.result (part z)) lower last.ensures in
    rw (parts_both a.places.now a.parting a.queue a.words.now start.requires (λ h. absurd (omega (arith, h, c.if-bound.false))))
    (both_queued a.words.now ys zs a.queue call.result last.result _ _ first second)
