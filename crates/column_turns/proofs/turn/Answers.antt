-- `column_turns::turn` meets its contract. The first interval is the queue's head; pruned by the table it is pruned by the evaluator; the rest is `Turns`.
use Rattle.sheet.specs.Sheet.{Sheet}
use Rattle.sheet.specs.Lent.{sheet_in}
use Rattle.column_turns.specs.declared.Course.{Course}
use Rattle.column_turns.proofs.Lent.{same_words}
use Rattle.column_turns.proofs.Places.{placed_in}
use Rattle.column_turns.proofs.Turns.{after_none, after_some, turn_attempts, turn_done}
use Rattle.column_turns.proofs.turn.Goals as goal

pub places_of-places-requires : goal.places_of-places-requires
places_of-places-requires c =
    let start = c in
    let a = start.args in
    placed_in a.sheet.now a.column start.requires.begun.whole start.requires.begun.here

-- nothing is left of the interval
pub returns-in_default : goal.returns-in_default
returns-in_default c =
    let start = c in
    let a = start.args in
    let s : Sheet = sheet_in a.sheet.now in
    let pruned = c.prune-pruned in
    let next : Course = record { standing = a.course.standing; zeros = a.course.zeros; queue = a.first.queue } in
    turn_done s a.terms a.column a.words.now a.course a.first start.requires _ c.places_of-places.ensures pruned.result pruned.ensures a.words.now next
    (λ p state matches. after_none s a.terms a.column p a.words.now next state pruned.result c.in_default.is matches)
    (same_words a.words.now)

pub try_interval-requires : goal.try_interval-requires
try_interval-requires c =
    let start = c in
    let a = start.args in
    let pruned = c.prune-pruned in
    turn_attempts (sheet_in a.sheet.now) a.terms a.column a.words.now a.course a.first start.requires _ c.places_of-places.ensures pruned.result pruned.ensures
    c.in-Some.left c.in-Some.is

pub returns : goal.returns
returns c =
    let start = c in
    let a = start.args in
    let s : Sheet = sheet_in a.sheet.now in
    let pruned = c.prune-pruned in
    let tried = c.try_interval in
    turn_done s a.terms a.column a.words.now a.course a.first start.requires _ c.places_of-places.ensures pruned.result pruned.ensures
    tried.new.words tried.result
    (λ p state matches. after_some s a.terms a.column p tried.new.words tried.result state pruned.result c.in-Some.left c.in-Some.is (tried.ensures.matches p state matches))
    tried.ensures.kept
