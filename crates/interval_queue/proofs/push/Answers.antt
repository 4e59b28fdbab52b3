-- `interval_queue::push` meets its contract where it refuses; the rest the check finds.
use native.Mathlib.Omega.{arith}
use Rattle.interval_queue.proofs.Cases.{push_out, push_full}
use Rattle.interval_queue.proofs.push.Goals as goal

pub returns-then-slots-head : goal.returns-then-slots-head
returns-then-slots-head c = push_out c.args.words.now c.args.queue c.args.bound (omega arith)

pub returns-then-slots-waiting : goal.returns-then-slots-waiting
returns-then-slots-waiting c = push_full c.args.words.now c.args.queue c.args.bound (omega arith)
