-- `visit` meets its contract. Where w is unseen, the room asked for leaves a place in the queue.
-- Assumes nothing.
use native.Mathlib.Omega.{arith}
use Rattle.search.specs.Searches.{first, again}
use Rattle.search.proofs.Counts.{unseen-set}
use Rattle.search.proofs.visit.Goals as goal

pub bounds-queue-tail : goal.bounds-queue-tail
bounds-queue-tail c = omega (arith, unseen-set c.args.seen.now c.args.w c.args.count c.requires.w_in_bounds c.requires.count_lt_unreached c.if-seen-v-ge-UNREACHED.true)

pub returns-then-seen-v-ge-UNREACHED : goal.returns-then-seen-v-ge-UNREACHED
returns-then-seen-v-ge-UNREACHED c = first c.if-seen-v-ge-UNREACHED.true

pub returns : goal.returns
returns c = again (omega arith)
