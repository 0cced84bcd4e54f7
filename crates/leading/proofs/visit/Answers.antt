-- `visit` meets its contract. Where w is unseen, the room asked for leaves a place in the queue.
-- Assumes nothing.
use Prim.Native.Nat.{◌<◌}
use native.Mathlib.Omega.{arith}
use Rattle.search.specs.Searches.{Unseen}
use Rattle.search.proofs.Counts.{unseen-set}
use Rattle.leading.specs.Leads.{first, again}
use Rattle.leading.proofs.visit.Goals as goal

pub place-requires : goal.place-requires
place-requires c =
    let room : Unseen c.args.seen.now c.args.w → c.args.tail < c.args.n = λ e. omega (arith, c.requires.seen_bound, unseen-set c.args.seen.now c.args.w c.args.c c.requires.w_in_bounds c.requires.c_lt_unreached e) in
    room c.if-seen-v-ge-UNREACHED.true

pub returns-then-seen-v-ge-UNREACHED : goal.returns-then-seen-v-ge-UNREACHED
returns-then-seen-v-ge-UNREACHED c = rw c.place.ensures.value (first c.if-seen-v-ge-UNREACHED.true)

pub returns : goal.returns
returns c = again (omega arith)
