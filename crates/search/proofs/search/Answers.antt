-- `search` meets its contract. The loop's invariant is `Searching`: all that is seen is reached, and stands in the queue from place `at` on or leads only to what is
-- seen; and `Counting`: the counts are those of walks, and none of what no longer waits leads to a count of more than one more.
-- The measure is what is left of the queue.
-- Assumes nothing.
use Prim.Native.Nat.{ℕ, ◌+◌, ◌<◌}
use mathlib.Core.Path.{refl, ◌∙◌}
use native.Mathlib.Omega.{arith}
use lib.ListN.{get_or}
use Rattle.half_edges.specs.Ends.{arcs_of, sided, Next}
use Rattle.half_edges.proofs.Halves.{arc-below}
use Rattle.distances.specs.Distances.{unreached}
use Rattle.search.proofs.Fronts.{begins, scans, count-below, counts-begin, counts-on, counts_end}
use Rattle.search.proofs.search.Goals as goal

pub loop-at-init : goal.loop-at-init
loop-at-init c = (
  begins c.args.seen.now c.requires.seen-room c.requires.queue-room c.requires.starts refl c.begin-tail.ensures,
  counts-begin c.args.seen.now c.requires.seen-room c.requires.queue-room c.requires.starts c.begin-tail.ensures,
  refl,
  refl,
)

pub scan-tail-requires : goal.scan-tail-requires
scan-tail-requires c =
    let count_fits : get_or c.loop-at.seen (get_or c.loop-at.queue c.loop-at.at 0) 0 + 1 < unreached = omega (arith, count-below c.loop-at.invariant.1 (get_or c.loop-at.queue c.loop-at.at 0) (c.loop-at.invariant.0.sound.basins c.loop-at.at c.loop-at-test.true) (c.loop-at.invariant.1.queued c.loop-at.at c.loop-at-test.true), c.requires.few-basins) in
    record {
      ways-room = c.requires.ways-room;
      seen-room = c.loop-at.invariant.0.sound.long;
      waiting = c.loop-at-test.true;
      basin = c.loop-at.invariant.0.sound.basins c.loop-at.at c.loop-at-test.true;
      room = c.loop-at.invariant.0.sound.room;
      counts = omega (arith, c.count_after-count.ensures, count_fits);
    }

pub loop-at-preserved : goal.loop-at-preserved
loop-at-preserved c =
    let leads-in : (u w : ℕ) → Next (arcs_of c.args.graph.now.a.now c.args.graph.now.b.now (sided c.args.against c.args.ways.now)) u w → w < c.args.graph.now.basins = λ u. λ w. λ m. arc-below c.args.graph.now.a.now c.args.graph.now.b.now (sided c.args.against c.args.ways.now) c.args.graph.now.basins u w c.args.graph.now.table m in
    let count_fits : get_or c.loop-at.seen (get_or c.loop-at.queue c.loop-at.at 0) 0 + 1 < unreached = omega (arith, count-below c.loop-at.invariant.1 (get_or c.loop-at.queue c.loop-at.at 0) (c.loop-at.invariant.0.sound.basins c.loop-at.at c.loop-at-test.true) (c.loop-at.invariant.1.queued c.loop-at.at c.loop-at-test.true), c.requires.few-basins) in
    let few : c.count_after-count.result < unreached = omega (arith, c.count_after-count.ensures, count_fits) in (
      scans (leads-in) few c.loop-at-test.true c.loop-at.invariant.0 c.scan-tail.ensures,
      counts-on (leads-in) few c.loop-at-test.true c.loop-at.invariant.0 c.loop-at.invariant.1 c.count_after-count.ensures c.scan-tail.ensures,
      c.scan-tail.auto.seen ∙ c.loop-at.invariant.2,
      c.scan-tail.auto.queue ∙ c.loop-at.invariant.3,
    )

pub returns : goal.returns
returns c =
    let leads-in : (u w : ℕ) → Next (arcs_of c.args.graph.now.a.now c.args.graph.now.b.now (sided c.args.against c.args.ways.now)) u w → w < c.args.graph.now.basins = λ u. λ w. λ m. arc-below c.args.graph.now.a.now c.args.graph.now.b.now (sided c.args.against c.args.ways.now) c.args.graph.now.basins u w c.args.graph.now.table m in
    counts_end (leads-in) c.requires.starts c.loop-at-test.false c.loop-at.invariant.0 c.loop-at.invariant.1
