-- `greatest_count` meets its contract: of the basins passed none has more.
-- Assumes nothing.
use native.Mathlib.Omega.{arith}
use Rattle.tables.specs.Rows.{net_of}
use Rattle.eccentricity.specs.Rows.{count_at}
use Rattle.eccentricity.proofs.Mosts.{most-more, most-all}
use Rattle.eccentricity.proofs.greatest_count.Goals as goal

pub loop-v-preserved : goal.loop-v-preserved
loop-v-preserved c =
    most-more (net_of c.args.graph.now.basins c.args.kinds.now c.args.graph.now.a.now c.args.graph.now.b.now) (count_at c.args.seen.now) c.loop-v.v c.loop-v.most c.loop-v.invariant c.count_in-most.ensures

pub returns : goal.returns
returns c =
    most-all (net_of c.args.graph.now.basins c.args.kinds.now c.args.graph.now.a.now c.args.graph.now.b.now) (count_at c.args.seen.now) (omega (arith, c.loop-v-test.false)) c.loop-v.invariant
