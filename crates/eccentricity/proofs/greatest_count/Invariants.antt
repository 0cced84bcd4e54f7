-- `greatest_count` meets its contract: of the basins passed none has more.
-- Assumes nothing.
use Rattle.tables.specs.Rows.{net_of}
use Rattle.eccentricity.specs.Rows.{count_at}
use Rattle.eccentricity.proofs.Mosts.{Most}
use Rattle.eccentricity.proofs.greatest_count.Given as goal

abbrev pub invariant-loop-v : goal.invariant-loop-v
invariant-loop-v l = Most (net_of l.graph.basins l.kinds l.graph.a.now l.graph.b.now) (count_at l.seen) l.v l.most
