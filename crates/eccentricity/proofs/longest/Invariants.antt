-- `longest` meets its contract: from none of the basins passed is it farther.
-- Assumes nothing.
use Rattle.network.specs.Networks.{basins_of}
use Rattle.distances.specs.Diameters.{farthest}
use Rattle.half_edges.specs.Ends.{arcs_of}
use Rattle.tables.specs.Rows.{net_of}
use Rattle.eccentricity.proofs.Mosts.{Most}
use Rattle.eccentricity.proofs.longest.Given as goal

abbrev pub invariant-loop-v : goal.invariant-loop-v
invariant-loop-v l = Most (net_of l.graph.basins l.kinds l.graph.a.now l.graph.b.now) (farthest (basins_of (net_of l.graph.basins l.kinds l.graph.a.now l.graph.b.now)) (arcs_of l.graph.a.now l.graph.b.now l.ways)) l.v l.most
