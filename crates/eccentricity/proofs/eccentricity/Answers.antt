-- `eccentricity` meets its contract: a search, and the greatest count that it has noted for a wet basin.
-- Assumes nothing.
use mathlib.Core.Path.{◌∙◌}
use Rattle.half_edges.specs.Ends.{arcs_of}
use Rattle.tables.specs.Rows.{net_of}
use Rattle.eccentricity.proofs.Mosts.{counts-farthest}
use Rattle.eccentricity.proofs.eccentricity.Goals as goal

pub returns : goal.returns
returns c =
    c.greatest_count.ensures ∙ counts-farthest (net_of c.args.graph.now.basins c.args.kinds.now c.args.graph.now.a.now c.args.graph.now.b.now) (arcs_of c.args.graph.now.a.now c.args.graph.now.b.now c.args.ways.now) c.args.u c.search.new.seen c.search.ensures
