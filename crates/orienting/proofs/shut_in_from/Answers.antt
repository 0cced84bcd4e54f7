-- `orienting::shut_in_from` meets its contract: a search from the lowest wet basin, and one against the arrows.
-- Assumes nothing.
use Rattle.half_edges.specs.Ends.{arcs_of}
use Rattle.half_edges.proofs.Laws.{reached-flipped}
use Rattle.tables.specs.Rows.{net_of}
use Rattle.orienting.proofs.Readies.{shut-in-lowest, shut-in-back}
use Rattle.orienting.proofs.shut_in_from.Goals as goal

pub returns-then-is_some : goal.returns-then-is_some
returns-then-is_some c =
    shut-in-lowest (net_of c.args.graph.now.basins c.args.kinds.now c.args.graph.now.a.now c.args.graph.now.b.now) (arcs_of c.args.graph.now.a.now c.args.graph.now.b.now c.args.ways.now) c.requires.lowest c.first_unreached.ensures c.if-is_some.ensures

pub returns : goal.returns
returns c =
    shut-in-back (net_of c.args.graph.now.basins c.args.kinds.now c.args.graph.now.a.now c.args.graph.now.b.now) (arcs_of c.args.graph.now.a.now c.args.graph.now.b.now c.args.ways.now) c.requires.lowest c.first_unreached.ensures c.if-is_some.ensures
    (reached-flipped c.args.graph.now.a.now c.args.graph.now.b.now c.args.ways.now) c.first_unreached-2.ensures
