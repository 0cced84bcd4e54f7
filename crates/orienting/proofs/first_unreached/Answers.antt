-- `orienting::first_unreached` meets its contract: a search with no goal, and the lowest wet basin that it left.
-- Assumes nothing.
use Rattle.half_edges.specs.Ends.{arcs_of, sided}
use Rattle.tables.specs.Rows.{net_of}
use Rattle.orienting.proofs.Readies.{ready-noted, unreached-first}
use Rattle.orienting.proofs.first_unreached.Goals as goal

pub returns : goal.returns
returns c =
    unreached-first (net_of c.args.graph.now.basins c.args.kinds.now c.args.graph.now.a.now c.args.graph.now.b.now) (arcs_of c.args.graph.now.a.now c.args.graph.now.b.now (sided c.args.against c.args.ways.now)) c.search.new.seen
    (ready-noted (sided c.args.against c.args.ways.now) c.search.new.seen c.requires.ready c.requires.start_lt_n c.search.ensures) c.lowest_unseen.ensures
