-- `seeking::first_from` meets its contract: a closed set where some wet basin does not reach all, else as the gates can be oriented.
-- Assumes nothing.
use Rattle.std.proofs.Common.{arith}
use Rattle.std.proofs.lemmas.Grind.{common_steps}
use Rattle.orienting.proofs.Readies.{ready-noted}
use Rattle.seeking.proofs.Rows.{row-passable, row-closed}
use Rattle.seeking.proofs.first_from.Goals as goal

pub returns-in-Some : goal.returns-in-Some
returns-in-Some c =
    row-closed c.args.graph.now.basins c.args.kinds.now c.args.graph.now.a.now c.args.graph.now.b.now c.requires.none_oriented _ c.shut_in_basin.ensures (grind (arith, common_steps))
    (ready-noted c.args.ways.now c.search.new.seen c.requires.ready (grind (arith, common_steps)) c.search.ensures)

pub orient_all-requires-clause-passable : goal.orient_all-requires-clause-passable
orient_all-requires-clause-passable c = row-passable c.args.graph.now.basins c.args.kinds.now c.args.graph.now.a.now c.args.graph.now.b.now c.requires.none_oriented c.shut_in_basin.ensures (grind (arith, common_steps))
