-- `seeking::orient_all` meets its contract: the gates are decided one after the other, and the side of a bridge is noted.
-- Assumes nothing.
use Rattle.seeking.proofs.Rows.{open-completable, row-bridge, row-plan}
use Rattle.seeking.proofs.orient_all.Goals as goal

pub greedy-requires-clause-completable : goal.greedy-requires-clause-completable
greedy-requires-clause-completable c = open-completable c.args.graph.now.basins c.args.kinds.now c.args.graph.now.a.now c.args.graph.now.b.now c.requires.passable

pub returns-in-Some : goal.returns-in-Some
returns-in-Some c = row-bridge c.args.graph.now.basins c.args.kinds.now c.args.graph.now.a.now c.args.graph.now.b.now c.requires.passable c.in-Some.ensures c.note_side.ensures

pub returns-in-None : goal.returns-in-None
returns-in-None c = row-plan c.args.graph.now.basins c.args.kinds.now c.args.graph.now.a.now c.args.graph.now.b.now c.requires.passable c.in-None.ensures
