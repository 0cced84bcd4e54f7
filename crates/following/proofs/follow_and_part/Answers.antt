-- `following::follow_and_part` meets its contract: the setting is left at the gate where it stopped or before.
-- Assumes nothing.
use native.Mathlib.Omega.{arith}
use Rattle.following.proofs.Nexts.{follow-start, follow-connected, follow-length, follow-stops, follow-below, follow-partable, follow-found}
use Rattle.following.proofs.follow_and_part.Goals as goal

pub follow-requires-clause-following : goal.follow-requires-clause-following
follow-requires-clause-following c = follow-start c.args.graph.now.basins c.args.kinds.now c.args.graph.now.a.now c.args.graph.now.b.now c.requires.followable c.orient.ensures

pub follow-requires-clause-strongly_connected : goal.follow-requires-clause-strongly_connected
follow-requires-clause-strongly_connected c = follow-connected c.args.graph.now.basins c.args.kinds.now c.args.graph.now.a.now c.args.graph.now.b.now c.requires.followable c.orient.ensures

pub unwrap-r-requires : goal.unwrap-r-requires
unwrap-r-requires c = follow-stops c.args.graph.now.basins c.args.kinds.now c.args.graph.now.a.now c.args.graph.now.b.now c.requires.followable c.orient.ensures c.follow.ensures

pub bounds-under-r : goal.bounds-under-r
bounds-under-r c =
    omega (arith, follow-below c.args.graph.now.basins c.args.kinds.now c.args.graph.now.a.now c.args.graph.now.b.now c.requires.followable c.orient.ensures c.follow.ensures c.unwrap-r.ensures, follow-length c.args.graph.now.basins c.args.kinds.now c.args.graph.now.a.now c.args.graph.now.b.now c.requires.followable c.orient.ensures)

pub bounds-ways-r : goal.bounds-ways-r
bounds-ways-r c =
    omega (arith, follow-below c.args.graph.now.basins c.args.kinds.now c.args.graph.now.a.now c.args.graph.now.b.now c.requires.followable c.orient.ensures c.follow.ensures c.unwrap-r.ensures, c.follow.auto.ways, c.orient.auto.ways, c.requires.ready.ways-full)

pub overflow_add-r : goal.overflow_add-r
overflow_add-r c =
    omega (arith, follow-below c.args.graph.now.basins c.args.kinds.now c.args.graph.now.a.now c.args.graph.now.b.now c.requires.followable c.orient.ensures c.follow.ensures c.unwrap-r.ensures, c.args.graph.now.table.few)

pub part_from-requires-clause-partable : goal.part_from-requires-clause-partable
part_from-requires-clause-partable c = follow-partable c.args.graph.now.basins c.args.kinds.now c.args.graph.now.a.now c.args.graph.now.b.now c.requires.followable c.orient.ensures c.follow.ensures c.unwrap-r.ensures

pub returns : goal.returns
returns c = follow-found c.args.graph.now.basins c.args.kinds.now c.args.graph.now.a.now c.args.graph.now.b.now c.requires.followable c.orient.ensures c.follow.ensures c.unwrap-r.ensures c.part_from.ensures
