-- `following::next_of` meets its contract: the setting is a plan or not, and is left accordingly.
-- Assumes nothing.
use Rattle.orienting.proofs.Readies.{ready-ways}
use Rattle.following.proofs.Nexts.{setting-room, seek-plan, seek-other, seek_found}
use Rattle.following.proofs.next_of.Goals as goal

pub shut_in_basin-requires-clause-ready : goal.shut_in_basin-requires-clause-ready
shut_in_basin-requires-clause-ready c = ready-ways _ c.requires.ready (setting-room c.args.graph.now.basins c.args.kinds.now c.args.graph.now.a.now c.args.graph.now.b.now c.requires.at_setting)

pub next_of_plan-requires-clause-at_plan : goal.next_of_plan-requires-clause-at_plan
next_of_plan-requires-clause-at_plan c = seek-plan c.args.graph.now.basins c.args.kinds.now c.args.graph.now.a.now c.args.graph.now.b.now c.requires.at_setting c.shut_in_basin.ensures c.if-is_none.ensures

pub returns-else-is_none : goal.returns-else-is_none
returns-else-is_none c = seek_found c.args.graph.now.basins c.args.kinds.now c.args.graph.now.a.now c.args.graph.now.b.now c.requires.at_setting c.shut_in_basin.ensures c.next_of_other.ensures

pub next_of_other-requires-clause-other_than_plan : goal.next_of_other-requires-clause-other_than_plan
next_of_other-requires-clause-other_than_plan c = seek-other c.args.graph.now.basins c.args.kinds.now c.args.graph.now.a.now c.args.graph.now.b.now c.requires.at_setting c.shut_in_basin.ensures c.if-is_none.ensures
