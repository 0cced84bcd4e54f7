-- `following::next_of_plan` meets its contract: a plan is all hung, and it is left at the last gate at which another can part.
-- Assumes nothing.
use Rattle.seeking.proofs.Seeks.{plan-binds, plan-partable, plan-found}
use Rattle.following.proofs.next_of_plan.Goals as goal

pub part_from-requires-clause-partable : goal.part_from-requires-clause-partable
part_from-requires-clause-partable c = plan-partable c.args.graph.now.basins c.args.kinds.now c.args.graph.now.a.now c.args.graph.now.b.now c.requires.at_plan c.orient.ensures (plan-binds c.args.graph.now.basins c.args.kinds.now c.args.graph.now.a.now c.args.graph.now.b.now c.requires.at_plan)

pub returns : goal.returns
returns c = plan-found c.args.graph.now.basins c.args.kinds.now c.args.graph.now.a.now c.args.graph.now.b.now c.requires.at_plan c.orient.ensures (plan-binds c.args.graph.now.basins c.args.kinds.now c.args.graph.now.a.now c.args.graph.now.b.now c.requires.at_plan) c.part_from.ensures
