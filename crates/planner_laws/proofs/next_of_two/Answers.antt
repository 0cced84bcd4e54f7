-- `planner_laws::next_of_two` meets its contract: demand 3 follows from what the two calls of `planner::next_plan` promise.
-- Assumes nothing.
use Rattle.network.specs.Networks.{net}
use Rattle.planner_laws.proofs.Demands.{next-of-two}
use Rattle.planner_laws.proofs.next_of_two.Goals as goal

pub returns : goal.returns
returns c = next-of-two (net c.args.basins c.args.table.now) c.args.s.now c.args.t.now c.next_plan-first.ensures c.next_plan-second.ensures
