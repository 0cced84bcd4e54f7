-- `planner_laws::first_shown` meets its contract: demand 2 follows from what `planner::first_plan` promises.
-- Assumes nothing.
use Rattle.network.specs.Networks.{net}
use Rattle.planner_laws.proofs.Demands.{first-asked}
use Rattle.planner_laws.proofs.first_shown.Goals as goal

pub returns : goal.returns
returns c = first-asked (net c.args.basins c.args.table.now) c.first_plan.ensures
