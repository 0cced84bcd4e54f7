-- `planner_laws::first_shown_rows` meets its contract: demand 2 follows from what first promises, and from nothing else of it.
-- Assumes nothing.
use Rattle.tables.specs.Rows.{net_of}
use Rattle.planner_laws.proofs.Demands.{first-asked}
use Rattle.planner_laws.proofs.first_shown_rows.Goals as goal

pub returns : goal.returns
returns c =
    first-asked (net_of c.args.basins c.args.kinds.now c.args.a.now c.args.b.now) c.first_plan.ensures
