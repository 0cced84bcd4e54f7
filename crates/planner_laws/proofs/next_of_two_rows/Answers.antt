-- `planner_laws::next_of_two_rows` meets its contract: demand 3 follows from what next promises, and from nothing else of it.
-- Assumes nothing.
use Rattle.tables.specs.Rows.{net_of}
use Rattle.planner_laws.proofs.Demands.{next-of-two}
use Rattle.planner_laws.proofs.next_of_two_rows.Goals as goal

pub returns : goal.returns
returns c =
    next-of-two (net_of c.args.basins c.args.kinds.now c.args.a.now c.args.b.now) c.args.s.now c.args.t.now c.next_plan-first.ensures c.next_plan-second.ensures
