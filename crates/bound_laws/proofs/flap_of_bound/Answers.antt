-- `bound_laws::flap_of_bound` meets its contract: the law follows from what the two calls promise.
-- Assumes nothing.
use Rattle.tables.specs.Rows.{net_of}
use Rattle.bound_laws.proofs.Bounds.{flap-of-bound}
use Rattle.bound_laws.proofs.flap_of_bound.Goals as goal

pub returns : goal.returns
returns c =
    flap-of-bound (net_of c.args.basins c.args.kinds.now c.args.a.now c.args.b.now) (net_of c.args.basins c.args.kinds2.now c.args.a2.now c.args.b2.now) c.bound_gates_rows-first.ensures c.first_plan-second.ensures
