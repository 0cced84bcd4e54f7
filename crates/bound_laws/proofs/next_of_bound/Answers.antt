-- `bound_laws::next_of_bound` meets its contract: the law follows from what the two calls promise.
-- Assumes nothing.
use Rattle.tables.specs.Rows.{net_of}
use Rattle.bound_laws.proofs.Bounds.{next-of-bound}
use Rattle.bound_laws.proofs.next_of_bound.Goals as goal

pub returns : goal.returns
returns c =
    next-of-bound (net_of c.args.basins c.args.kinds.now c.args.a.now c.args.b.now) c.args.s.now c.bound_gates_rows-first.ensures c.next_plan-second.ensures
