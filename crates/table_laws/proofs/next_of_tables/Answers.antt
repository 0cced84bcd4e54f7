-- `table_laws::next_of_tables` meets its contract: the laws follow from what the two calls promise.
-- Assumes nothing.
use Rattle.tables.specs.Rows.{net_of}
use Rattle.table_laws.proofs.Tables.{next-of-tables}
use Rattle.table_laws.proofs.next_of_tables.Goals as goal

pub returns : goal.returns
returns c =
    next-of-tables (net_of c.args.basins c.args.kinds.now c.args.a.now c.args.b.now) (net_of c.args.basins2 c.args.kinds2.now c.args.a2.now c.args.b2.now) c.args.s.now c.next_plan-first.ensures c.next_plan-second.ensures
