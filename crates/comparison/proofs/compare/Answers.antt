-- `comparison::compare` meets its contract: the order and the part, which both calls promise, are the reply by the law `compared`.
-- Assumes nothing.
use Rattle.network.specs.Networks.{net}
use Rattle.sheet_order.proofs.Orders.{compared}
use Rattle.comparison.proofs.compare.Goals as goal

pub returns : goal.returns
returns c = compared (net c.args.basins c.args.table.now) c.args.first c.args.second c.order_table-order.ensures c.part.ensures
