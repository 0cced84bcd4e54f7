-- `comparison::order_table` meets its contract: the table goes into rows of its own, which are lent to the call over rows.
-- Assumes nothing.
use Rattle.sheet_order.specs.Calls.{Ordered}
use Rattle.sheet_order.proofs.Orders.{ordered_at}
use Rattle.packing.proofs.Packings.{of-lent}
use Rattle.comparison.proofs.Faults.{order_alike}
use Rattle.comparison.proofs.order_table.Goals as goal

pub returns : goal.returns
returns c =
    let o = c.order_lent in
    ordered_at _ c.args.first.now c.args.second.now o.ensures.first-bytes o.ensures.second-bytes
    (of-lent {P = λ N. Ordered N c.args.first.now c.args.second.now o.result} c.pack.ensures c.rows-rows.ensures (order_alike c.args.first.now c.args.second.now) o.ensures.ordered)
