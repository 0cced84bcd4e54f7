-- `comparison::order_in` meets its contract: the first sheet is read and judged, then the second, and their bytes tell the order.
-- Assumes nothing.
use Rattle.std.proofs.lemmas.Result.{err_from_is_err_and}
use Rattle.std.specs.Prelude.{Ok}
use mathlib.Core.Path.{ap}
use Rattle.network.specs.Networks.{Network}
use Rattle.tables.specs.Rows.{net_of}
use Rattle.file_records.proofs.Records.{bytes-make}
use Rattle.sheet_format.proofs.Getting.{refuses, stored}
use Rattle.sheet_order.proofs.Orders.{refused-first, refused-second, both_read}
use Rattle.comparison.proofs.order_in.Goals as goal

pub returns-in_err-read_plan : goal.returns-in_err-read_plan
returns-in_err-read_plan c =
    let p = err_from_is_err_and c.from_residual.result c.from_residual.ensures.1 in
    rw (p.1, p.2) (let net : Network = net_of c.args.basins c.args.kinds.now c.args.a.now c.args.b.now in refused-first (net) c.args.first.now c.args.second.now (refuses c.read_plan.ensures c.in_err-read_plan.was))

pub returns-in_err-read_plan-2 : goal.returns-in_err-read_plan-2
returns-in_err-read_plan-2 c =
    let p = err_from_is_err_and c.from_residual-in_err-read_plan-2.result c.from_residual-in_err-read_plan-2.ensures.1 in
    rw (p.1, p.2) (let net : Network = net_of c.args.basins c.args.kinds.now c.args.a.now c.args.b.now in refused-second (net) c.args.first.now c.args.second.now (stored c.read_plan.ensures c.in_ok-read_plan.was).is (refuses c.read_plan-2.ensures c.in_err-read_plan-2.was))

pub returns : goal.returns
returns c =
    let net : Network = net_of c.args.basins c.args.kinds.now c.args.a.now c.args.b.now in
    both_read (net) c.args.first.now c.args.second.now
    (bytes-make c.args.first.now (λ i. (c.type_inv.first i).fits))
    (bytes-make c.args.second.now (λ i. (c.type_inv.second i).fits))
    (record {
      first_says = (stored c.read_plan.ensures c.in_ok-read_plan.was).is;
      second-says = (stored c.read_plan-2.ensures c.in_ok-read_plan-2.was).is;
    })
    (ap Ok c.order_of.ensures)
