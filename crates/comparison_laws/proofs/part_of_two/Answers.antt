-- `comparison_laws::part_of_two` meets its contract, by what the order and the part promise.
-- Assumes nothing.
use Rattle.network.specs.Networks.{Network}
use Rattle.tables.specs.Rows.{net_of}
use Rattle.file_records.proofs.Records.{bytes-make}
use Rattle.comparison_laws.proofs.Partings.{parted, of_two}
use Rattle.comparison_laws.proofs.part_of_two.Goals as goal

pub returns : goal.returns
returns c =
    let net : Network = net_of c.args.basins c.args.kinds.now c.args.a.now c.args.b.now in
    let bf = bytes-make c.args.first.now (λ i. (c.type_inv.first i).fits) in
    let bg = bytes-make c.args.second.now (λ i. (c.type_inv.second i).fits) in
    of_two (net) c.args.first c.args.second bf bg (parted (net) c.args.first c.args.second bf bg c.order_rows-order.ensures c.part.ensures)
