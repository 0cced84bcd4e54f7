-- `comparison_laws::both_ways` meets its contract, by what the two calls promise.
-- Assumes nothing.
use Rattle.network.specs.Networks.{Network}
use Rattle.tables.specs.Rows.{net_of}
use Rattle.file_records.proofs.Records.{bytes-make}
use Rattle.sheet_order.proofs.Laws.{exchange, equal-exactly}
use Rattle.comparison_laws.proofs.both_ways.Goals as goal

pub returns : goal.returns
returns c =
    let net : Network = net_of c.args.basins c.args.kinds.now c.args.a.now c.args.b.now in
    let bf = bytes-make c.args.first.now (λ i. (c.type_inv.first i).fits) in
    let bg = bytes-make c.args.second.now (λ i. (c.type_inv.second i).fits) in
    record {
      forth-told = c.order_rows-forth.ensures;
      back-told = c.order_rows-back.ensures;
      exchange = exchange (net) c.args.first.now c.args.second.now c.order_rows-forth.ensures c.order_rows-back.ensures;
      equal = equal-exactly (net) c.args.first.now c.args.second.now bf bg c.order_rows-forth.ensures;
    }
