-- `contraction_laws::contract_again` meets its contract: what the two calls promise gives the law.
-- Assumes nothing.
use Rattle.network.specs.Networks.{Network}
use Rattle.tables.specs.Rows.{net_of}
use Rattle.contraction_laws.proofs.Contractions.{again-given}
use Rattle.contraction_laws.proofs.contract_again.Goals as goal

pub returns-in-Ok : goal.returns-in-Ok
returns-in-Ok c =
    let N : Network = net_of c.args.basins c.args.kinds.now c.args.a.now c.args.b.now in
    again-given (N) c.contracted-c.ensures c.in-Ok.counts.basins c.in-Ok.counts.reaches c.in-Ok.is c.contracted.ensures
