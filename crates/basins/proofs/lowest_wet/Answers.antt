-- `lowest_wet` meets its contract: the first basin that is wet.
-- Assumes nothing.
use Rattle.std.proofs.Common.{rules, ◌≡◌, true, false}
use Rattle.std.proofs.lemmas.Iterator.{first_from_Range}
use Rattle.network.specs.Networks.{Network, is_wet}
use Rattle.tables.specs.Rows.{net_of}
use Rattle.basins.proofs.Lows.{lowest-found}
use Rattle.basins.proofs.lowest_wet.Goals as goal

pub returns : goal.returns
returns c =
    let N : Network = net_of c.args.graph.now.basins c.args.kinds.now c.args.graph.now.a.now c.args.graph.now.b.now in
    lowest-found N _ (first_from_Range _ _ _ _ (λ v. is_wet N v ≡ true) (λ v. is_wet N v ≡ false) c.find.ensures.ran (λ x q k. search rules) (λ x q k. search rules))
