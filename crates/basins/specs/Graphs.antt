-- The network of a graph and the kinds of its reaches.
-- Assumes nothing.
use Rattle.std.specs.Prelude.{ℕ, List}
use Rattle.network.specs.Networks.{Network}
use Rattle.tables.specs.Rows.{net_of}
use Rattle.half_edges.specs.declared.Graph.{Graph}

abbrev pub net_on : Graph → List ℕ → Network
net_on g ks = net_of g.basins ks g.a.now g.b.now
