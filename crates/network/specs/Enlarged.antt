-- Document 02, item 3, "Basins dug but not joined": "Customers now number basins a year before the channels reach them". proofs/Enlarged.antt: such a basin "doesn't
-- count", and "if all are dry the empty setting is a plan".
-- Assumes nothing.
use Rattle.std.specs.Prelude.{ℕ}
use Rattle.network.specs.Networks.{Network, net}

-- The network with its basins numbered up to the basin count m: no reach has an end at the new ones.
abbrev pub enlarged : Network → ℕ → Network
enlarged N m = net m N.reaches
