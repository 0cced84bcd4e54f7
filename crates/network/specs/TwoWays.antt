-- Document 01: "A two-way reach is never lone: it counts as two flaps, one each way." proofs/TwoWays.antt: exchanged for two flaps it leaves every reply as it is.
-- Assumes nothing.
use Rattle.std.specs.Prelude.{ℕ, true, false, [], ◌∷◌, ◌++◌, set}
use Rattle.network.specs.Networks.{Network, net}
use Rattle.network.specs.Bridges.{reach_at}
use Rattle.network.specs.Choices.{flap_reach}

-- The network with its reach i exchanged for "two flaps, one each way": as drawn at its place, turned at the end of the table, so that all others keep their numbers.
abbrev pub two_flaps_at : Network → ℕ → Network
two_flaps_at N i = net N.basins (set N.reaches i (flap_reach false (reach_at N i)) ++ flap_reach true (reach_at N i) ∷ [])
