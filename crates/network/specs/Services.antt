-- Document 02, item 1, "Reaches shut for works": a reach shut and put back, and the network of the reaches in service alone. proofs/Services.antt: "Plans and
-- findings are those of the reaches in service."
-- Assumes nothing.
use Rattle.std.specs.Prelude.{ℕ, List, length, take, set}
use Rattle.lists.specs.Lists.{keep}
use Rattle.network.specs.declared.State.TheVariants.{InService, Shut}
use Rattle.network.specs.declared.Reach.{Reach}
use Rattle.network.specs.Networks.{Network, net, in_service, kind_in}
use Rattle.network.specs.Bridges.{reach_at}
use Rattle.network.specs.Replies.{Outcome, plan, shut_in, lone, refused}

-- A reach shut for works, and put back in service: its kind stays.
abbrev pub shut_reach : Reach → Reach
shut_reach r = record { state = Shut (kind_in r.state); a = r.a; b = r.b }

abbrev pub back_reach : Reach → Reach
back_reach r = record { state = InService (kind_in r.state); a = r.a; b = r.b }

-- The network with its reach i shut, and with it put back in service.
abbrev pub shut_at : Network → ℕ → Network
shut_at N i = net N.basins (set N.reaches i (shut_reach (reach_at N i)))

abbrev pub back_at : Network → ℕ → Network
back_at N i = net N.basins (set N.reaches i (back_reach (reach_at N i)))

-- The reaches in service of a table, in reach order.
abbrev pub service_reaches : List Reach → List Reach
service_reaches t = keep (λ r. in_service r.state) t

-- The network of the reaches in service: its shut reaches are dropped, and the others have new numbers.
abbrev pub service_net : Network → Network
service_net N = net N.basins (service_reaches N.reaches)

-- The new number of reach i: how many reaches before it are in service.
abbrev pub service_number : Network → ℕ → ℕ
service_number N i = length (service_reaches (take i N.reaches))

-- A reply with its reach, if it has one, at its new number.
abbrev pub renumbered : Network → Outcome → Outcome
renumbered N (plan s) = plan s
renumbered N (shut_in m c) = shut_in m c
renumbered N (lone i m c) = lone (service_number N i) m c
renumbered N (refused r) = refused r
