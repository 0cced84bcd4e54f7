-- Document 02, item 2, "Which gates have no choice": bound gates, what the call that tells them leaves, and a gated reach made a flap. proofs/Choices.antt: what
-- the bytes say of all plans, and that "a reach made a flap as drawn leaves a plan exactly if its byte isn't 1, made a flap turned exactly if it isn't 0".
-- Assumes nothing.
use Rattle.std.specs.Prelude.{ℕ, Bool, true, false, cond, List, [], ◌++◌, map, length, get_or, drop, set, eqb}
use Rattle.lists.specs.Lists.{range, every, keep}
use Rattle.network.specs.declared.Kind.TheVariants.{Flap}
use Rattle.network.specs.declared.State.TheVariants.{InService}
use Rattle.network.specs.declared.Reach.{Reach}
use Rattle.network.specs.Networks.{Network, net}
use Rattle.network.specs.Settings.{gate_count, settings}
use Rattle.network.specs.Plans.{is_plan}
use Rattle.network.specs.Bridges.{reach_at}
use Rattle.network.specs.Replies.{Outcome, plan, shut_in, lone, refused}

-- All plans of a network, in order.
unfoldable pub plans : Network → List (List ℕ)
plans N = keep (is_plan N) (settings (gate_count N))

-- A bound gate: the k-th gated reach is "hung alike in all plans (source document 000)", as drawn if x is 0, turned if it is 1.
abbrev pub hung_alike : Network → ℕ → ℕ → Bool
hung_alike N k x = every (λ p. eqb (get_or p k 2) x) (plans N)

-- The byte of the k-th gated reach: "0 always as drawn, 1 always turned, 2 either".
unfoldable pub bound_byte : Network → ℕ → ℕ
bound_byte N k = cond (hung_alike N k 0) 0 (cond (hung_alike N k 1) 1 2)

-- "A byte for each gated reach", in reach order.
unfoldable pub bound_bytes : Network → List ℕ
bound_bytes N = map (bound_byte N) (range 0 (gate_count N))

-- "A network without plans is refused 9 or 10 as for the first plan": the call replies o, what first replies, and its bytes are those of a network that
-- has a plan.
abbrev pub bound_in : Network → Outcome → List ℕ
bound_in N (plan s) = bound_bytes N
bound_in N (shut_in m c) = []
bound_in N (lone i m c) = []
bound_in N (refused r) = []

-- What that leaves in the buffer for the bytes: they go into the first of it, and "all beyond is untouched".
abbrev pub bound_after : Network → Outcome → List ℕ → List ℕ
bound_after N o buffer = bound_in N o ++ drop (length (bound_in N o)) buffer

-- "A reach made a flap as drawn", and "made a flap turned": with its ends exchanged.
abbrev pub flap_reach : Bool → Reach → Reach
flap_reach false r = record { state = InService Flap; a = r.a; b = r.b }
flap_reach true r = record { state = InService Flap; a = r.b; b = r.a }

-- The network with its reach i made a flap, as drawn or turned.
abbrev pub flap_at : Network → ℕ → Bool → Network
flap_at N i turned = net N.basins (set N.reaches i (flap_reach turned (reach_at N i)))
