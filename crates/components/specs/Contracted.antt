-- Document 02, item 4, "Clusters folded into one basin": "a smaller network with the same choices". The network with each component contracted to one basin.
-- proofs/Contracted.antt: "A setting is a plan of the folded network exactly if it is one of the first." "Folding again changes nothing."
-- Assumes nothing.
use Rattle.std.specs.Prelude.{ℕ, suc, ◌≡◌, Bool, true, false, cond, not, ◌&&◌, ◌||◌, List, [], ◌∷◌, take}
use Rattle.lists.specs.Lists.{some?}
use Rattle.network.specs.declared.Kind.TheVariants.{Gated, Flap, TwoWay}
use Rattle.network.specs.declared.State.{State}
use Rattle.network.specs.declared.State.TheVariants.{InService, Shut}
use Rattle.network.specs.declared.Reach.{Reach}
use Rattle.network.specs.Networks.{Network, net}
use Rattle.network.specs.Replies.{Outcome, number, plan_in}
use Rattle.components.specs.Components.{is_two_way, connected, is_singleton, component_number, component_count}

-- No two-way reach in service of b's component has a number below i.
unfoldable pub none_before : Network → ℕ → ℕ → Bool
none_before N i b = not (some? (λ r. is_two_way r.state && connected N r.a b) (take i N.reaches))

-- Whether reach i, in this state and with the ends a and b, stays.
--     "Gated reaches stay".
--     A flap between components stays. "In a cluster of two or more .. inner flaps drop"; a flap loop in a component of one stays.
--     "In a cluster of two or more, the lowest-numbered two-way reach stays as a loop; its other two-way reaches .. drop." In a component of one all its two-way reaches, which are loops, stay.
--     "Shut reaches drop."
abbrev pub stays : Network → ℕ → State → ℕ → ℕ → Bool
stays N i (InService Gated) a b = true
stays N i (InService Flap) a b = not (connected N a b) || is_singleton N a
stays N i (InService TwoWay) a b = is_singleton N a || none_before N i a
stays N i (Shut k) a b = false

-- What stays of a reach: its ends are the components of its ends, "as loops if need be".
abbrev pub contracted_reach : Network → Reach → Reach
contracted_reach N r = record { state = r.state; a = component_number N r.a; b = component_number N r.b }

-- "What stays keeps its order": what stays of a part of the table whose first reach has number i.
abbrev pub contracted_from : Network → ℕ → List Reach → List Reach
contracted_from N i [] = []
contracted_from N i (r ∷ t) = cond (stays N i r.state r.a r.b) (contracted_reach N r ∷ contracted_from N (suc i) t) (contracted_from N (suc i) t)

-- The folded network.
unfoldable pub contracted : Network → Network
contracted N = net (component_count N) (contracted_from N 0 N.reaches)

-- "The same choices": two replies give the same plan, or have the same number. What a finding marks is of the network that was asked.
pub record SameChoice (o o' : Outcome) : Type 0 where
  pub same_number : number o ≡ number o'
  pub same-plan : plan_in o ≡ plan_in o'
