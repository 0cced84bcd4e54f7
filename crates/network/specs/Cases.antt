-- The marked cases 1 to 11 of document 01 in one table, cases with shut reaches in another, cases with dry basins in a third, and the bytes of bound gates in a
-- fourth; in a fifth, two-way reaches as two flaps. proofs/Cases.antt computes them from the definitions.
-- Assumes nothing.
use Rattle.std.specs.Prelude.{ℕ, ◌-◌, ◌≡◌, List, [], ◌∷◌, replicate}
use Rattle.network.specs.declared.Kind.TheVariants.{Gated, Flap, TwoWay}
use Rattle.network.specs.declared.State.TheVariants.{InService}
use Rattle.network.specs.declared.Reach.{Reach}
use Rattle.network.specs.declared.Refusal.TheVariants.{LastPlan}
use Rattle.network.specs.Networks.{Network, net}
use Rattle.network.specs.Settings.{gate_count}
use Rattle.network.specs.Marks.{mark_bytes}
use Rattle.network.specs.Services.{shut_reach}
use Rattle.network.specs.Replies.{Outcome, plan, shut_in, lone, refused, first_reply, next_reply}
use Rattle.network.specs.Choices.{bound_in}
use Rattle.network.specs.TwoWays.{two_flaps_at}

-- "G gated, F flap, T two-way."
abbrev pub G : ℕ → ℕ → Reach
G a b = record { state = InService Gated; a = a; b = b }

abbrev pub F : ℕ → ℕ → Reach
F a b = record { state = InService Flap; a = a; b = b }

abbrev pub T : ℕ → ℕ → Reach
T a b = record { state = InService TwoWay; a = a; b = b }

-- marks whose first byte is x, the others 0
abbrev pub first_byte : ℕ → List ℕ
first_byte x = x ∷ replicate (mark_bytes - 1) 0

-- A setting and what next replies to it.
pub record After : Type 0 where
  pub setting : List ℕ
  pub reply : Outcome

-- A network, what first replies, and what next replies.
pub record Case : Type 0 where
  pub network : Network
  pub first : Outcome
  pub nexts : List After

abbrev pub row : Network → Outcome → List After → Case
row N o l = record { network = N; first = o; nexts = l }

abbrev pub comes : List ℕ → Outcome → After
comes s o = record { setting = s; reply = o }

-- Case 3.
abbrev pub case3 : Network
case3 = net 2 (G 0 1 ∷ G 0 1 ∷ [])

abbrev pub cases : List Case
cases =
    -- 1. One basin, no reach: the empty plan; next is 11.
    row (net 1 []) (plan []) (comes [] (refused LastPlan) ∷ []) ∷
    -- 2. Two basins, G 0-1: 10, reach 0, marked {1}.
    row (net 2 (G 0 1 ∷ [])) (lone 0 (first_byte 2) 1) [] ∷
    -- 3. Two basins, G 0-1 twice: after 00 comes 01, after 01 comes 10, after 10 refusal 11.
    row case3 (plan (0 ∷ 1 ∷ []))
    (comes (0 ∷ 0 ∷ []) (plan (0 ∷ 1 ∷ [])) ∷ comes (0 ∷ 1 ∷ []) (plan (1 ∷ 0 ∷ [])) ∷ comes (1 ∷ 0 ∷ []) (refused LastPlan) ∷ []) ∷
    -- 4. Two basins, T 0-1: the empty plan.
    row (net 2 (T 0 1 ∷ [])) (plan []) [] ∷
    -- 5. Two basins, F 0-1: 9, marked {1}.
    row (net 2 (F 0 1 ∷ [])) (shut_in (first_byte 2) 1) [] ∷
    -- 6. Two basins, no reach. Document 02, item 3: "Case 6 becomes the empty plan; the other marked cases hold."
    row (net 2 []) (plan []) (comes [] (refused LastPlan) ∷ []) ∷
    -- 7. G 0-1, G 1-2, G 2-0: first 000; after 000 comes 111.
    row (net 3 (G 0 1 ∷ G 1 2 ∷ G 2 0 ∷ [])) (plan (0 ∷ 0 ∷ 0 ∷ [])) (comes (0 ∷ 0 ∷ 0 ∷ []) (plan (1 ∷ 1 ∷ 1 ∷ [])) ∷ []) ∷
    -- 8. F 1-0, G 0-1: plan 0, then 11.
    row (net 2 (F 1 0 ∷ G 0 1 ∷ [])) (plan (0 ∷ [])) (comes (0 ∷ []) (refused LastPlan) ∷ []) ∷
    -- 9. One basin, G 0-0: plans 0 and 1.
    row (net 1 (G 0 0 ∷ [])) (plan (0 ∷ [])) (comes (0 ∷ []) (plan (1 ∷ [])) ∷ comes (1 ∷ []) (refused LastPlan) ∷ []) ∷
    -- 10. G 0-1, T 1-2: 10, reach 0, marked {1, 2}.
    row (net 3 (G 0 1 ∷ T 1 2 ∷ [])) (lone 0 (first_byte 6) 2) [] ∷
    -- 11. F 0-1, G 1-2: 9, marked {1, 2}, though reach 1 is lone.
    row (net 3 (F 0 1 ∷ G 1 2 ∷ [])) (shut_in (first_byte 6) 2) [] ∷ []

-- Cases with reaches shut for works (document 02, item 1).
abbrev pub shut_cases : List Case
shut_cases =
    -- Case 2 with its gate shut: both basins are dry, and the empty setting is a plan.
    row (net 2 (shut_reach (G 0 1) ∷ [])) (plan []) (comes [] (refused LastPlan) ∷ []) ∷
    -- Case 3 with the first of the two shut: the other is lone, at its number in the whole table.
    row (net 2 (shut_reach (G 0 1) ∷ G 0 1 ∷ [])) (lone 1 (first_byte 2) 1) [] ∷
    -- Case 3 with a third gate, shut, between the two: it has no byte.
    row (net 2 (G 0 1 ∷ shut_reach (G 0 1) ∷ G 0 1 ∷ [])) (plan (0 ∷ 1 ∷ []))
    (comes (0 ∷ 0 ∷ []) (plan (0 ∷ 1 ∷ [])) ∷ comes (0 ∷ 1 ∷ []) (plan (1 ∷ 0 ∷ [])) ∷ comes (1 ∷ 0 ∷ []) (refused LastPlan) ∷ []) ∷
    -- Case 4 shut: both are dry again. With a loop at each basin they are wet, and nothing joins them: 9, marked {0}.
    row (net 2 (shut_reach (T 0 1) ∷ [])) (plan []) [] ∷
    row (net 2 (T 0 0 ∷ shut_reach (T 0 1) ∷ F 1 1 ∷ [])) (shut_in (first_byte 1) 1) [] ∷
    -- Case 7 with reach 2 shut: the other two are lone, reach 0 the lower.
    row (net 3 (G 0 1 ∷ G 1 2 ∷ shut_reach (G 2 0) ∷ [])) (lone 0 (first_byte 6) 2) [] ∷
    -- Case 8 with its flap shut: reach 1 is lone.
    row (net 2 (shut_reach (F 1 0) ∷ G 0 1 ∷ [])) (lone 1 (first_byte 2) 1) [] ∷
    -- Case 9 with its loop shut: the empty plan, and no other.
    row (net 1 (shut_reach (G 0 0) ∷ [])) (plan []) (comes [] (refused LastPlan) ∷ []) ∷ []

-- Cases with dry basins (document 02, item 3).
abbrev pub dry_cases : List Case
dry_cases =
    -- Two basins, a gated loop at 1 only: its two settings are plans. With a flap for the gate, the empty plan.
    row (net 2 (G 1 1 ∷ [])) (plan (0 ∷ [])) (comes (0 ∷ []) (plan (1 ∷ [])) ∷ comes (1 ∷ []) (refused LastPlan) ∷ []) ∷
    row (net 2 (F 1 1 ∷ [])) (plan []) (comes [] (refused LastPlan) ∷ []) ∷
    -- A loop keeps its basin wet: three basins, T 0-2 and a loop at 1 are 9, marked {0, 2}.
    row (net 3 (T 0 2 ∷ F 1 1 ∷ [])) (shut_in (first_byte 5) 2) [] ∷
    -- A shut reach keeps no basin wet: beside case 3 it leaves its far end dry, beside case 4 both its ends.
    row (net 3 (G 0 1 ∷ G 0 1 ∷ shut_reach (T 1 2) ∷ [])) (plan (0 ∷ 1 ∷ [])) (comes (0 ∷ 1 ∷ []) (plan (1 ∷ 0 ∷ [])) ∷ []) ∷
    row (net 4 (T 0 1 ∷ shut_reach (F 2 3) ∷ [])) (plan []) [] ∷
    -- A lone reach whose lowest wet basin is not 0, drawn either way: the side without basin 1, and no dry basin marked.
    row (net 3 (G 1 2 ∷ [])) (lone 0 (first_byte 4) 1) [] ∷
    row (net 5 (G 3 1 ∷ [])) (lone 0 (first_byte 8) 1) [] ∷
    row (net 5 (F 1 1 ∷ G 4 1 ∷ T 2 4 ∷ [])) (lone 1 (first_byte 20) 2) [] ∷
    -- F 1-3 of five basins: 9, marked {3}. F 3-1: 9, marked {1}. The others are dry, below, between and above.
    row (net 5 (F 1 3 ∷ [])) (shut_in (first_byte 8) 1) [] ∷
    row (net 5 (F 3 1 ∷ [])) (shut_in (first_byte 2) 1) [] ∷
    -- Case 7 on the basins 1, 3 and 4 of six.
    row (net 6 (G 1 3 ∷ G 3 4 ∷ G 4 1 ∷ [])) (plan (0 ∷ 0 ∷ 0 ∷ [])) (comes (0 ∷ 0 ∷ 0 ∷ []) (plan (1 ∷ 1 ∷ 1 ∷ [])) ∷ comes (1 ∷ 1 ∷ 1 ∷ []) (refused LastPlan) ∷ []) ∷ []

-- Cases with a two-way reach as "two flaps, one each way".
abbrev pub two_way_cases : List Case
two_way_cases =
    -- Cases 4 and 10: the replies are the same.
    row (two_flaps_at (net 2 (T 0 1 ∷ [])) 0) (plan []) (comes [] (refused LastPlan) ∷ []) ∷
    row (two_flaps_at (net 3 (G 0 1 ∷ T 1 2 ∷ [])) 1) (lone 0 (first_byte 6) 2) [] ∷
    -- Case 8 with a two-way reach for its flap: plans 0 and 1.
    row (two_flaps_at (net 2 (T 1 0 ∷ G 0 1 ∷ [])) 0) (plan (0 ∷ [])) (comes (0 ∷ []) (plan (1 ∷ [])) ∷ comes (1 ∷ []) (refused LastPlan) ∷ []) ∷ []

-- A network and the bytes that it gets, one for each gated reach in service, if it has a plan (document 02, item 2).
pub record BoundCase : Type 0 where
  pub network : Network
  pub bytes : List ℕ

abbrev pub gets : Network → List ℕ → BoundCase
gets N l = record { network = N; bytes = l }

abbrev pub bound_cases : List BoundCase
bound_cases =
    -- Cases 1 and 4 have no gate, cases 2 and 5 no plan.
    gets (net 1 []) [] ∷ gets (net 2 (T 0 1 ∷ [])) [] ∷ gets (net 2 (G 0 1 ∷ [])) [] ∷ gets (net 2 (F 0 1 ∷ [])) [] ∷
    -- Case 3: each can be turned if the other is, though not with the other as the first plan has it. So it is in case 7.
    gets case3 (2 ∷ 2 ∷ []) ∷
    gets (net 3 (G 0 1 ∷ G 1 2 ∷ G 2 0 ∷ [])) (2 ∷ 2 ∷ 2 ∷ []) ∷
    -- Case 8: always as drawn; with the flap the other way, always turned. Case 9: either.
    gets (net 2 (F 1 0 ∷ G 0 1 ∷ [])) (0 ∷ []) ∷
    gets (net 2 (F 0 1 ∷ G 0 1 ∷ [])) (1 ∷ []) ∷
    gets (net 1 (G 0 0 ∷ [])) (2 ∷ []) ∷
    -- Case 7 with reach 0 a flap, and with reach 2 drawn from 0 to 2: the flap binds the others. A gate beside the flap is free to go along or against it.
    gets (net 3 (F 0 1 ∷ G 1 2 ∷ G 0 2 ∷ [])) (0 ∷ 1 ∷ []) ∷
    gets (net 3 (F 0 1 ∷ G 1 2 ∷ G 0 2 ∷ G 0 1 ∷ [])) (2 ∷ 2 ∷ 2 ∷ []) ∷
    -- Case 3 with a third gate, shut, between the two: it has no byte. Case 8 with a shut flap beside it that would free the gate.
    gets (net 2 (G 0 1 ∷ shut_reach (G 0 1) ∷ G 0 1 ∷ [])) (2 ∷ 2 ∷ []) ∷
    gets (net 2 (shut_reach (F 0 1) ∷ F 1 0 ∷ G 0 1 ∷ [])) (0 ∷ []) ∷
    -- The same two basins as 1 and 3 of five.
    gets (net 5 (F 3 1 ∷ G 1 3 ∷ [])) (0 ∷ []) ∷ []

-- The replies hold: first's and each of next's, with lent buffers of just the length needed.
abbrev pub NextsHold : Network → List After → Type 0
NextsHold N [] = Unit {0}
NextsHold N (x ∷ l) = (next_reply N x.setting (gate_count N) mark_bytes ≡ x.reply) × NextsHold N l

abbrev pub CaseHolds : Case → Type 0
CaseHolds c = (first_reply c.network (gate_count c.network) mark_bytes ≡ c.first) × NextsHold c.network c.nexts

abbrev pub CasesHold : List Case → Type 0
CasesHold [] = Unit {0}
CasesHold (c ∷ l) = CaseHolds c × CasesHold l

-- The bytes hold, with lent buffers of just the length needed.
abbrev pub BytesHold : List BoundCase → Type 0
BytesHold [] = Unit {0}
BytesHold (c ∷ l) = (bound_in c.network (first_reply c.network (gate_count c.network) mark_bytes) ≡ c.bytes) × BytesHold l
