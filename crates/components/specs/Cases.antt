-- Networks and what they are contracted to: the marked cases, and one for each sentence of document 02, item 4. proofs/Cases.antt computes them from the definitions.
-- Assumes nothing.
use Rattle.std.specs.Prelude.{◌≡◌, List, [], ◌∷◌}
use Rattle.network.specs.Networks.{Network, net}
use Rattle.network.specs.Services.{shut_reach}
use Rattle.network.specs.Cases.{G, F, T, case3}
use Rattle.components.specs.Contracted.{contracted}

-- A network and what it is contracted to.
pub record Contraction : Type 0 where
  pub network : Network
  pub smaller : Network

abbrev pub to : Network → Network → Contraction
to N M = record { network = N; smaller = M }

abbrev pub same : Network → Contraction
same N = to N N

abbrev pub contractions : List Contraction
contractions =
    -- Cases 1 to 3 and 5 to 9, and 11, have no two-way reach, and change nothing; the dry basins of case 6 stay.
    same (net 1 []) ∷ same (net 2 (G 0 1 ∷ [])) ∷ same case3 ∷ same (net 2 (F 0 1 ∷ [])) ∷ same (net 2 []) ∷
    same (net 3 (G 0 1 ∷ G 1 2 ∷ G 2 0 ∷ [])) ∷ same (net 2 (F 1 0 ∷ G 0 1 ∷ [])) ∷ same (net 1 (G 0 0 ∷ [])) ∷ same (net 3 (F 0 1 ∷ G 1 2 ∷ [])) ∷
    -- Case 4: one basin with a two-way loop, and so wet. Case 10: reach 0 is still lone.
    to (net 2 (T 0 1 ∷ [])) (net 1 (T 0 0 ∷ [])) ∷
    to (net 3 (G 0 1 ∷ T 1 2 ∷ [])) (net 2 (G 0 1 ∷ T 1 1 ∷ [])) ∷
    -- The numbers go by the lowest members, not by the reach that names a component first: {0, 3}, {1}, {2, 4}, {5}.
    to (net 6 (T 4 2 ∷ G 5 1 ∷ T 3 0 ∷ F 3 4 ∷ [])) (net 4 (T 2 2 ∷ G 3 1 ∷ T 0 0 ∷ F 0 2 ∷ [])) ∷
    -- Of a component's two-way reaches the lowest-numbered stays, also if it is a loop; a gate inside it stays as a loop, a flap inside it drops, and so does a flap loop.
    to (net 3 (T 1 1 ∷ T 0 1 ∷ G 0 1 ∷ F 1 0 ∷ T 1 2 ∷ F 2 2 ∷ T 0 2 ∷ [])) (net 1 (T 0 0 ∷ G 0 0 ∷ [])) ∷
    -- In a component of one all loops stay. Flaps and gates join no basins, and several between the same two stay.
    same (net 2 (T 0 0 ∷ T 0 0 ∷ F 0 0 ∷ F 0 1 ∷ F 0 1 ∷ G 1 0 ∷ G 1 0 ∷ [])) ∷
    -- Shut reaches drop, and join no basins; a basin that only they have an end at stays, dry.
    to (net 4 (shut_reach (T 0 1) ∷ T 0 2 ∷ shut_reach (G 1 3) ∷ shut_reach (F 0 0) ∷ G 1 2 ∷ [])) (net 3 (T 0 0 ∷ G 1 0 ∷ [])) ∷
    -- The example of README, and examples/polder.net.
    to (net 5 (T 3 1 ∷ T 1 2 ∷ G 0 3 ∷ F 2 1 ∷ G 3 0 ∷ F 4 0 ∷ [])) (net 3 (T 1 1 ∷ G 0 1 ∷ G 1 0 ∷ F 2 0 ∷ [])) ∷
    to (net 7 (T 4 1 ∷ G 0 1 ∷ T 5 2 ∷ F 2 0 ∷ G 2 5 ∷ G 4 3 ∷ T 0 5 ∷ F 3 2 ∷ shut_reach (T 3 6) ∷ G 1 3 ∷ F 4 1 ∷ T 2 0 ∷ []))
    (net 4 (T 1 1 ∷ G 0 1 ∷ T 0 0 ∷ G 0 0 ∷ G 1 2 ∷ F 2 0 ∷ G 1 2 ∷ [])) ∷ []

-- They hold.
abbrev pub ContractionsHold : List Contraction → Type 0
ContractionsHold [] = Unit {0}
ContractionsHold (c ∷ l) = (contracted c.network ≡ c.smaller) × ContractionsHold l
