-- Settings and the longest of their fewest counts: the marked cases, and one or more for each sentence of document 02, item 6. proofs/Cases.antt computes them from
-- the definitions.
-- Assumes nothing.
use Rattle.network.specs.declared.Refusal.{Refusal}
use Rattle.std.specs.Prelude.{ℕ, ◌≡◌, List, [], ◌∷◌, Err, Ok, Result}
use Rattle.network.specs.declared.Refusal.TheVariants.{BasinCount, EndOutOfRange, BadSetting}
use Rattle.network.specs.Networks.{Network, net}
use Rattle.network.specs.Services.{shut_reach}
use Rattle.network.specs.Cases.{G, F, T, case3}
use Rattle.distances.specs.Answers.{diameter_of}

-- A network, a setting, and the answer.
pub record Span : Type 0 where
  pub network : Network
  pub setting : List ℕ
  pub answer : Result ℕ Refusal

abbrev pub spans : Network → List ℕ → ℕ → Span
spans N s d = record { network = N; setting = s; answer = Ok d }

abbrev pub no_plan : Network → List ℕ → Span
no_plan N s = record { network = N; setting = s; answer = Err BadSetting }

-- Case 7, and a ring of four gates.
abbrev pub case7 : Network
case7 = net 3 (G 0 1 ∷ G 1 2 ∷ G 2 0 ∷ [])

abbrev pub ring4 : Network
ring4 = net 4 (G 0 1 ∷ G 1 2 ∷ G 2 3 ∷ G 3 0 ∷ [])

abbrev pub span_cases : List Span
span_cases =
    -- Cases 1 and 6: no basin is wet. Case 9: one is.
    spans (net 1 []) [] 0 ∷ spans (net 2 []) [] 0 ∷ spans (net 1 (G 0 0 ∷ [])) (0 ∷ []) 0 ∷ spans (net 1 (G 0 0 ∷ [])) (1 ∷ []) 0 ∷
    -- Cases 2, 5, 10 and 11 have no plan, and in case 3 the settings 00 and 11 are none.
    no_plan (net 2 (G 0 1 ∷ [])) (0 ∷ []) ∷ no_plan (net 2 (F 0 1 ∷ [])) [] ∷ no_plan (net 3 (G 0 1 ∷ T 1 2 ∷ [])) (1 ∷ []) ∷ no_plan (net 3 (F 0 1 ∷ G 1 2 ∷ [])) (0 ∷ []) ∷
    no_plan case3 (0 ∷ 0 ∷ []) ∷ no_plan case3 (1 ∷ 1 ∷ []) ∷
    -- Cases 3, 4 and 8: one reach each way.
    spans case3 (0 ∷ 1 ∷ []) 1 ∷ spans case3 (1 ∷ 0 ∷ []) 1 ∷ spans (net 2 (T 0 1 ∷ [])) [] 1 ∷ spans (net 2 (F 1 0 ∷ G 0 1 ∷ [])) (0 ∷ []) 1 ∷
    -- Case 7: round the ring, as drawn and turned; with a gate turned by itself it is no plan.
    spans case7 (0 ∷ 0 ∷ 0 ∷ []) 2 ∷ spans case7 (1 ∷ 1 ∷ 1 ∷ []) 2 ∷ no_plan case7 (0 ∷ 1 ∷ 0 ∷ []) ∷
    -- A ring of four, and a path of two-way reaches: the longest is one less than the wet basins. A two-way reach across makes it less. (README's example.)
    spans ring4 (0 ∷ 0 ∷ 0 ∷ 0 ∷ []) 3 ∷ no_plan ring4 (0 ∷ 1 ∷ 0 ∷ 0 ∷ []) ∷ spans (net 4 (T 2 0 ∷ T 0 3 ∷ T 3 1 ∷ [])) [] 3 ∷
    spans (net 4 (G 0 1 ∷ G 1 2 ∷ G 2 3 ∷ G 3 0 ∷ T 0 2 ∷ [])) (0 ∷ 0 ∷ 0 ∷ 0 ∷ []) 2 ∷
    -- The longest is between 1 and 2; from basin 0 none is as spans.
    spans (net 3 (F 0 1 ∷ F 0 2 ∷ F 1 0 ∷ F 2 0 ∷ [])) [] 2 ∷
    -- Of two walks the shorter counts, whichever stands first; a loop is crossed in no fewest count.
    spans (net 3 (F 0 1 ∷ F 1 2 ∷ F 0 2 ∷ F 2 0 ∷ F 1 1 ∷ [])) [] 2 ∷ spans (net 3 (F 0 2 ∷ F 2 0 ∷ F 1 2 ∷ F 0 1 ∷ [])) [] 2 ∷
    -- Dry basins do not count, and a shut reach passes no water: basin 1 is dry in the first, and the way across is shut in the second.
    spans (net 4 (T 0 2 ∷ shut_reach (T 0 1) ∷ T 2 3 ∷ [])) [] 2 ∷ spans (net 4 (F 0 1 ∷ F 1 2 ∷ F 2 3 ∷ F 3 0 ∷ shut_reach (T 0 2) ∷ [])) [] 3 ∷
    -- A wrong length and a byte over 1 are 8 too, after 1 and 3.
    no_plan case3 (0 ∷ []) ∷ no_plan case3 (0 ∷ 1 ∷ 0 ∷ []) ∷ no_plan case3 (0 ∷ 2 ∷ []) ∷
    record { network = net 0 []; setting = 9 ∷ []; answer = Err BasinCount } ∷ record { network = net 2 (G 0 2 ∷ []); setting = []; answer = Err EndOutOfRange } ∷ []

-- They hold.
abbrev pub SpansHold : List Span → Type 0
SpansHold [] = Unit {0}
SpansHold (c ∷ l) = (diameter_of c.network c.setting ≡ c.answer) × SpansHold l
