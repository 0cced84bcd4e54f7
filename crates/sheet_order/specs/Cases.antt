-- Two sheets of a network, their order and the part that is handed back: the marked cases, and one for each sentence of document 02, item 5.
-- proofs/Cases.antt computes them from the definitions.
-- Assumes nothing.
use Rattle.std.specs.declared.cmp.Ordering.{Ordering}
use Rattle.network.specs.declared.Refusal.{Refusal}
use Rattle.std.specs.declared.cmp.Ordering.TheVariants.{Greater, Equal, Less}
use Rattle.std.specs.Prelude.{ℕ, ◌≡◌, List, [], ◌∷◌, drop, Err, Ok, Result}
use Rattle.network.specs.declared.Refusal.TheVariants.{BasinCount, EndOutOfRange, Truncated, UnknownKind, TrailingBytes, BadSetting}
use Rattle.network.specs.Networks.{Network, net}
use Rattle.network.specs.Services.{shut_reach}
use Rattle.network.specs.Cases.{G, F, T, case3}
use Rattle.sheet_format.specs.Sheets.{sheet_of}
use Rattle.sheet_order.specs.Orders.{sheet_order}
use Rattle.sheet_order.specs.Parts.{differing_record}

-- Two sheets of a network, their order, and the bytes of the part.
pub record Comparison : Type 0 where
  pub network : Network
  pub first : List ℕ
  pub second : List ℕ
  pub order : Result Ordering Refusal
  pub bytes : List ℕ

abbrev pub of_sheets : Network → List ℕ → List ℕ → Result Ordering Refusal → List ℕ → Comparison
of_sheets N f g o b = record { network = N; first = f; second = g; order = o; bytes = b }

-- The same of the sheets of two settings.
abbrev pub of_settings : Network → List ℕ → List ℕ → Result Ordering Refusal → List ℕ → Comparison
of_settings N s t o b = of_sheets N (sheet_of N s) (sheet_of N t) o b

-- The bytes of the part, where the sheets differ from byte k on.
abbrev pub part_bytes : ℕ → Result Ordering Refusal → List ℕ → List ℕ → List ℕ
part_bytes k (Err x) f g = []
part_bytes k (Ok Equal) f g = []
part_bytes k (Ok Less) f g = drop k f
part_bytes k (Ok Greater) f g = drop k g

-- Both plans of case 3, and one of its settings that is no plan.
abbrev earlier : List ℕ
earlier = 16 ∷ 2 ∷ 0 ∷ 17 ∷ 0 ∷ 0 ∷ 18 ∷ 1 ∷ 0 ∷ 9 ∷ []

abbrev later : List ℕ
later = 16 ∷ 2 ∷ 0 ∷ 18 ∷ 0 ∷ 0 ∷ 17 ∷ 1 ∷ 0 ∷ 9 ∷ []

abbrev no_plan : List ℕ
no_plan = 16 ∷ 2 ∷ 0 ∷ 17 ∷ 0 ∷ 0 ∷ 17 ∷ 1 ∷ 0 ∷ 9 ∷ []

-- One basin with three gated loops, and with two between which stand a two-way reach and a shut gate: every setting is a plan.
abbrev loops : Network
loops = net 1 (G 0 0 ∷ G 0 0 ∷ G 0 0 ∷ [])

abbrev apart : Network
apart = net 1 (G 0 0 ∷ T 0 0 ∷ shut_reach (G 0 0) ∷ G 0 0 ∷ [])

abbrev pub comparisons : List Comparison
comparisons =
    -- Case 3: "which is earlier, or that they are equal", and the part "from the first differing record to that sheet's end".
    of_sheets case3 earlier later (Ok Less) (17 ∷ 0 ∷ 0 ∷ 18 ∷ 1 ∷ 0 ∷ 9 ∷ []) ∷
    of_sheets case3 later earlier (Ok Greater) (17 ∷ 0 ∷ 0 ∷ 18 ∷ 1 ∷ 0 ∷ 9 ∷ []) ∷
    of_sheets case3 earlier earlier (Ok Equal) [] ∷ of_sheets case3 later later (Ok Equal) [] ∷
    -- Cases 1, 4, 6 and 8 have one plan each, 7 and 9 two; 2, 5, 10 and 11 have none, and every sheet is refused.
    of_settings (net 1 []) [] [] (Ok Equal) [] ∷ of_settings (net 2 (T 0 1 ∷ [])) [] [] (Ok Equal) [] ∷ of_settings (net 2 []) [] [] (Ok Equal) [] ∷
    of_settings (net 2 (F 1 0 ∷ G 0 1 ∷ [])) (0 ∷ []) (0 ∷ []) (Ok Equal) [] ∷
    of_settings (net 3 (G 0 1 ∷ G 1 2 ∷ G 2 0 ∷ [])) (0 ∷ 0 ∷ 0 ∷ []) (1 ∷ 1 ∷ 1 ∷ []) (Ok Less) (17 ∷ 0 ∷ 0 ∷ 17 ∷ 1 ∷ 0 ∷ 17 ∷ 2 ∷ 0 ∷ 9 ∷ []) ∷
    of_settings (net 1 (G 0 0 ∷ [])) (1 ∷ []) (0 ∷ []) (Ok Greater) (17 ∷ 0 ∷ 0 ∷ 9 ∷ []) ∷
    of_settings (net 2 (G 0 1 ∷ [])) (0 ∷ []) (1 ∷ []) (Err BadSetting) [] ∷ of_settings (net 2 (F 0 1 ∷ [])) [] [] (Err BadSetting) [] ∷
    of_settings (net 3 (G 0 1 ∷ T 1 2 ∷ [])) (0 ∷ []) (0 ∷ []) (Err BadSetting) [] ∷
    of_settings (net 3 (F 0 1 ∷ G 1 2 ∷ [])) (0 ∷ []) (1 ∷ []) (Err BadSetting) [] ∷
    -- They part at the last gate, at one between, and at the first although the later gates are as drawn on the later sheet.
    of_settings loops (0 ∷ 1 ∷ 0 ∷ []) (0 ∷ 1 ∷ 1 ∷ []) (Ok Less) (17 ∷ 2 ∷ 0 ∷ 9 ∷ []) ∷
    of_settings loops (1 ∷ 1 ∷ 0 ∷ []) (1 ∷ 0 ∷ 1 ∷ []) (Ok Greater) (17 ∷ 1 ∷ 0 ∷ 18 ∷ 2 ∷ 0 ∷ 9 ∷ []) ∷
    of_settings loops (0 ∷ 1 ∷ 1 ∷ []) (1 ∷ 0 ∷ 0 ∷ []) (Ok Less) (17 ∷ 0 ∷ 0 ∷ 18 ∷ 1 ∷ 0 ∷ 18 ∷ 2 ∷ 0 ∷ 9 ∷ []) ∷
    -- The place goes by the gated reaches, not by all: reach 3 is the second gate.
    of_settings apart (1 ∷ 1 ∷ []) (1 ∷ 0 ∷ []) (Ok Greater) (17 ∷ 3 ∷ 0 ∷ 9 ∷ []) ∷
    -- "The first sheet's refusal before the second's", each "read in full"; the table comes before both.
    of_sheets case3 [] (17 ∷ []) (Err Truncated) [] ∷ of_sheets case3 (17 ∷ []) [] (Err UnknownKind) [] ∷
    of_sheets case3 earlier (17 ∷ []) (Err UnknownKind) [] ∷ of_sheets case3 no_plan [] (Err BadSetting) [] ∷
    of_sheets case3 later no_plan (Err BadSetting) [] ∷ of_sheets case3 (16 ∷ 3 ∷ 0 ∷ []) [] (Err BadSetting) [] ∷
    of_sheets case3 earlier (16 ∷ 2 ∷ 0 ∷ 17 ∷ 0 ∷ 0 ∷ 18 ∷ 1 ∷ 0 ∷ 9 ∷ 9 ∷ []) (Err TrailingBytes) [] ∷
    of_sheets (net 0 []) [] (17 ∷ []) (Err BasinCount) [] ∷ of_sheets (net 2 (G 0 2 ∷ [])) [] (17 ∷ []) (Err EndOutOfRange) [] ∷ []

-- They hold.
abbrev pub ComparisonHolds : Comparison → Type 0
ComparisonHolds c =
    (sheet_order c.network c.first c.second ≡ c.order)
    × (part_bytes (differing_record c.network c.first c.second) c.order c.first c.second ≡ c.bytes)

abbrev pub ComparisonsHold : List Comparison → Type 0
ComparisonsHold [] = Unit {0}
ComparisonsHold (c ∷ l) = ComparisonHolds c × ComparisonsHold l
