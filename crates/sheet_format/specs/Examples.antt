-- Sheets on both edges, and the reply sheets of the marked cases. proofs/Examples.antt computes them from the definitions.
-- Assumes nothing.
use Rattle.std.specs.Prelude.{ℕ, suc, List, [], ◌∷◌, ◌++◌}
use Rattle.network.specs.Networks.{Network, net, max_basins}
use Rattle.network.specs.Services.{shut_reach}
use Rattle.network.specs.Cases.{G, F, T, first_byte, case3}

-- Case 3 with a two-way reach between its two gated ones, so that these have the numbers 0 and 2.
abbrev pub mixed : Network
mixed = net 2 (G 0 1 ∷ T 0 1 ∷ G 0 1 ∷ [])

-- The same with a shut gate between them.
abbrev pub shut_between : Network
shut_between = net 2 (G 0 1 ∷ shut_reach (G 0 1) ∷ G 0 1 ∷ [])

-- A network, the bytes of a sheet, and document 01's number for reading them, 0 where they are read.
abbrev pub sheets : List (Network × (List ℕ) × ℕ)
sheets =
    -- both plans of case 3, and two settings that are no plan
    (case3, 16 ∷ 2 ∷ 0 ∷ 17 ∷ 0 ∷ 0 ∷ 18 ∷ 1 ∷ 0 ∷ 9 ∷ [], 0)
    ∷ (case3, 16 ∷ 2 ∷ 0 ∷ 18 ∷ 0 ∷ 0 ∷ 17 ∷ 1 ∷ 0 ∷ 9 ∷ [], 0)
    ∷ (case3, 16 ∷ 2 ∷ 0 ∷ 17 ∷ 0 ∷ 0 ∷ 17 ∷ 1 ∷ 0 ∷ 9 ∷ [], 8)
    ∷ (case3, 16 ∷ 2 ∷ 0 ∷ 18 ∷ 0 ∷ 0 ∷ 18 ∷ 1 ∷ 0 ∷ 9 ∷ [], 8)
    -- the table comes before the sheet
    ∷ (net 0 [], [], 1) ∷ (net (suc max_basins) [], [], 1) ∷ (net 2 (G 0 2 ∷ []), [], 3)
    -- the head: nothing, part of it, another kind, a wrong number
    ∷ (case3, [], 4) ∷ (case3, 16 ∷ 2 ∷ [], 4) ∷ (case3, 17 ∷ [], 5) ∷ (case3, 20 ∷ [], 5) ∷ (case3, 16 ∷ 3 ∷ 0 ∷ [], 8)
    -- a record: none, part of it, another kind, a wrong reach, one twice, one too many, one too few
    ∷ (case3, 16 ∷ 2 ∷ 0 ∷ [], 4) ∷ (case3, 16 ∷ 2 ∷ 0 ∷ 17 ∷ 0 ∷ [], 4) ∷ (case3, 16 ∷ 2 ∷ 0 ∷ 16 ∷ [], 5)
    ∷ (case3, 16 ∷ 2 ∷ 0 ∷ 18 ∷ 1 ∷ 0 ∷ [], 8) ∷ (case3, 16 ∷ 2 ∷ 0 ∷ 17 ∷ 0 ∷ 0 ∷ 18 ∷ 0 ∷ 0 ∷ 9 ∷ [], 8)
    ∷ (case3, 16 ∷ 2 ∷ 0 ∷ 17 ∷ 0 ∷ 0 ∷ 18 ∷ 1 ∷ 0 ∷ 17 ∷ 2 ∷ 0 ∷ 9 ∷ [], 8)
    ∷ (case3, 16 ∷ 2 ∷ 0 ∷ 17 ∷ 0 ∷ 0 ∷ 9 ∷ 9 ∷ [], 8)
    -- a byte after the end is 6 before the setting is judged; the end before all have theirs is 8 before that
    ∷ (case3, 16 ∷ 2 ∷ 0 ∷ 17 ∷ 0 ∷ 0 ∷ 17 ∷ 1 ∷ 0 ∷ 9 ∷ 9 ∷ [], 6)
    -- a record has the number among all reaches
    ∷ (mixed, 16 ∷ 2 ∷ 0 ∷ 17 ∷ 0 ∷ 0 ∷ 18 ∷ 2 ∷ 0 ∷ 9 ∷ [], 0)
    ∷ (mixed, 16 ∷ 2 ∷ 0 ∷ 17 ∷ 0 ∷ 0 ∷ 18 ∷ 1 ∷ 0 ∷ 9 ∷ [], 8)
    -- a shut gate has no record
    ∷ (shut_between, 16 ∷ 2 ∷ 0 ∷ 17 ∷ 0 ∷ 0 ∷ 18 ∷ 2 ∷ 0 ∷ 9 ∷ [], 0)
    ∷ (shut_between, 16 ∷ 3 ∷ 0 ∷ 17 ∷ 0 ∷ 0 ∷ 17 ∷ 1 ∷ 0 ∷ 18 ∷ 2 ∷ 0 ∷ 9 ∷ [], 8)
    ∷ (shut_between, 16 ∷ 2 ∷ 0 ∷ 17 ∷ 0 ∷ 0 ∷ 18 ∷ 1 ∷ 0 ∷ 9 ∷ [], 8)
    -- dry basins are not asked for: case 6, and case 3 on the basins 1 and 3 of five with a plan and with a setting that is none
    ∷ (net 2 [], 16 ∷ 0 ∷ 0 ∷ 9 ∷ [], 0)
    ∷ (net 5 (G 1 3 ∷ G 1 3 ∷ []), 16 ∷ 2 ∷ 0 ∷ 17 ∷ 0 ∷ 0 ∷ 18 ∷ 1 ∷ 0 ∷ 9 ∷ [], 0)
    ∷ (net 5 (G 1 3 ∷ G 1 3 ∷ []), 16 ∷ 2 ∷ 0 ∷ 17 ∷ 0 ∷ 0 ∷ 17 ∷ 1 ∷ 0 ∷ 9 ∷ [], 8)
    ∷ []

-- A network and its reply's sheet: the cases 1, 2, 3, 5, 6, 10, case 3 with one more gate shut and with its first gate shut, and the cases 2 and 5 on the basins 1 and 3
-- of five.
abbrev pub replies : List (Network × List ℕ)
replies =
    (net 1 [], 16 ∷ 0 ∷ 0 ∷ 9 ∷ [])
    ∷ (net 2 (G 0 1 ∷ []), 21 ∷ 0 ∷ 0 ∷ (first_byte 2 ++ (9 ∷ [])))
    ∷ (case3, 16 ∷ 2 ∷ 0 ∷ 17 ∷ 0 ∷ 0 ∷ 18 ∷ 1 ∷ 0 ∷ 9 ∷ [])
    ∷ (net 2 (F 0 1 ∷ []), 20 ∷ (first_byte 2 ++ (9 ∷ [])))
    ∷ (net 2 [], 16 ∷ 0 ∷ 0 ∷ 9 ∷ [])
    ∷ (net 3 (G 0 1 ∷ T 1 2 ∷ []), 21 ∷ 0 ∷ 0 ∷ (first_byte 6 ++ (9 ∷ [])))
    ∷ (shut_between, 16 ∷ 2 ∷ 0 ∷ 17 ∷ 0 ∷ 0 ∷ 18 ∷ 2 ∷ 0 ∷ 9 ∷ [])
    ∷ (net 2 (shut_reach (G 0 1) ∷ G 0 1 ∷ []), 21 ∷ 1 ∷ 0 ∷ (first_byte 2 ++ (9 ∷ [])))
    ∷ (net 5 (G 1 3 ∷ []), 21 ∷ 0 ∷ 0 ∷ (first_byte 8 ++ (9 ∷ [])))
    ∷ (net 5 (F 1 3 ∷ []), 20 ∷ (first_byte 8 ++ (9 ∷ [])))
    ∷ []
