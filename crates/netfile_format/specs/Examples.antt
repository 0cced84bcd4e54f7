-- Files on both edges, each with document 01's number for it, 0 where it is read. proofs/Examples.antt computes them from the definitions.
-- Assumes nothing.
use Rattle.std.specs.Prelude.{ℕ, zero, suc, List, [], ◌∷◌, ◌++◌}
use Rattle.network.specs.Networks.{max_basins, max_reaches}
use Rattle.file_records.specs.Records.{two_bytes}

-- the bytes, so many times
abbrev pub times : ℕ → List ℕ → List ℕ
times zero f = []
times (suc n) f = f ++ times n f

abbrev pub files : List (List ℕ × ℕ)
files =
    -- the head: nothing, part of it, no basin, as many as a network may have, one more
    ([], 4) ∷ (1 ∷ 0 ∷ [], 4) ∷ (1 ∷ 0 ∷ 0 ∷ [], 1) ∷ ((1 ∷ []) ++ (two_bytes max_basins ++ (9 ∷ [])), 0) ∷ ((1 ∷ []) ++ (two_bytes (suc max_basins) ++ (9 ∷ [])), 1)
    -- kinds that may not come, each as the last byte: a reach before the head, a second head, a plan sheet's head, unknown kinds
    ∷ (2 ∷ [], 5) ∷ (1 ∷ 2 ∷ 0 ∷ 1 ∷ [], 5) ∷ (1 ∷ 2 ∷ 0 ∷ 16 ∷ [], 5) ∷ (1 ∷ 2 ∷ 0 ∷ 6 ∷ [], 5) ∷ (1 ∷ 2 ∷ 0 ∷ 200 ∷ [], 5)
    -- the end is due, part of a body is missing, a byte follows the end
    ∷ (1 ∷ 2 ∷ 0 ∷ [], 4) ∷ (1 ∷ 2 ∷ 0 ∷ 2 ∷ 9 ∷ 0 ∷ 0 ∷ [], 4) ∷ (1 ∷ 2 ∷ 0 ∷ 9 ∷ 9 ∷ [], 6)
    -- with 4 basins end 3 is taken, end 4 refused
    ∷ (1 ∷ 4 ∷ 0 ∷ 3 ∷ 0 ∷ 0 ∷ 3 ∷ 0 ∷ 9 ∷ [], 0) ∷ (1 ∷ 4 ∷ 0 ∷ 3 ∷ 0 ∷ 0 ∷ 4 ∷ 0 ∷ 9 ∷ [], 3)
    -- a shut reach: each inner kind; a wrong one, though an end is stray; a body cut before it
    ∷ (1 ∷ 2 ∷ 0 ∷ 5 ∷ 0 ∷ 0 ∷ 1 ∷ 0 ∷ 2 ∷ 5 ∷ 0 ∷ 0 ∷ 1 ∷ 0 ∷ 3 ∷ 5 ∷ 0 ∷ 0 ∷ 1 ∷ 0 ∷ 4 ∷ 9 ∷ [], 0)
    ∷ (1 ∷ 2 ∷ 0 ∷ 5 ∷ 7 ∷ 0 ∷ 1 ∷ 0 ∷ 5 ∷ 9 ∷ [], 5) ∷ (1 ∷ 2 ∷ 0 ∷ 5 ∷ 7 ∷ 0 ∷ 1 ∷ 0 ∷ 1 ∷ [], 5) ∷ (1 ∷ 2 ∷ 0 ∷ 5 ∷ 7 ∷ 0 ∷ 1 ∷ 0 ∷ [], 4)
    -- a shut reach with a stray end
    ∷ (1 ∷ 2 ∷ 0 ∷ 5 ∷ 2 ∷ 0 ∷ 1 ∷ 0 ∷ 2 ∷ 9 ∷ [], 3)
    -- case 3
    ∷ (0x01 ∷ 0x02 ∷ 0x00 ∷ 0x02 ∷ 0x00 ∷ 0x00 ∷ 0x01 ∷ 0x00 ∷ 0x02 ∷ 0x00 ∷ 0x00 ∷ 0x01 ∷ 0x00 ∷ 0x09 ∷ [], 0)
    -- as many reaches as a network may have are taken; the next is 5, 4 or 2 by its kind, its body, and its count before its ends
    ∷ ((1 ∷ 1 ∷ 0 ∷ []) ++ (times max_reaches (4 ∷ 0 ∷ 0 ∷ 0 ∷ 0 ∷ []) ++ (9 ∷ [])), 0)
    ∷ ((1 ∷ 1 ∷ 0 ∷ []) ++ (times max_reaches (4 ∷ 0 ∷ 0 ∷ 0 ∷ 0 ∷ []) ++ (1 ∷ [])), 5)
    ∷ ((1 ∷ 1 ∷ 0 ∷ []) ++ (times max_reaches (4 ∷ 0 ∷ 0 ∷ 0 ∷ 0 ∷ []) ++ (4 ∷ 7 ∷ 0 ∷ 0 ∷ [])), 4)
    ∷ ((1 ∷ 1 ∷ 0 ∷ []) ++ (times max_reaches (4 ∷ 0 ∷ 0 ∷ 0 ∷ 0 ∷ []) ++ (4 ∷ 7 ∷ 0 ∷ 0 ∷ 0 ∷ 9 ∷ [])), 2)
    -- so it is if it is shut, with its inner kind before its count
    ∷ ((1 ∷ 1 ∷ 0 ∷ []) ++ (times max_reaches (4 ∷ 0 ∷ 0 ∷ 0 ∷ 0 ∷ []) ++ (5 ∷ 7 ∷ 0 ∷ 0 ∷ 0 ∷ 9 ∷ [])), 5)
    ∷ ((1 ∷ 1 ∷ 0 ∷ []) ++ (times max_reaches (4 ∷ 0 ∷ 0 ∷ 0 ∷ 0 ∷ []) ++ (5 ∷ 7 ∷ 0 ∷ 0 ∷ 0 ∷ 3 ∷ [])), 2)
    ∷ []
