-- Inputs on both edges, each with what is printed for it. proofs/Examples.antt computes them from the definitions.
-- Assumes nothing.
use Rattle.std.specs.Prelude.{ℕ, List, [], ◌∷◌, ◌++◌, replicate}

-- a record of a gated reach, a flap and a shut reach with its inner kind, between basins below 256
abbrev pub gated : ℕ → ℕ → List ℕ
gated a b = 2 ∷ a ∷ 0 ∷ b ∷ 0 ∷ []

abbrev pub flap : ℕ → ℕ → List ℕ
flap a b = 3 ∷ a ∷ 0 ∷ b ∷ 0 ∷ []

abbrev pub shut : ℕ → ℕ → ℕ → List ℕ
shut k a b = 5 ∷ a ∷ 0 ∷ b ∷ 0 ∷ k ∷ []

-- a file of so many basins
abbrev pub file_with : ℕ → List ℕ → List ℕ
file_with n reaches = (1 ∷ n ∷ 0 ∷ []) ++ (reaches ++ (9 ∷ []))

-- `refused ` and a newline after the digits
abbrev pub refused_with : List ℕ → List ℕ
refused_with digits = (114 ∷ 101 ∷ 102 ∷ 117 ∷ 115 ∷ 101 ∷ 100 ∷ 32 ∷ []) ++ (digits ++ (10 ∷ []))

-- `end` and its newline
abbrev pub ending : List ℕ
ending = 101 ∷ 110 ∷ 100 ∷ 10 ∷ []

-- `more` and its newline
abbrev pub more : List ℕ
more = 109 ∷ 111 ∷ 114 ∷ 101 ∷ 10 ∷ []

abbrev pub examples : List (List ℕ × List ℕ)
examples =
    -- case 3: `01`, `10`, `end`
    (0x01 ∷ 0x02 ∷ 0x00 ∷ 0x02 ∷ 0x00 ∷ 0x00 ∷ 0x01 ∷ 0x00 ∷ 0x02 ∷ 0x00 ∷ 0x00 ∷ 0x01 ∷ 0x00 ∷ 0x09 ∷ [], 48 ∷ 49 ∷ 10 ∷ 49 ∷ 48 ∷ 10 ∷ ending)
    -- case 1, no gated reach: `-`, `end`
    ∷ (file_with 1 [], 45 ∷ 10 ∷ ending)
    -- case 8, one plan: `0`, `end`
    ∷ (file_with 2 (flap 1 0 ++ gated 0 1), 48 ∷ 10 ∷ ending)
    -- nothing; no basin; a stray end; a byte after the end: `refused 4`, 1, 3 and 6
    ∷ ([], refused_with (52 ∷ [])) ∷ (file_with 0 [], refused_with (49 ∷ [])) ∷ (file_with 2 (gated 0 2), refused_with (51 ∷ [])) ∷ (file_with 1 (9 ∷ []), refused_with (54 ∷ []))
    -- case 5, shut in, and case 2, a lone reach: `refused 9` and `refused 10`
    ∷ (file_with 2 (flap 0 1), refused_with (57 ∷ [])) ∷ (file_with 2 (gated 0 1), refused_with (49 ∷ 48 ∷ []))
    -- case 6, two dry basins: `-`, `end`; case 3 on the basins 1 and 3 of five: `01`, `10`, `end`
    ∷ (file_with 2 [], 45 ∷ 10 ∷ ending) ∷ (file_with 5 (gated 1 3 ++ gated 1 3), 48 ∷ 49 ∷ 10 ∷ 49 ∷ 48 ∷ 10 ∷ ending)
    -- case 3 with a third gate that is shut: `01`, `10`, `end`; with one of its two shut: `refused 10`; a wrong inner kind: `refused 5`
    ∷ (file_with 2 (gated 0 1 ++ (shut 2 0 1 ++ gated 0 1)), 48 ∷ 49 ∷ 10 ∷ 49 ∷ 48 ∷ 10 ∷ ending)
    ∷ (file_with 2 (shut 2 0 1 ++ gated 0 1), refused_with (49 ∷ 48 ∷ [])) ∷ (file_with 2 (shut 5 0 1 ++ gated 0 1), refused_with (53 ∷ []))
    -- more than 8,000 bytes, of which the first four are a file: `refused 6`
    ∷ (file_with 1 [] ++ replicate 7997 0, refused_with (54 ∷ []))
    ∷ []

-- The plans of case 3, where 0, 1, 2 and 3 of them may be printed: `more`; `01`, `more`; `01`, `10`, `end`, twice.
abbrev pub limits : List (ℕ × List ℕ)
limits =
    (0, more) ∷ (1, 48 ∷ 49 ∷ 10 ∷ more) ∷ (2, 48 ∷ 49 ∷ 10 ∷ 49 ∷ 48 ∷ 10 ∷ ending) ∷ (3, 48 ∷ 49 ∷ 10 ∷ 49 ∷ 48 ∷ 10 ∷ ending) ∷ []
