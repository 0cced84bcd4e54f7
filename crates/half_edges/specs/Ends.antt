-- A reach table as two lists of ends, its half-edges, and what it passes.
-- Assumes nothing.
use Rattle.std.specs.Prelude.{ℕ, zero, suc, ◌*◌, ◌/◌, ◌%◌, Bool, true, false, ◌||◌, length, get_or, eqb}
use mathlib.Core.List.{List, [], ◌∷◌, ◌++◌, map, Memᴰ}
use Rattle.network.specs.Orientations.{Arc, arc, passing}

-- What the reaches with ends A xs and ends B ys pass, each in its way. proofs/Laws.antt: the `arcs` of the table with these ends.
abbrev pub arcs_of : List ℕ → List ℕ → List ℕ → List Arc
arcs_of [] ys ws = []
arcs_of (a ∷ xs) [] ws = []
arcs_of (a ∷ xs) (b ∷ ys) [] = []
arcs_of (a ∷ xs) (b ∷ ys) (w ∷ ws) = passing w a b ++ arcs_of xs ys ws

-- w is the end of an arc from u.
abbrev pub Next : List Arc → ℕ → ℕ → Type 0
Next A u w = Memᴰ (arc u w) A

-- The way against the arrows.
abbrev pub flip_way : ℕ → ℕ
flip_way zero = 1
flip_way (suc zero) = 0
flip_way (suc (suc w)) = suc (suc w)

-- The ways as they are or, if so asked, each against the arrows.
abbrev pub sided : Bool → List ℕ → List ℕ
sided false ws = ws
sided true ws = map flip_way ws

-- Reach i has the half-edge 2 i at its end A, and 2 i + 1 at its end B.
abbrev pub halves : List ℕ → ℕ
halves xs = 2 * length xs

-- at side 0 the first, at any other side the second
abbrev pub pick : ℕ → ℕ → ℕ → ℕ
pick zero x y = x
pick (suc s) x y = y

-- The basin at which half-edge h stands.
abbrev pub end_of : List ℕ → List ℕ → ℕ → ℕ
end_of xs ys h = pick (h % 2) (get_or xs (h / 2) 0) (get_or ys (h / 2) 0)

-- The basin at the far end of its reach.
abbrev pub other_of : List ℕ → List ℕ → ℕ → ℕ
other_of xs ys h = end_of ys xs h

-- A reach passes away from the basin of its half-edge h: way 0 at an even h, way 1 at an odd h, way 2 at both.
abbrev pub leaves : List ℕ → ℕ → Bool
leaves ws h = eqb (get_or ws (h / 2) 0) 2 || eqb (get_or ws (h / 2) 0) (h % 2)
