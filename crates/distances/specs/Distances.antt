-- How far the water goes from basin to basin. Document 02, item 6: "the gauge crews ask how many reaches it crosses".
-- Assumes nothing.
use Rattle.std.specs.Prelude.{ℕ, suc, ◌+◌, min, Bool, cond, get_or, eqb, ltb}
use mathlib.Core.List.{List, [], ◌∷◌, Memᴰ}
use Rattle.network.specs.Orientations.{Arc, arc}

-- ".. or 65,535 if it isn't reached."
abbrev pub unreached : ℕ
unreached = 65535

-- A walk of k arcs from u to v along A: water crosses k reaches, each taken the way it passes. It is a `Walk` whose arcs are counted.
pub data WalkOf (A : List Arc) : ℕ → ℕ → ℕ → Type 0 where
  none-crossed : {u : ℕ} → WalkOf A 0 u u
  crossing : {k u v w : ℕ} → Memᴰ (arc u v) A → WalkOf A k v w → WalkOf A (suc k) u w

-- "The fewest reaches" that water crosses from u to v along A: the least number of arcs of a walk, 0 from a basin to itself; or `unreached`. As `reached` does, it
-- goes without the first arc, or up to that arc's start, through it, and on from its end, whichever is less. Nothing exceeds `unreached`, so that
-- two parts of which one is not there are not less.
-- proofs/Distances.antt: a walk of that many arcs exists, and none is shorter.
abbrev pub fewest : List Arc → ℕ → ℕ → ℕ
fewest [] u v = cond (eqb u v) 0 unreached
fewest (arc a b ∷ A) u v = min (fewest A u v) (fewest A u a + 1 + fewest A b v)

-- A row holds a number for each basin. Basin v is noted as reached where its number is below 65,535.
abbrev pub noted : List ℕ → ℕ → Bool
noted row v = ltb (get_or row v 0) unreached
