-- The longest of the fewest counts. In the field's terms: the diameter of the network under a setting.
-- Assumes nothing.
use Rattle.std.specs.Prelude.{ℕ, max, ◌≤◌, ◌<◌, ◌≡◌, length}
use mathlib.Core.List.{List, [], ◌∷◌, Memᴰ}
use Rattle.network.specs.Networks.{Network, basins_of}
use Rattle.network.specs.Orientations.{Arc, arcs_under}
use Rattle.distances.specs.Distances.{fewest}

-- The greatest number that f gives a member of the list; 0 if there is none.
abbrev pub greatest : (ℕ → ℕ) → List ℕ → ℕ
greatest f [] = 0
greatest f (x ∷ xs) = max (f x) (greatest f xs)

-- The longest of the fewest counts from basin u to the basins of bs (the eccentricity of u).
abbrev pub farthest : List ℕ → List Arc → ℕ → ℕ
farthest bs A u = greatest (fewest A u) bs

-- Document 02, item 6: "the longest of the fewest counts over all ordered pairs of wet basins under a plan". Under a setting that is no plan some
-- wet basin is not reached from another, and this is 65,535.
unfoldable pub diameter : Network → List ℕ → ℕ
diameter N s = greatest (farthest (basins_of N) (arcs_under N s)) (basins_of N)

-- ---- what holds of it under a plan

-- Two wet basins of which the second is d reaches from the first, and no fewer.
pub record PairAt (N : Network) (s : List ℕ) (d : ℕ) : Type 0 where
  pub from : ℕ
  pub to : ℕ
  pub from-wet : Memᴰ from (basins_of N)
  pub to-wet : Memᴰ to (basins_of N)
  pub apart : fewest (arcs_under N s) from to ≡ d

-- "0 if there are fewer than two and, where there is any, always below the number of wet basins." It is the count of some pair, and no pair has more. It is 0
-- only if there are fewer than two.
pub record DiameterShown (N : Network) (s : List ℕ) (d : ℕ) : Type 0 where
  pub no_more : (u v : ℕ) → Memᴰ u (basins_of N) → Memᴰ v (basins_of N) → fewest (arcs_under N s) u v ≤ d
  pub some_pair : 0 < length (basins_of N) → PairAt N s d
  pub below-wet : 0 < length (basins_of N) → d < length (basins_of N)
  pub zero-if-few : length (basins_of N) < 2 → d ≡ 0
  pub few-if-zero : d ≡ 0 → length (basins_of N) < 2
