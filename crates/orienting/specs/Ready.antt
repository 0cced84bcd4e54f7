-- A graph ready to be searched, and what single searches find.
-- Assumes nothing.
use Rattle.std.specs.Prelude.{ℕ, ◌≤◌, ◌<◌, ◌≡◌, true, false, length, Option, IfSome}
use Rattle.std.specs.Option.{unwrap_or}
use mathlib.Core.List.{List, Memᴰ}
use Rattle.network.specs.Networks.{Network, max_basins, basins_of}
use Rattle.network.specs.Orientations.{Arc, reached}
use Rattle.network.specs.Plans.{reaches_all}
use Rattle.half_edges.specs.declared.Graph.{Graph}

-- A graph of one basin at least and no more than the limit, with a way for each reach, and room for a search.
pub record Ready (g : Graph) (ws seen queue : List ℕ) : Type 0 where
  pub some-basin : 0 < g.basins
  pub few-basins : g.basins ≤ max_basins
  pub ways-full : length ws ≡ length g.a.now
  pub seen-room : g.basins ≤ length seen
  pub queue-room : length seen ≤ length queue

-- Such a graph with a kind for each reach, and one of its reaches.
pub record AtReach (g : Graph) (ks ws : List ℕ) (i : ℕ) (seen queue : List ℕ) : Type 0 where
  pub ready : Ready g ws seen queue
  pub kinds-full : length ks ≡ length g.a.now
  pub below : i < length g.a.now

-- r is the lowest wet basin that is not reached from start along A, or none if all are.
pub record FirstUnreached (N : Network) (A : List Arc) (start : ℕ) (r : Option ℕ) : Type 0 where
  pub lower : (v : ℕ) → Memᴰ v (basins_of N) → v < unwrap_or r N.basins → reached A start v ≡ true
  pub at : IfSome r (λ v. Memᴰ v (basins_of N) × (reached A start v ≡ false))

-- r is the shut-in basin of document 01, the lowest wet basin that does not reach all wet basins along A; or none if all do.
pub record ShutInBasin (N : Network) (A : List Arc) (r : Option ℕ) : Type 0 where
  pub bound : IfSome r (λ u. u < N.basins)
  pub lower : (u : ℕ) → Memᴰ u (basins_of N) → u < unwrap_or r N.basins → reaches_all (basins_of N) A u ≡ true
  pub at : IfSome r (λ u. Memᴰ u (basins_of N) × (reaches_all (basins_of N) A u ≡ false))
