-- What a search does: how the counts and the queue grow, and what it finds.
-- Assumes nothing.
use Rattle.std.specs.Prelude.{ℕ, suc, ◌+◌, ◌≤◌, ◌<◌, ◌≡◌, cond, List, [], ◌∷◌, length, get_or, set, ltb}
use Rattle.network.specs.Orientations.{Arc}
use Rattle.distances.specs.Distances.{unreached, fewest}
use Rattle.half_edges.specs.Ends.{Next}
use Rattle.half_edges.specs.declared.Graph.{Graph}

-- A basin is seen where its count is below 65,535.
abbrev pub Seen : List ℕ → ℕ → Type 0
Seen seen v = get_or seen v 0 < unreached

-- It is not seen where that is 65,535.
abbrev pub Unseen : List ℕ → ℕ → Type 0
Unseen seen v = unreached ≤ get_or seen v 0

-- the number of basins that are not seen
abbrev pub unseen : List ℕ → ℕ
unseen [] = 0
unseen (x ∷ seen) = cond (ltb x unreached) (unseen seen) (suc (unseen seen))

-- A visit of w with a count: for a basin that was not seen it is noted, and the basin queued.
pub data Visited (w count : ℕ) (seen queue : List ℕ) (tail : ℕ) : List ℕ → List ℕ → ℕ → Type 0 where
  first : Unseen seen w → Visited w count seen queue tail (set seen w count) (set queue tail w) (tail + 1)
  again : Seen seen w → Visited w count seen queue tail seen queue tail

-- Visits, all with one count, of basins that pass the test P.
pub data Grown (P : ℕ → Type 0) (count : ℕ) (seen queue : List ℕ) (tail : ℕ) : List ℕ → List ℕ → ℕ → Type 0 where
  stay : Grown P count seen queue tail seen queue tail
  more : {w tail' tail'' : ℕ} {seen' queue' seen'' queue'' : List ℕ} → Grown P count seen queue tail seen' queue' tail' → P w
      → Visited w count seen' queue' tail' seen'' queue'' tail'' → Grown P count seen queue tail seen'' queue'' tail''

-- What a scan of the basin at place `at` of the queue requires.
pub record Scannable (g : Graph) (ws seen queue : List ℕ) (at tail count : ℕ) : Type 0 where
  pub ways-room : length g.a.now ≤ length ws
  pub seen-room : g.basins ≤ length seen
  pub waiting : at < tail
  pub basin : get_or queue at 0 < g.basins
  pub room : tail + unseen seen ≤ length queue
  pub counts : count < unreached

-- What it leaves: only ends of arcs from that basin were visited, each with the count, and all of them are seen.
pub record Scanned (A : List Arc) (u count : ℕ) (seen queue : List ℕ) (tail : ℕ) (seen' queue' : List ℕ) (tail' : ℕ) : Type 0 where
  pub grown : Grown (Next A u) count seen queue tail seen' queue' tail'
  pub closed : (w : ℕ) → Next A u w → Seen seen' w

-- What a search requires: ways for the reaches of the graph, fewer basins than 65,535, so that no count is 65,535, a basin to start at, and room.
pub record Searchable (g : Graph) (ws : List ℕ) (start : ℕ) (seen queue : List ℕ) : Type 0 where
  pub ways-room : length g.a.now ≤ length ws
  pub few-basins : g.basins < unreached
  pub starts : start < g.basins
  pub seen-room : g.basins ≤ length seen
  pub queue-room : length seen ≤ length queue

-- What it leaves. Document 02, item 6: "The search for the basins reached from one basin now promises for each the fewest reaches, or 65,535 if it isn't
-- reached." What seen holds past the n basins is free, and so is the queue.
abbrev pub Noted : List Arc → ℕ → ℕ → List ℕ → Type 0
Noted A n start seen = (v : ℕ) → v < n → get_or seen v 0 ≡ fewest A start v
