-- A search under way: what is seen and queued, and what waits in the queue.
-- Assumes nothing.
use Rattle.std.specs.Prelude.{ℕ, ◌+◌, ◌≤◌, ◌<◌, ◌≡◌, ◌⊎◌, List, length, get_or}
use Rattle.network.specs.Orientations.{Arc, Walk}
use Rattle.distances.specs.Distances.{unreached, WalkOf}
use Rattle.half_edges.specs.Ends.{Next}
use Rattle.search.specs.Searches.{Seen, unseen}

-- There is room in the queue for every unseen basin.
abbrev pub QueueRoom : List ℕ → List ℕ → ℕ → Type 0
QueueRoom seen queue tail = tail + unseen seen ≤ length queue

-- v stands in the queue at a place from f on and below t.
pub record Waits (queue : List ℕ) (f t v : ℕ) : Type 0 where
  pub place : ℕ
  pub from : f ≤ place
  pub below : place < t
  pub here : get_or queue place 0 ≡ v

-- Only what is reached is seen and queued, no note is over 65,535, and there is room.
pub record Sound (A : List Arc) (n start : ℕ) (seen queue : List ℕ) (tail : ℕ) : Type 0 where
  pub low : (v : ℕ) → v < n → get_or seen v 0 ≤ unreached
  pub walked : (v : ℕ) → v < n → Seen seen v → Walk A start v
  pub basins : (k : ℕ) → k < tail → get_or queue k 0 < n
  pub walks : (k : ℕ) → k < tail → Walk A start (get_or queue k 0)
  pub room : QueueRoom seen queue tail
  pub long : n ≤ length seen

-- Every arc from v leads to a basin that is seen.
abbrev pub Closed : List Arc → List ℕ → ℕ → Type 0
Closed A seen v = (w : ℕ) → Next A v w → Seen seen w

-- All that is reached from start is on its way: what is seen stands in the queue from place `at` on, or is closed.
pub record Searching (A : List Arc) (n start : ℕ) (seen queue : List ℕ) (at tail : ℕ) : Type 0 where
  pub sound : Sound A n start seen queue tail
  pub open-or-closed : (v : ℕ) → v < n → Seen seen v → Waits queue at tail v ⊎ Closed A seen v
  pub started : Seen seen start
  pub placed : at ≤ tail

-- The counts of a search that counts. That of start is 0. Each is that of a walk, and each smaller number is the count of some basin; all that was queued is seen. Along what waits in
-- the queue the counts do not fall, and none is more than one above the first of them. A basin that no longer waits leads to counts of at most one more.
pub record Counting (A : List Arc) (n start : ℕ) (seen queue : List ℕ) (at tail : ℕ) : Type 0 where
  pub origin : get_or seen start 0 ≡ 0
  pub counted : (v : ℕ) → v < n → Seen seen v → WalkOf A (get_or seen v 0) start v
  pub attained : (v : ℕ) → v < n → Seen seen v → (d : ℕ) → d < get_or seen v 0 → (u : ℕ) × (u < n) × (get_or seen u 0 ≡ d)
  pub queued : (k : ℕ) → k < tail → Seen seen (get_or queue k 0)
  pub rising : (i j : ℕ) → at ≤ i → i ≤ j → j < tail → get_or seen (get_or queue i 0) 0 ≤ get_or seen (get_or queue j 0) 0
  pub top : at < tail → (v : ℕ) → v < n → Seen seen v → get_or seen v 0 ≤ get_or seen (get_or queue at 0) 0 + 1
  pub near : (v : ℕ) → v < n → Seen seen v → Waits queue at tail v ⊎ ((w : ℕ) → Next A v w → Seen seen w × (get_or seen w 0 ≤ get_or seen v 0 + 1))
