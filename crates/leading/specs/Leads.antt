-- Two searches at once, along the arrows from a basin and against them from a goal, in one row of notes and one queue.
-- Assumes nothing.
use Rattle.std.specs.Prelude.{ℕ, ◌+◌, ◌-◌, ◌≤◌, ◌<◌, ◌≡◌, ◌⊎◌, Bool, true, false, not, cond, List, map, length, get_or, set, replicate, eqb, Option, None, Some}
use Rattle.lists.specs.Lists.{range}
use Rattle.network.specs.Orientations.{Arc}
use Rattle.half_edges.specs.Ends.{arcs_of, flip_way, Next}
use Rattle.half_edges.specs.declared.Graph.{Graph}
use Rattle.distances.specs.Distances.{unreached}
use Rattle.search.specs.Searches.{Seen, Unseen, unseen, Scanned}
use Rattle.search.specs.Fronts.{QueueRoom, Searching}

-- What the search from c sees, as a row of its own: the basins for which c is noted.
abbrev pub own_seen : ℕ → List ℕ → List ℕ
own_seen c seen = map (λ x. cond (eqb x c) 0 unreached) seen

-- The place in a queue of n of what a search queued k-th: from the front or, upstream, from the back.
abbrev pub place_of : Bool → ℕ → ℕ → ℕ
place_of false n k = k
place_of true n k = n - 1 - k

-- What a search queued, in its order, as a row of its own.
abbrev pub lane : Bool → List ℕ → List ℕ
lane up queue = map (λ k. get_or queue (place_of up (length queue) k) 0) (range 0 (length queue))

-- Each basin is seen by the search from c, by that from d, or by none.
abbrev pub Sided : ℕ → ℕ → ℕ → List ℕ → Type 0
Sided n c d seen = (v : ℕ) → v < n → (get_or seen v 0 ≡ c) ⊎ (get_or seen v 0 ≡ d) ⊎ Unseen seen v

-- A visit of w by the search from c: a basin that was not seen is noted, and queued.
pub data NotedBy (up : Bool) (n w c : ℕ) (seen queue : List ℕ) (tail : ℕ) : List ℕ → List ℕ → ℕ → Type 0 where
  first : Unseen seen w → NotedBy up n w c seen queue tail (set seen w c) (set queue (place_of up n tail) w) (tail + 1)
  again : Seen seen w → NotedBy up n w c seen queue tail seen queue tail

-- What a scan by the search from c of the basin that it queued k-th requires, where d is noted for what the other search sees.
pub record Spreadable (g : Graph) (ws seen queue : List ℕ) (k tail : ℕ) (up : Bool) (c d : ℕ) : Type 0 where
  pub ways-room : length g.a.now ≤ length ws
  pub seen-length : length seen ≡ g.basins
  pub queue-length : length queue ≡ g.basins
  pub waiting : k < tail
  pub basin : get_or (lane up queue) k 0 < g.basins
  pub sides : Sided g.basins c d seen
  pub room : tail + unseen seen ≤ g.basins
  pub lane_room : QueueRoom (own_seen c seen) (lane up queue) tail
  pub low : c < unreached
  pub other : c ≡ d → ⊥

-- What it leaves where the two have not met: the search from c has scanned the basin, and what the other sees and has queued is as it was.
pub record SpreadOn (A : List Arc) (u : ℕ) (up : Bool) (n c d : ℕ) (seen queue : List ℕ) (tail : ℕ) (seen' queue' : List ℕ) (tail' : ℕ) : Type 0 where
  pub scanned : Scanned A u 0 (own_seen c seen) (lane up queue) tail (own_seen c seen') (lane up queue') tail'
  pub others : own_seen d seen' ≡ own_seen d seen
  pub lanes : (j : ℕ) → j + tail' < n → get_or (lane (not up) queue') j 0 ≡ get_or (lane (not up) queue) j 0
  pub counted : tail' + unseen seen' ≡ tail + unseen seen
  pub sides : Sided n c d seen'

-- The one or the other: r is how many the search from c has queued then, or none if the two met.
pub data Spread (A : List Arc) (u : ℕ) (up : Bool) (n c d : ℕ) (seen queue : List ℕ) (tail : ℕ) (seen' queue' : List ℕ) (r : Option ℕ) : Type 0 where
  met : (w : ℕ) → w < n → Next A u w → get_or seen w 0 ≡ d → r ≡ None → Spread A u up n c d seen queue tail seen' queue' r
  on : {tail' : ℕ} → SpreadOn A u up n c d seen queue tail seen' queue' tail' → r ≡ Some tail' → Spread A u up n c d seen queue tail seen' queue' r

-- How both begin.
pub record BothBegun (n start goal : ℕ) (queue seen' queue' : List ℕ) : Type 0 where
  pub notes : seen' ≡ set (set (replicate n unreached) start start) goal goal
  pub waiting : queue' ≡ set (set queue 0 start) (n - 1) goal

-- Both are under way: the search from c along the arcs A, and that from d along B, each with rows of its own; and together they have queued no more basins than there are.
pub record BothSearching (A B : List Arc) (n c d : ℕ) (up down : Bool) (seen queue : List ℕ) (done tail other-done other-tail : ℕ) : Type 0 where
  pub mine : Searching A n c (own_seen c seen) (lane up queue) done tail
  pub other : Searching B n d (own_seen d seen) (lane down queue) other-done other-tail
  pub sides : Sided n c d seen
  pub room : tail + other-tail + unseen seen ≤ n
  pub seen-length : length seen ≡ n
  pub queue-length : length queue ≡ n

-- What going on with two searches that have begun requires.
pub record Underway (g : Graph) (ws : List ℕ) (start goal : ℕ) (seen queue : List ℕ) : Type 0 where
  pub ways-room : length g.a.now ≤ length ws
  pub few-basins : g.basins < unreached
  pub starts : start < g.basins
  pub goals : goal < g.basins
  pub apart : start ≡ goal → ⊥
  pub both : BothSearching (arcs_of g.a.now g.b.now ws) (arcs_of g.a.now g.b.now (map flip_way ws)) g.basins start goal false true seen queue 0 1 0 1
