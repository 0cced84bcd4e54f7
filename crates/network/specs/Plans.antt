-- Plans, passable networks, the first plan and the next plan of a setting.
-- Assumes nothing.
use Rattle.std.specs.Prelude.{ℕ, Bool, ◌&&◌, List}
use Rattle.std.proofs.Math.Option.{Option}
use Rattle.lists.specs.Lists.{every, find}
use Rattle.network.specs.Networks.{Network, basins_of}
use Rattle.network.specs.Settings.{gate_count, is_setting, before, settings}
use Rattle.network.specs.Orientations.{Arc, arcs_under, reached, unoriented}

-- Basin u reaches every basin of bs along A.
abbrev pub reaches_all : List ℕ → List Arc → ℕ → Bool
reaches_all bs A u = every (reached A u) bs

-- Strongly connected: "every basin reaches every other along reaches taken the way they pass."
abbrev pub strongly_connected : List ℕ → List Arc → Bool
strongly_connected bs A = every (reaches_all bs A) bs

-- The same of a network under a partial orientation. Document 02, item 3: it concerns wet basins only, so where all are dry it holds.
unfoldable pub strongly_connected_under : Network → List ℕ → Bool
strongly_connected_under N h = strongly_connected (basins_of N) (arcs_under N h)

-- "A plan is a setting under which every basin reaches every other." Item 3: "If all are dry the empty setting is a plan."
unfoldable pub is_plan : Network → List ℕ → Bool
is_plan N s = is_setting N s && strongly_connected_under N s

-- "Passable means the same with every gated reach usable either way."
unfoldable pub passable : Network → Bool
passable N = strongly_connected_under N (unoriented N)

-- "The first plan is the earliest in this order."
unfoldable pub first_plan : Network → Option (List ℕ)
first_plan N = find (is_plan N) (settings (gate_count N))

-- "The next plan of a setting, itself a plan or not, is the earliest plan later than it."
unfoldable pub next_plan : Network → List ℕ → Option (List ℕ)
next_plan N s = find (λ p. before s p && is_plan N p) (settings (gate_count N))
