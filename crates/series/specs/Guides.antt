-- A row that says of a gate which reach guides it: from which other reach, in series with it, it takes its way.
-- Assumes nothing.
use Rattle.std.specs.Prelude.{ℕ, ◌+◌, ◌/◌, ◌%◌, ◌<◌, ◌≡◌, Bool, cond, List, length, get_or}
use Rattle.std.specs.Bool.{beq}
use Rattle.network.specs.Networks.{Network}
use Rattle.series.specs.Pairs.{CutPair}

-- What stands for a reach that no other guides.
abbrev pub unguided : ℕ
unguided = 65535

-- The entry h names reach h / 2 as the guide. The way that a gate takes by it, if the guide has the way w: the same if h is even, else the other.
abbrev pub way_by : ℕ → ℕ → ℕ
way_by h w = (h + w) % 2

-- The entry h is true of reach j: it and its guide alone cross some division, and h is odd exactly if both have the same end inside.
pub record GuidedBy (N : Network) (h j : ℕ) : Type 0 where
  pub side : ℕ → Bool
  pub end-i : Bool
  pub end-j : Bool
  pub pair : CutPair N side (h / 2) end-i j end-j
  pub parity : h % 2 ≡ cond (beq end-i end-j) 1 0

-- The row is true: of each reach with an entry. It may be short, or empty: of the reaches past its end it says nothing.
abbrev pub Guides : Network → List ℕ → Type 0
Guides N guide = (j : ℕ) → j < length guide → get_or guide j 0 < unguided → GuidedBy N (get_or guide j 0) j
