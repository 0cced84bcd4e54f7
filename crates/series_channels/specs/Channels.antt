-- Channels followed from half-edge to half-edge, and the row of guides that they fill.
-- Assumes nothing.
use Rattle.std.specs.Prelude.{ℕ, ◌+◌, ◌-◌, ◌*◌, ◌/◌, ◌%◌, ◌≤◌, ◌<◌, ◌≡◌, Bool, true, ◌⊎◌, ◌≢◌, List, length, get_or, set, take}
use Rattle.tables.specs.Rows.{net_of}
use Rattle.half_edges.specs.Ends.{halves, end_of}
use Rattle.half_edges.specs.Chains.{no_half}
use Rattle.basins.specs.Wet.{Tabled}
use Rattle.series.specs.Guides.{Guides}

-- The other half-edge of the reach of h.
abbrev pub other_half : ℕ → ℕ
other_half h = h + 1 - 2 * (h % 2)

-- r is the only half-edge beside h, of those in service at its basin, and it is of another reach; or it is `no_half`, of which nothing is said.
pub data Partner (ks xs ys : List ℕ) (h : ℕ) : ℕ → Type 0 where
  nobody : {r : ℕ} → no_half ≤ r → Partner ks xs ys h r
  partner : {r : ℕ} → r < halves xs → end_of xs ys r ≡ end_of xs ys h → r / 2 ≢ h / 2 → get_or ks (r / 2) 0 ≤ 2
      → ((k : ℕ) → k < halves xs → end_of xs ys k ≡ end_of xs ys h → get_or ks (k / 2) 0 ≤ 2 → (k ≡ h) ⊎ (k ≡ r)) → Partner ks xs ys h r

-- What the row says of a reach to which a channel from the half-edge `start` comes by the half-edge o: that of `start` guides it, and it has the other way if both
-- half-edges stand at ends A or both at ends B.
abbrev pub guide_of : ℕ → ℕ → ℕ
guide_of start o = 2 * (start / 2) + (start + o + 1) % 2

-- The row is true of the table, whatever the basin count.
abbrev pub Guiding : List ℕ → List ℕ → List ℕ → List ℕ → Type 0
Guiding ks xs ys guide = (n : ℕ) → Guides (net_of n ks xs ys) guide

-- It is noted which reach guides that of half-edge o, or nothing changes.
pub data GuideNoted (guide : List ℕ) (start o : ℕ) : List ℕ → Type 0 where
  noted : {guide' : List ℕ} → guide' ≡ set guide (o / 2) (guide_of start o) → GuideNoted guide start o guide'
  unchanged : {guide' : List ℕ} → guide' ≡ guide → GuideNoted guide start o guide'

-- The row is true, if it was before.
abbrev pub GuidingStill : List ℕ → List ℕ → List ℕ → List ℕ → List ℕ → Type 0
GuidingStill ks xs ys guide guide' = Guiding ks xs ys guide → Guiding ks xs ys guide'

-- If r, the table is indexed, and the row has room for it.
pub record FindableIf (n : ℕ) (ks xs ys head next guide : List ℕ) (r : Bool) : Type 0 where
  pub tabled : r ≡ true → Tabled n ks xs ys head next
  pub row_room : r ≡ true → length xs ≤ length guide

-- The first r entries of the row count: these are true, and there are so many.
pub record GuidesFound (ks xs ys guide : List ℕ) (r : ℕ) : Type 0 where
  pub within : r ≤ length guide
  pub guiding : Guiding ks xs ys (take r guide)
