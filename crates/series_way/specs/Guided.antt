-- A gate's way taken from its guide, and a way tried with it.
-- Assumes nothing.
use Rattle.std.specs.Prelude.{ℕ, ◌/◌, ◌≤◌, ◌<◌, ◌≡◌, Bool, true, List, length, get_or, set, Option, None, Some}
use Rattle.network.specs.Networks.{Accepted}
use Rattle.tables.specs.Rows.{net_of}
use Rattle.orientations.specs.Least.{is_tried}
use Rattle.orientations.specs.Partials.{Begun}
use Rattle.orienting.specs.Tries.{Tried}
use Rattle.series.specs.Guides.{unguided, way_by, Guides}

-- The way that reach i takes from its guide, reach k, which has the way x; or none, as where the row has no entry for it, or its guide is not hung.
pub data WayTaken (guide ws : List ℕ) (i : ℕ) : Option ℕ → Type 0 where
  taken : {k x w : ℕ} → i < length guide → get_or guide i 0 < unguided → x ≡ get_or ws k 2 → k ≡ get_or guide i 0 / 2 → x ≤ 1 → w ≡ way_by (get_or guide i 0) x
      → WayTaken guide ws i (Some w)
  not_taken : WayTaken guide ws i None

-- An accepted table, with a kind for each reach, of which the row of guides is true. If fs tries reach i, the ways with it usable either way are a partial
-- orientation up to it.
pub record Guidable (n : ℕ) (guide ks fs xs ys ws : List ℕ) (i : ℕ) : Type 0 where
  pub kinds-full : length ks ≡ length xs
  pub accepted : Accepted (net_of n ks xs ys)
  pub guides : Guides (net_of n ks xs ys) guide
  pub begun : is_tried fs i ≡ true → Begun (net_of n ks xs ys) fs (set ws i 2) i

-- What a search for the way of reach i would have done, in every such table, if reach i is tried.
pub record TriedFrom (n : ℕ) (guide xs ys ws : List ℕ) (i way : ℕ) (ws' : List ℕ) (r : Bool) : Type 0 where
  pub from : (ks fs : List ℕ) → Guidable n guide ks fs xs ys ws i → is_tried fs i ≡ true → Tried xs ys ws i way ws' r
