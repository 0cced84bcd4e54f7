-- Deciding the gates one after the other, each as drawn where that loses nothing, else turned.
-- Assumes nothing.
use Rattle.std.specs.Prelude.{ℕ, ◌≤◌, ◌<◌, ◌≡◌, true, false, List, length, Option, None, Some}
use Rattle.lists.specs.Lists.{keep}
use Rattle.network.specs.Networks.{Network, basins_of, Accepted}
use Rattle.network.specs.Orientations.{ways}
use Rattle.network.specs.Bridges.{crosses_alone, is_bridge}
use Rattle.distances.specs.Distances.{noted}
use Rattle.tables.specs.Bytes.{bytes_of}
use Rattle.tables.specs.Rows.{net_of}
use Rattle.orientations.specs.Least.{LeastPlan}
use Rattle.orientations.specs.Partials.{Begun, Bridgeless}
use Rattle.series.specs.Guides.{Guides}

-- An accepted table, with a kind for each reach, of which the gates below i are decided and the others that fs tries are not.
pub record Completable (n : ℕ) (ks fs xs ys ws : List ℕ) (i : ℕ) : Type 0 where
  pub kinds-full : length ks ≡ length xs
  pub accepted : Accepted (net_of n ks xs ys)
  pub bound : i ≤ length xs
  pub begun : Begun (net_of n ks xs ys) fs ws i

-- What deciding the gates from i on leaves: the least plan that fits, or the first gate that can get neither way. That one is a bridge,
-- those before it are none, and it alone crosses the cut of the basins that are noted as reached.
pub data Greedy (N : Network) (ws : List ℕ) (i : ℕ) : List ℕ → List ℕ → Option ℕ → Type 0 where
  all-oriented : {ws' seen : List ℕ} → LeastPlan N ws (bytes_of N.reaches ws') → Greedy N ws i ws' seen None
  bridge-at : {ws' seen : List ℕ} {r : ℕ} → r < length N.reaches → is_bridge N r ≡ true → ((j : ℕ) → i ≤ j → j < r → is_bridge N j ≡ false)
      → crosses_alone N (keep (noted seen) (basins_of N)) r ≡ true → Greedy N ws i ws' seen (Some r)

-- What it leaves where no reach is a bridge: the ways of the least plan that fits.
pub record Completed (N : Network) (ws ws' : List ℕ) : Type 0 where
  pub least : LeastPlan N ws (bytes_of N.reaches ws')
  pub oriented : ws' ≡ ways N.reaches (bytes_of N.reaches ws')

-- It leaves so the table of all kinds ks of which fs tries gates and the row of guides is true.
pub record CompletedFrom (n : ℕ) (guide fs xs ys ws : List ℕ) (i : ℕ) (ws' : List ℕ) : Type 0 where
  pub from : (ks : List ℕ) → Completable n ks fs xs ys ws i → Bridgeless (net_of n ks xs ys) → Guides (net_of n ks xs ys) guide → Completed (net_of n ks xs ys) ws ws'
