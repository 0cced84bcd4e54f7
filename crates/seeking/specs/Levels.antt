-- An accepted table of rows.
-- Assumes nothing.
use Rattle.std.specs.Prelude.{ℕ, ◌≡◌, true, List, [], length}
use Rattle.network.specs.Networks.{Accepted}
use Rattle.network.specs.Plans.{passable}
use Rattle.tables.specs.Rows.{net_of, ways_row}

-- The rows are of one length, and the table is accepted.
pub record Level (n : ℕ) (ks xs ys : List ℕ) : Type 0 where
  pub accepted : Accepted (net_of n ks xs ys)
  pub ends-a : length xs ≡ length ks
  pub ends-b : length ys ≡ length ks

-- No gate is oriented yet.
pub record NoneOriented (n : ℕ) (ks xs ys ws : List ℕ) : Type 0 where
  pub level : Level n ks xs ys
  pub unoriented : ws ≡ ways_row ks []

-- And the network is passable.
pub record Passable (n : ℕ) (ks xs ys ws : List ℕ) : Type 0 where
  pub level : Level n ks xs ys
  pub unoriented : ws ≡ ways_row ks []
  pub passable-net : passable (net_of n ks xs ys) ≡ true
