-- An accepted table of rows with lent working memory.
-- Assumes nothing.
use Rattle.std.specs.Prelude.{ℕ, ◌*◌, ◌≤◌, ◌≡◌, true, List, length}
use Rattle.network.specs.Networks.{max_basins, max_reaches, Accepted}
use Rattle.network.specs.Settings.{is_setting}
use Rattle.half_edges.specs.Ends.{halves}
use Rattle.half_edges.specs.Chains.{Index, Indexable}
use Rattle.tables.specs.Rows.{net_of, ways_row}

-- The rows with the working memory that they need.
pub record Room (n : ℕ) (ks xs ys ws head next : List ℕ) : Type 0 where
  pub accepted : Accepted (net_of n ks xs ys)
  pub ends-a : length xs ≡ length ks
  pub ends-b : length ys ≡ length ks
  pub ways-room : length ws ≡ length ks
  pub head-room : n ≤ length head
  pub next-room : halves xs ≤ length next

-- What filling it requires, and what it then holds.
pub record Preparable (n : ℕ) (ks xs ys ws head next : List ℕ) : Type 0 where
  pub ways-room : length ws ≡ length ks
  pub indexable : Indexable n xs ys head next

pub record Prepared (n : ℕ) (ks xs ys s ws head next : List ℕ) : Type 0 where
  pub oriented : ws ≡ ways_row ks s
  pub index : Index n xs ys head next

-- A setting and working memory, with room for its ways.
pub record Seekable (n : ℕ) (ks xs ys s us ws head next : List ℕ) : Type 0 where
  pub room : Room n ks xs ys ws head next
  pub under-room : length us ≡ length ks
  pub fits : is_setting (net_of n ks xs ys) s ≡ true

-- Working memory for the largest table.
pub record Space (ws head next : List ℕ) : Type 0 where
  pub ways-space : length ws ≡ max_reaches
  pub head-space : length head ≡ max_basins
  pub next-space : length next ≡ 2 * max_reaches
