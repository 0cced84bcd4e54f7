-- A table of which bound gates can be told.
-- Assumes nothing.
use Rattle.std.specs.Prelude.{ℕ, ◌≡◌, true, List, [], length, take}
use Rattle.network.specs.Networks.{Accepted}
use Rattle.network.specs.Plans.{is_plan}
use Rattle.tables.specs.Rows.{net_of, gates_in, ways_row}

-- An accepted table whose rows are of one length, and a plan of it in the first of the bytes.
pub record Planned (n : ℕ) (ks xs ys bytes : List ℕ) : Type 0 where
  pub accepted : Accepted (net_of n ks xs ys)
  pub ends-a : length xs ≡ length ks
  pub ends-b : length ys ≡ length ks
  pub is-plan : is_plan (net_of n ks xs ys) (take (gates_in ks) bytes) ≡ true

-- Such a table with the ways ws, in which no gate is oriented.
pub record Tellable (n : ℕ) (ks xs ys ws bytes : List ℕ) : Type 0 where
  pub planned : Planned n ks xs ys bytes
  pub unoriented : ws ≡ ways_row ks []
