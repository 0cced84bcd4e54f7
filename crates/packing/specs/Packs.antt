-- A table of records packed into rows of its own.
-- Assumes nothing.
use Rattle.std.specs.Prelude.{◌≡◌, List, take}
use Rattle.network.specs.declared.Reach.{Reach}
use Rattle.network.specs.Tables.{table_of}
use Rattle.tables.specs.declared.Rows.{Rows}
use Rattle.packing.specs.Rows.{front}
use Rattle.packing.specs.declared.Packed.{Packed}

-- The rows that were filled hold the front of the table.
pub record Packs (t : List Reach) (p : Packed) : Type 0 where
  pub table : table_of (take p.count p.kinds) (take p.count p.a) (take p.count p.b) ≡ front t

-- What is lent of them.
pub record Lends (p : Packed) (r : Rows) : Type 0 where
  pub kinds : r.kinds.now ≡ take p.count p.kinds
  pub a : r.a.now ≡ take p.count p.a
  pub b : r.b.now ≡ take p.count p.b
