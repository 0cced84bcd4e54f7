-- A graph, with a kind for each reach, is a table with its index.
-- Assumes nothing.
use Rattle.std.specs.Prelude.{ℕ, ◌≡◌, List, length}
use Rattle.half_edges.specs.declared.Graph.{Graph}
use Rattle.basins.specs.Wet.{Tabled}

pub tabled : (g : Graph) {ks : List ℕ} → length ks ≡ length g.a.now → Tabled g.basins ks g.a.now g.b.now g.head.now g.next.now
tabled g e = record { table = g.table; kinds-full = e; index = g.index }
