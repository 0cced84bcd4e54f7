-- `stray_end` meets its contract. The loop's invariant: every reach has good ends exactly if every reach from i on has.
-- Assumes nothing.
use Rattle.network.specs.Tables.{table_of}
use Rattle.network.proofs.Networks.{ends_below}
use Rattle.lists.proofs.Searches.{Passed}
use Rattle.tables.proofs.stray_end.Given as goal

abbrev pub invariant-loop-i : goal.invariant-loop-i
invariant-loop-i l = Passed (ends_below l.basins) (table_of l.kinds l.a l.b) l.i
