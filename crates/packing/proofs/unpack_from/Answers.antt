-- `unpack_from` meets its contract. The loop's invariant: the first i records of the table are the reaches of the rows, and the others as they were.
-- Assumes nothing.
use Rattle.std.proofs.Common.{arith, length-set}
use Rattle.packing.proofs.Rows.{table_put}
use Rattle.packing.proofs.unpack_from.Goals as goal

pub loop-i-preserved : goal.loop-i-preserved
loop-i-preserved c =
    let s = c.args in
    let v = c.loop-i.invariant in
    record {
      within = omega arith;
      table = table_put s.kinds.now s.a.now s.b.now s.t.now _ c.loop-i.i _ v.table (omega arith) c.reach_of.ensures;
      kept = simp length-set v.kept;
    }
