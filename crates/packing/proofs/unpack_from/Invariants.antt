-- `unpack_from` meets its contract. The loop's invariant: the first i records of the table are the reaches of the rows, and the others as they were.
-- Assumes nothing.
use Rattle.std.proofs.Common.{◌≡◌, ◌≤◌, length}
use Rattle.packing.specs.Rows.{table_into}
use Rattle.packing.proofs.unpack_from.Given as goal

abbrev pub invariant-loop-i : goal.invariant-loop-i
invariant-loop-i l = record {
  within : l.i ≤ l.end;
  table : l.t ≡ table_into l.kinds l.a l.b l.initial.t l.i;
  kept : length l.t ≡ length l.initial.t;
}
