-- `pack_into` meets its contract. The loop's invariant: the first i numbers of each row are those of the table's reaches, and the others as they were.
-- Assumes nothing.
use Rattle.std.proofs.Common.{◌≡◌, ◌≤◌}
use Rattle.packing.specs.Rows.{reach_state_number, row_into}
use Rattle.packing.proofs.pack_into.Given as goal

abbrev pub invariant-loop-i : goal.invariant-loop-i
invariant-loop-i l = record {
  within : l.i ≤ l.n;
  kinds : l.kinds ≡ row_into reach_state_number l.t l.initial.kinds l.i;
  a : l.a ≡ row_into (λ x. x.a) l.t l.initial.a l.i;
  b : l.b ≡ row_into (λ x. x.b) l.t l.initial.b l.i;
}
