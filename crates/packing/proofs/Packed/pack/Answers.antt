-- `Packed::pack` meets its contract.
-- Assumes nothing.
use Rattle.std.proofs.Common.{arith}
use Rattle.packing.proofs.Rows.{packed_front}
use Rattle.packing.proofs.Packed.pack.Goals as goal

pub returns : goal.returns
returns c = record { table = packed_front c.pack_into.ensures (omega arith) (omega arith) (omega arith) }
