-- `contraction::contract_table` meets its contract: the table goes into rows of its own, which are lent to the call over rows, and the new rows are passed on.
-- Assumes nothing.
use Rattle.packing.proofs.Packings.{of-lent}
use Rattle.contraction.proofs.Buffers.{contract-alike}
use Rattle.contraction.proofs.contract_table.Goals as goal

pub returns : goal.returns
returns c = of-lent c.pack.ensures c.rows-rows.ensures (contract-alike c.args.room _ _ _ _ _ _ _) c.contract_room.ensures
