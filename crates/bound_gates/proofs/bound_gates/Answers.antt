-- `bound_gates::bound_gates` meets its contract: the table goes into rows of its own, which are lent to the call over rows.
-- Assumes nothing.
use Rattle.packing.proofs.Packings.{of-lent}
use Rattle.bound_gates.specs.Calls.{BoundCall}
use Rattle.bound_gates.proofs.Calls.{bound-alike}
use Rattle.bound_gates.proofs.bound_gates.Goals as goal

pub returns : goal.returns
returns c = of-lent {P = λ N. BoundCall N c.args.bytes.now c.args.marks.now c.bound_gates_rows.result c.bound_gates_rows.new.bytes c.bound_gates_rows.new.marks} c.pack.ensures c.rows-rows.ensures (bound-alike _ _) c.bound_gates_rows.ensures
