-- `sheet_reading::read_gates` meets its contract. The loop's invariant: the reading of what is left decides that of the whole.
-- The measure is what is left of the sheet. Assumes nothing.
use Prim.Native.Nat.{◌-◌}
use lib.ListN.{length}
use Rattle.sheet_format.proofs.Scan.{SheetScanned}
use Rattle.sheet_reading.proofs.read_gates.Given as goal

abbrev pub invariant-loop-kind : goal.invariant-loop-kind
invariant-loop-kind l = SheetScanned l.kinds l.sheet l.initial.held l.held l.at l.i l.k

abbrev pub decreases-loop-kind : goal.decreases-loop-kind
decreases-loop-kind l = length l.sheet - l.at
