-- `sheet_format::next_gate` meets its contract. The loop's invariant: no gated reach was passed.
-- Assumes nothing.
use Rattle.sheet_format.proofs.Gates.{GatesPassed}
use Rattle.sheet_format.proofs.next_gate.Given as goal

abbrev pub invariant-loop-i : goal.invariant-loop-i
invariant-loop-i l = GatesPassed l.kinds l.from l.i
