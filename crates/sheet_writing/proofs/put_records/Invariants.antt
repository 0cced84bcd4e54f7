-- `sheet_writing::put_records` meets its contract. The loop's invariant: with the records from the k-th on stored, all are.
-- Assumes nothing.
use Rattle.sheet_format.proofs.Writing.{Recording}
use Rattle.sheet_writing.proofs.put_records.Given as goal

abbrev pub invariant-loop-k : goal.invariant-loop-k
invariant-loop-k l = Recording l.kinds l.setting l.initial.out l.out l.i l.k
