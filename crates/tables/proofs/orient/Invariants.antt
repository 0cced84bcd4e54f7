-- `orient` meets its contract. The loop's invariant: the ways of the first i reaches are written, with k gates among them.
-- Assumes nothing.
use Rattle.tables.proofs.Hangs.{WaysWritten}
use Rattle.tables.proofs.orient.Given as goal

abbrev pub invariant-loop-i : goal.invariant-loop-i
invariant-loop-i l = WaysWritten l.kinds l.setting l.initial.ways l.ways l.k l.i
