-- `gather` meets its contract. The loop's invariant: the bytes of the gates among the first i reaches are the first k of the plan.
-- Assumes nothing.
use Rattle.tables.proofs.Gathers.{Gathered}
use Rattle.tables.proofs.gather.Given as goal

abbrev pub invariant-loop-i : goal.invariant-loop-i
invariant-loop-i l = Gathered l.kinds l.ways l.initial.plan l.plan l.k l.i
