-- `join_all` meets its contract: the parents are those of the network with the reaches passed.
-- Assumes nothing.
use Rattle.union_find.proofs.Forests.{Joining}
use Rattle.union_find.proofs.join_all.Given as goal

abbrev pub invariant-loop-i : goal.invariant-loop-i
invariant-loop-i l = Joining l.n l.kinds l.a l.b l.initial.parents l.parents l.i
