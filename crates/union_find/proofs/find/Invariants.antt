-- `find` meets its contract: the root above x is that above v. The measure is x, which falls.
-- Assumes nothing.
use Rattle.union_find.proofs.Roots.{Climbing}
use Rattle.union_find.proofs.find.Given as goal

abbrev pub invariant-loop-parents : goal.invariant-loop-parents
invariant-loop-parents l = Climbing l.n l.initial.parents l.v l.parents l.x

abbrev pub decreases-loop-parents : goal.decreases-loop-parents
decreases-loop-parents l = l.x
