-- `separate` meets its contract: the basins passed are their own parents.
-- Assumes nothing.
use Rattle.union_find.proofs.Forests.{Separating}
use Rattle.union_find.proofs.separate.Given as goal

abbrev pub invariant-loop-v : goal.invariant-loop-v
invariant-loop-v l = Separating l.n l.initial.parents l.parents l.v
