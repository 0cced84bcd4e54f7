-- `find` meets its contract: the root above x is that above v. The measure is x, which falls.
-- Assumes nothing.
use Rattle.union_find.proofs.Roots.{climbing-none, climbing-more}
use Rattle.union_find.proofs.find.Goals as goal

pub loop-parents-init : goal.loop-parents-init
loop-parents-init c = climbing-none c.requires.rising c.requires.v_lt_n

pub loop-parents-preserved : goal.loop-parents-preserved
loop-parents-preserved c = climbing-more c.loop-parents.invariant c.loop-parents-test.true
