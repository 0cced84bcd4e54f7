-- `number` meets its contract: the basins passed have the numbers of their components, for every network whose components have these parents.
-- Assumes nothing.
use Rattle.union_find.proofs.Numbers.{numbering-member, labelling-member, numbering-lowest, labelling-lowest, numbering-all}
use Rattle.union_find.proofs.number.Goals as goal

pub loop-v-preserved-then-up-v : goal.loop-v-preserved-then-up-v
loop-v-preserved-then-up-v c = (
  numbering-member c.requires.rising c.requires.n_in_bounds c.loop-v.invariant.0 c.loop-v-test.true c.if-up-v.true,
  λ N e f. labelling-member c.requires.rising c.requires.n_in_bounds c.loop-v.invariant.0 c.loop-v-test.true c.if-up-v.true N e f (c.loop-v.invariant.1 N e f),
)

pub loop-v-preserved : goal.loop-v-preserved
loop-v-preserved c = (
  numbering-lowest c.requires.rising c.requires.n_in_bounds c.loop-v.invariant.0 c.loop-v-test.true c.if-up-v.false,
  λ N e f. labelling-lowest c.requires.rising c.requires.n_in_bounds c.loop-v.invariant.0 c.loop-v-test.true c.if-up-v.false N e f (c.loop-v.invariant.1 N e f),
)

pub returns : goal.returns
returns c = numbering-all c.loop-v.invariant.0 c.loop-v.invariant.1 c.loop-v-test.false
