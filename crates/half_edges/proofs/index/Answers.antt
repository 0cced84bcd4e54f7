-- `index` meets its contract. The loop's invariant: the half-edges of the first i reaches are linked, and both slices keep their lengths.
-- Assumes nothing.
use mathlib.Core.Path.{◌∙◌}
use native.Mathlib.Omega.{arith}
use Rattle.half_edges.proofs.Links.{linked-reach}
use Rattle.half_edges.proofs.index.Goals as goal

pub loop-i-preserved : goal.loop-i-preserved
loop-i-preserved c = (
  omega arith,
  linked-reach c.args.n c.args.a.now c.args.b.now c.loop-i.i c.loop-i.head c.loop-i.next c.link.new.head c.link.new.next c.link-in-loop-i.new.head c.link-in-loop-i.new.next c.requires.table c.loop-i-test.true c.loop-i.invariant.1
      c.link.ensures.head_after c.link.ensures.next_after c.link-in-loop-i.ensures.head_after c.link-in-loop-i.ensures.next_after,
  c.link-in-loop-i.auto.head ∙ c.link.auto.head ∙ c.loop-i.invariant.2,
  c.link-in-loop-i.auto.next ∙ c.link.auto.next ∙ c.loop-i.invariant.3,
)
