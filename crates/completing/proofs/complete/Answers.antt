-- `completing::complete` meets its contract: as for `greedy`, and no gate is stuck, since none is a bridge.
-- Assumes nothing.
use native.Mathlib.Omega.{arith}
use native.Mathlib.Numerals.{add-one}
use mathlib.Core.Path.{sym, ◌∙◌}
use Rattle.completing.proofs.Goings.{settled_on, going-complete}
use Rattle.orienting.proofs.Readies.{ready-ways, ready-notes}
use Rattle.completing.proofs.complete.Goals as goal

pub loop-i-preserved : goal.loop-i-preserved
loop-i-preserved c = (
  omega (arith, c.loop-i-test.true),
  ready-notes _ _ (ready-ways _ c.loop-i.invariant.1 c.settle.auto.ways) c.settle.auto.seen c.settle.auto.queue,
  (λ ks p b d. rw add-one (settled_on p c.args.graph.now.table.paired b c.args.guide.now d c.loop-i-test.true (c.loop-i.invariant.2 ks p b d) c.settle.ensures)),
  c.settle.auto.ways ∙ c.loop-i.invariant.3,
  c.settle.auto.seen ∙ c.loop-i.invariant.4,
  c.settle.auto.queue ∙ c.loop-i.invariant.5,
)

pub returns : goal.returns
returns c =
    record {
      from = λ ks p b d. going-complete c.args.graph.now.basins ks c.args.graph.now.a.now c.args.graph.now.b.now (sym p.kinds-full) (c.args.graph.now.table.paired ∙ sym p.kinds-full) c.args.tried.now
          c.args.ways.now c.args.from c.loop-i.ways c.loop-i.i (omega (arith, c.loop-i.invariant.0, c.loop-i-test.false, p.kinds-full)) (c.loop-i.invariant.2 ks p b d);
    }
