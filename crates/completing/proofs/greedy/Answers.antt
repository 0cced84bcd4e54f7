-- `completing::greedy` meets its contract: the gates passed are decided, and what is least for them is least for the ways at the start.
-- Assumes nothing.
use native.Mathlib.Omega.{arith}
use native.Mathlib.Numerals.{add-one}
use mathlib.Core.Path.{sym, ◌∙◌}
use Rattle.completing.proofs.Goings.{going_on, going-bridge, plain-clear, going_done}
use Rattle.orienting.proofs.Readies.{ready-ways, ready-notes}
use Rattle.completing.proofs.greedy.Goals as goal

pub returns-then-not-orient_gate : goal.returns-then-not-orient_gate
returns-then-not-orient_gate c =
    going-bridge c.args.graph.now.basins c.args.kinds.now c.args.graph.now.a.now c.args.graph.now.b.now (sym c.requires.completable.kinds-full) (c.args.graph.now.table.paired ∙ sym c.requires.completable.kinds-full) c.requires.completable.accepted c.args.kinds.now
    c.args.ways.now c.args.from c.loop-i.ways c.loop-i.i (omega (arith, c.loop-i-test.true, c.requires.completable.kinds-full)) c.loop-i.invariant.2 _ c.orient_gate.ensures (c.if-not-orient_gate.true)

pub loop-i-preserved : goal.loop-i-preserved
loop-i-preserved c = (
  omega arith,
  ready-notes _ _ (ready-ways _ c.loop-i.invariant.1 c.orient_gate.auto.ways) c.orient_gate.auto.seen c.orient_gate.auto.queue,
  rw add-one
      (going_on c.args.graph.now.basins c.args.kinds.now c.args.graph.now.a.now c.args.graph.now.b.now (sym c.requires.completable.kinds-full) (c.args.graph.now.table.paired ∙ sym c.requires.completable.kinds-full) c.requires.completable.accepted c.args.kinds.now
      c.args.ways.now c.args.from c.loop-i.ways c.loop-i.i (omega (arith, c.loop-i-test.true, c.requires.completable.kinds-full)) c.loop-i.invariant.2 (plain-clear c.args.graph.now.basins c.args.kinds.now c.args.graph.now.a.now c.args.graph.now.b.now (sym c.requires.completable.kinds-full) (c.args.graph.now.table.paired ∙ sym c.requires.completable.kinds-full) c.loop-i.i (omega (arith, c.loop-i-test.true, c.requires.completable.kinds-full))) c.orient_gate.ensures (c.if-not-orient_gate.false)),
  c.orient_gate.auto.ways ∙ c.loop-i.invariant.3,
  c.orient_gate.auto.seen ∙ c.loop-i.invariant.4,
  c.orient_gate.auto.queue ∙ c.loop-i.invariant.5,
)

pub returns : goal.returns
returns c =
    going_done c.args.graph.now.basins c.args.kinds.now c.args.graph.now.a.now c.args.graph.now.b.now (sym c.requires.completable.kinds-full) (c.args.graph.now.table.paired ∙ sym c.requires.completable.kinds-full) c.args.kinds.now
    c.args.ways.now c.args.from c.loop-i.ways c.loop-i.seen c.loop-i.i (omega (arith, c.loop-i.invariant.0, c.loop-i-test.false, c.requires.completable.kinds-full)) c.loop-i.invariant.2
