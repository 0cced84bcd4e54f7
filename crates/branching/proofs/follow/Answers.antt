-- `branching::follow` meets its contract: the gates passed are oriented as the setting has them, and nothing is lost.
-- Assumes nothing.
use native.Mathlib.Omega.{arith}
use native.Mathlib.Numerals.{add-one}
use mathlib.Core.Path.{sym, ◌∙◌}
use Rattle.branching.proofs.Follows.{under-length, follow-on, follow-off, follow-done}
use Rattle.orienting.proofs.Readies.{ready-ways, ready-notes}
use Rattle.branching.proofs.follow.Goals as goal

pub orient_as-requires-clause-under_len : goal.orient_as-requires-clause-under_len
orient_as-requires-clause-under_len c = under-length c.args.graph.now.basins c.args.kinds.now c.args.graph.now.a.now c.args.graph.now.b.now (sym c.requires.following.kinds-full) (c.args.graph.now.table.paired ∙ sym c.requires.following.kinds-full) c.args.under.now c.requires.following.under ∙ c.requires.following.kinds-full

pub returns-then-not-orient_as : goal.returns-then-not-orient_as
returns-then-not-orient_as c =
    follow-off c.args.graph.now.basins c.args.kinds.now c.args.graph.now.a.now c.args.graph.now.b.now (sym c.requires.following.kinds-full) (c.args.graph.now.table.paired ∙ sym c.requires.following.kinds-full) c.args.under.now c.requires.following.under c.args.kinds.now c.requires.following.tries c.requires.following.accepted c.loop-i.i (omega (arith, c.loop-i-test.true, c.requires.following.kinds-full)) c.loop-i.ways c.loop-i.invariant.2 c.orient_as.ensures (c.if-not-orient_as.true)

pub loop-i-preserved : goal.loop-i-preserved
loop-i-preserved c = (
  omega arith,
  ready-notes _ _ (ready-ways _ c.loop-i.invariant.1 c.orient_as.auto.ways) c.orient_as.auto.seen c.orient_as.auto.queue,
  rw add-one (follow-on c.args.graph.now.basins c.args.kinds.now c.args.graph.now.a.now c.args.graph.now.b.now (sym c.requires.following.kinds-full) (c.args.graph.now.table.paired ∙ sym c.requires.following.kinds-full) c.args.under.now c.requires.following.under c.args.kinds.now c.requires.following.tries c.requires.following.accepted c.loop-i.i (omega (arith, c.loop-i-test.true, c.requires.following.kinds-full)) c.loop-i.ways c.loop-i.invariant.2 c.orient_as.ensures (c.if-not-orient_as.false)),
  c.orient_as.auto.ways ∙ c.loop-i.invariant.3,
  c.orient_as.auto.seen ∙ c.loop-i.invariant.4,
  c.orient_as.auto.queue ∙ c.loop-i.invariant.5,
)

pub returns : goal.returns
returns c =
    follow-done c.args.graph.now.basins c.args.kinds.now c.args.graph.now.a.now c.args.graph.now.b.now (sym c.requires.following.kinds-full) (c.args.graph.now.table.paired ∙ sym c.requires.following.kinds-full) c.args.under.now c.requires.following.under c.args.kinds.now c.requires.following.tries c.loop-i.ways c.loop-i.i (omega (arith, c.loop-i.invariant.0, c.loop-i-test.false, c.requires.following.kinds-full)) c.loop-i.invariant.2
