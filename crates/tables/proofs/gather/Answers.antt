-- `gather` meets its contract. The loop's invariant: the bytes of the gates among the first i reaches are the first k of the plan.
-- Assumes nothing.
use mathlib.Core.Path.{ap, ◌∙◌}
use native.Mathlib.Omega.{arith}
use lib.ListN.{set}
use Rattle.tables.proofs.Gathers.{gathered-gate, gathered-other}
use Rattle.tables.proofs.gather.Goals as goal
use Rattle.tables.proofs.gather.Goals.{else-kind-eq-KIND_GATED, then-kind-eq-KIND_GATED}

pub loop-i-preserved : goal.loop-i-preserved
loop-i-preserved c =
    let gate = gathered-gate c.args.kinds.now c.args.ways.now c.args.plan.now c.loop-i.plan c.loop-i.k c.loop-i.i c.requires.ways_len c.requires.kinds_in_bounds c.loop-i.invariant c.loop-i-test.true in
    let other = gathered-other c.args.kinds.now c.args.ways.now c.args.plan.now c.loop-i.plan c.loop-i.k c.loop-i.i c.requires.ways_len c.requires.kinds_in_bounds c.loop-i.invariant c.loop-i-test.true in
    elim c.if-kind-eq-KIND_GATED.branch [ then-kind-eq-KIND_GATED w ↦ rw w.k-is (gate w.if-kind-eq-KIND_GATED.true c.if-kind-eq-KIND_GATED.plan (w.plan-is ∙ ap (λ x. set c.loop-i.plan c.loop-i.k x) (omega arith))) | else-kind-eq-KIND_GATED w ↦ rw (w.plan-is, w.k-is) (other w.if-kind-eq-KIND_GATED.false) ]
