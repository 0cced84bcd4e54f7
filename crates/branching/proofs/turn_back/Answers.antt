-- `branching::turn_back` meets its contract: no plan parts upwards at a reach passed.
-- Assumes nothing.
use Prim.Native.Nat.{◌-◌}
use native.Mathlib.Omega.{arith}
use mathlib.Core.Path.{sym, ◌∙◌}
use Rattle.branching.proofs.Follows.{turn_on, turn-found, back_done}
use Rattle.orienting.proofs.Readies.{ready-ways, ready-notes}
use Rattle.branching.proofs.turn_back.Goals as goal

pub returns-then-part_at-clause-turned_back : goal.returns-then-part_at-clause-turned_back
returns-then-part_at-clause-turned_back c =
    record {
      from = λ ks p all d.
          turn-found p c.args.graph.now.table.paired all c.args.guide.now d (c.loop-i.i - 1) (omega (arith, c.loop-i-test.true)) (omega (arith, c.loop-i-test.true, c.loop-i.invariant.0)) (c.loop-i.invariant.2 ks p all d) c.part_at.ensures c.if-part_at.true;
    }

pub loop-i-preserved : goal.loop-i-preserved
loop-i-preserved c = (
  omega (arith, c.loop-i.invariant.0),
  ready-notes _ _ (ready-ways _ c.loop-i.invariant.1 c.part_at.auto.ways) c.part_at.auto.seen c.part_at.auto.queue,
  (λ ks p all d.
      turn_on p c.args.graph.now.table.paired all c.args.guide.now d (c.loop-i.i - 1) (omega (arith, c.loop-i-test.true)) (omega (arith, c.loop-i-test.true, c.loop-i.invariant.0)) (c.loop-i.invariant.2 ks p all d) c.part_at.ensures c.if-part_at.false),
  c.part_at.auto.ways ∙ c.loop-i.invariant.3,
  c.part_at.auto.seen ∙ c.loop-i.invariant.4,
  c.part_at.auto.queue ∙ c.loop-i.invariant.5,
)

pub returns-clause-turned_back : goal.returns-clause-turned_back
returns-clause-turned_back c =
    record { from = λ ks p all d. back_done c.args.graph.now.basins ks c.args.graph.now.a.now c.args.graph.now.b.now (sym p.kinds-full) (c.args.graph.now.table.paired ∙ sym p.kinds-full) c.args.under.now p.under c.args.tried.now p.tries c.args.to c.loop-i.ways c.loop-i.i (omega (arith, c.loop-i-test.false)) (c.loop-i.invariant.2 ks p all d) }
