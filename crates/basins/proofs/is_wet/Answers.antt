-- `is_wet` meets its contract. The loop's invariant is `Unserved`: all half-edges at the basin from some x on are of shut reaches, and h is the last one below
-- x. The measure is h + 1, or 0 where h is `no_half`.
-- Assumes nothing.
use Rattle.basins.proofs.Graphs.{tabled}
use Prim.Native.Nat.{◌/◌}
use native.Mathlib.Omega.{arith}
use lib.ListN.{get_or}
use Rattle.network.proofs.Networks.{state-in-service, state-shut}
use Rattle.basins.proofs.Wets.{unserved-wet, unserved-more, unserved-dry}
use Rattle.basins.proofs.is_wet.Goals as goal

pub returns-then-kinds-h-le-KIND_TWO_WAY : goal.returns-then-kinds-h-le-KIND_TWO_WAY
returns-then-kinds-h-le-KIND_TWO_WAY c =
    unserved-wet (tabled c.args.graph.now c.requires.kinds_len) c.loop-h.invariant c.loop-h-test.true (state-in-service (get_or c.args.kinds.now (c.loop-h.h / 2) 0) (omega (arith, c.if-kinds-h-le-KIND_TWO_WAY.true)))

pub loop-h-preserved : goal.loop-h-preserved
loop-h-preserved c =
    unserved-more (tabled c.args.graph.now c.requires.kinds_len) c.loop-h.invariant c.loop-h-test.true (state-shut (get_or c.args.kinds.now (c.loop-h.h / 2) 0) (omega (arith, c.if-kinds-h-le-KIND_TWO_WAY.false)))

pub returns : goal.returns
returns c = unserved-dry (tabled c.args.graph.now c.requires.kinds_len) c.loop-h.invariant c.loop-h-test.false
