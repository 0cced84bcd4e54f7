-- `is_wet` meets its contract. The loop's invariant is `Unserved`: all half-edges at the basin from some x on are of shut reaches, and h is the last one below
-- x. The measure is h + 1, or 0 where h is `no_half`.
-- Assumes nothing.
use Prim.Native.Nat.{◌+◌, ◌%◌}
use Rattle.basins.proofs.Wets.{Unserved}
use Rattle.basins.proofs.is_wet.Given as goal

abbrev pub invariant-loop-h : goal.invariant-loop-h
invariant-loop-h l = Unserved l.kinds l.graph.a.now l.graph.b.now l.v l.h

abbrev pub decreases-loop-h : goal.decreases-loop-h
decreases-loop-h l = (l.h + 1) % 65536
