-- `scan` meets its contract. The loop's invariant is `Spreading`: all half-edges at the basin from some x on are done, h is the last one below x, and what the other search
-- sees and has queued is as it was. The measure is h + 1, or 0 where h is `none`.
-- Assumes nothing.
use Prim.Native.Nat.{◌+◌, ◌%◌}
use lib.ListN.{get_or}
use Rattle.half_edges.specs.Ends.{sided}
use Rattle.leading.specs.Leads.{lane}
use Rattle.leading.proofs.Spreads.{Spreading}
use Rattle.leading.proofs.scan.Given as goal

abbrev pub invariant-loop-h : goal.invariant-loop-h
invariant-loop-h l =
    Spreading l.graph.a.now l.graph.b.now (sided l.up l.ways) (get_or (lane l.up l.initial.queue) l.k 0) l.up l.graph.basins l.c l.d l.initial.seen l.initial.queue l.tail l.seen l.queue l.end l.h

abbrev pub decreases-loop-h : goal.decreases-loop-h
decreases-loop-h l = (l.h + 1) % 65536
