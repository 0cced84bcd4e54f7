-- `scan` meets its contract. The loop's invariant is `Scanning`: all half-edges at the basin from some x on are done, and h is the last one below x.
-- The measure is h + 1, or 0 where h is `none`.
-- Assumes nothing.
use Prim.Native.Nat.{◌+◌, ◌%◌}
use lib.ListN.{get_or}
use Rattle.half_edges.specs.Ends.{sided}
use Rattle.search.proofs.Scans.{Scanning}
use Rattle.search.proofs.scan.Given as goal

abbrev pub invariant-loop-h : goal.invariant-loop-h
invariant-loop-h l =
    Scanning l.graph.a.now l.graph.b.now (sided l.against l.ways) (get_or l.initial.queue l.at 0) l.count l.initial.seen l.initial.queue l.tail l.seen l.queue l.end l.h

abbrev pub decreases-loop-h : goal.decreases-loop-h
decreases-loop-h l = (l.h + 1) % 65536
