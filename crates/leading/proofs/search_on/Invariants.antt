-- `search_on` meets its contract. The loop's invariant: both searches are under way. The measure is what is left of both queues.
-- Assumes nothing.
use Prim.Native.Nat.{◌+◌, ◌-◌}
use mathlib.Core.Bool.{true, false}
use mathlib.Core.List.{map}
use Rattle.half_edges.specs.Ends.{arcs_of, flip_way}
use Rattle.leading.specs.Leads.{BothSearching}
use Rattle.leading.proofs.search_on.Given as goal

abbrev pub invariant-loop-done : goal.invariant-loop-done
invariant-loop-done l =
    BothSearching (arcs_of l.graph.a.now l.graph.b.now l.ways) (arcs_of l.graph.a.now l.graph.b.now (map flip_way l.ways)) l.graph.basins l.start l.goal false true l.seen l.queue l.done l.tail l.updone l.uptail

abbrev pub decreases-loop-done : goal.decreases-loop-done
decreases-loop-done l = (l.graph.basins - l.done) + (l.graph.basins - l.updone)
