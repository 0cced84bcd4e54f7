-- `search` meets its contract. The loop's invariant is `Searching`: all that is seen is reached, and stands in the queue from place `at` on or leads only to what is
-- seen; and `Counting`: the counts are those of walks, and none of what no longer waits leads to a count of more than one more.
-- The measure is what is left of the queue.
-- Assumes nothing.
use Prim.Native.Nat.{◌-◌}
use mathlib.Core.Path.{◌≡◌}
use lib.ListN.{length}
use Rattle.half_edges.specs.Ends.{arcs_of, sided}
use Rattle.search.specs.Fronts.{Searching, Counting}
use Rattle.search.proofs.search.Given as goal

abbrev pub invariant-loop-at : goal.invariant-loop-at
invariant-loop-at l =
    Searching (arcs_of l.graph.a.now l.graph.b.now (sided l.against l.ways)) l.graph.basins l.start l.seen l.queue l.at l.tail × Counting (arcs_of l.graph.a.now l.graph.b.now (sided l.against l.ways)) l.graph.basins l.start l.seen l.queue l.at l.tail
    × (length l.seen ≡ length l.initial.seen) × (length l.queue ≡ length l.initial.queue)

abbrev pub decreases-loop-at : goal.decreases-loop-at
decreases-loop-at l = length l.initial.queue - l.at
