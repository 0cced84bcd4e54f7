-- `completing::greedy` meets its contract: the gates passed are decided, and what is least for them is least for the ways at the start.
-- Assumes nothing.
use Prim.Native.Nat.{◌≤◌}
use mathlib.Core.Path.{◌≡◌}
use lib.ListN.{length}
use Rattle.tables.specs.Rows.{net_of}
use Rattle.orienting.specs.Ready.{Ready}
use Rattle.orientations.proofs.Goings.{Going}
use Rattle.completing.proofs.greedy.Given as goal

abbrev pub invariant-loop-i : goal.invariant-loop-i
invariant-loop-i l =
    (l.i ≤ length l.graph.a.now) × Ready l.graph l.ways l.seen l.queue × Going (net_of l.graph.basins l.kinds l.graph.a.now l.graph.b.now) l.kinds l.initial.ways l.from l.ways l.i
    × (length l.ways ≡ length l.initial.ways) × (length l.seen ≡ length l.initial.seen) × (length l.queue ≡ length l.initial.queue)
