-- `branching::follow` meets its contract: the gates passed are oriented as the setting has them, and nothing is lost.
-- Assumes nothing.
use Prim.Native.Nat.{◌≤◌}
use mathlib.Core.Path.{◌≡◌}
use lib.ListN.{length}
use Rattle.tables.specs.Rows.{net_of}
use Rattle.orienting.specs.Ready.{Ready}
use Rattle.branching.proofs.Follows.{Along}
use Rattle.branching.proofs.follow.Given as goal

abbrev pub invariant-loop-i : goal.invariant-loop-i
invariant-loop-i l =
    (l.i ≤ length l.graph.a.now) × Ready l.graph l.ways l.seen l.queue × Along (net_of l.graph.basins l.kinds l.graph.a.now l.graph.b.now) l.kinds l.under l.ways l.i
    × (length l.ways ≡ length l.initial.ways) × (length l.seen ≡ length l.initial.seen) × (length l.queue ≡ length l.initial.queue)
