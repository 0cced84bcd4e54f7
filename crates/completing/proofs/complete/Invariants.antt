-- `completing::complete` meets its contract: as for `greedy`, and no gate is stuck, since none is a bridge.
-- Assumes nothing.
use Prim.Native.Nat.{ℕ, ◌≤◌}
use mathlib.Core.Path.{◌≡◌}
use mathlib.Core.List.{List}
use lib.ListN.{length}
use Rattle.tables.specs.Rows.{net_of}
use Rattle.orientations.specs.Partials.{Bridgeless}
use Rattle.orienting.specs.Ready.{Ready}
use Rattle.completing.specs.Greedy.{Completable}
use Rattle.orientations.proofs.Goings.{Going}
use Rattle.series.specs.Guides.{Guides}
use Rattle.completing.proofs.complete.Given as goal

abbrev pub invariant-loop-i : goal.invariant-loop-i
invariant-loop-i l =
    (l.i ≤ length l.graph.a.now) × Ready l.graph l.ways l.seen l.queue
    × ((ks : List ℕ) → Completable l.graph.basins ks l.tried l.graph.a.now l.graph.b.now l.initial.ways l.from → Bridgeless (net_of l.graph.basins ks l.graph.a.now l.graph.b.now) → Guides (net_of l.graph.basins ks l.graph.a.now l.graph.b.now) l.guide → Going (net_of l.graph.basins ks l.graph.a.now l.graph.b.now) l.tried l.initial.ways l.from l.ways l.i)
    × (length l.ways ≡ length l.initial.ways) × (length l.seen ≡ length l.initial.seen) × (length l.queue ≡ length l.initial.queue)
