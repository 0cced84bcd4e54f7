-- `branching::turn_back` meets its contract: no plan parts upwards at a reach passed.
-- Assumes nothing.
use Prim.Native.Nat.{ℕ, ◌≤◌}
use mathlib.Core.Path.{◌≡◌}
use mathlib.Core.List.{List}
use lib.ListN.{length}
use Rattle.tables.specs.Rows.{net_of}
use Rattle.orientations.specs.Partials.{StronglyConnectedBelow}
use Rattle.orienting.specs.Ready.{Ready}
use Rattle.series.specs.Guides.{Guides}
use Rattle.branching.specs.Follows.{Following}
use Rattle.branching.proofs.Follows.{Back}
use Rattle.branching.proofs.turn_back.Given as goal

abbrev pub invariant-loop-i : goal.invariant-loop-i
invariant-loop-i l =
    (l.i ≤ l.to) × Ready l.graph l.ways l.seen l.queue
    × ((ks : List ℕ) → Following l.graph.basins ks l.tried l.graph.a.now l.graph.b.now l.under l.initial.ways l.to → StronglyConnectedBelow (net_of l.graph.basins ks l.graph.a.now l.graph.b.now) l.tried l.under l.to → Guides (net_of l.graph.basins ks l.graph.a.now l.graph.b.now) l.guide → Back (net_of l.graph.basins ks l.graph.a.now l.graph.b.now) l.tried l.under l.to l.ways l.i)
    × (length l.ways ≡ length l.initial.ways) × (length l.seen ≡ length l.initial.seen) × (length l.queue ≡ length l.initial.queue)
