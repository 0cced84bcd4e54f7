-- `series_channels::follow` meets its contract.
-- Assumes nothing.
use Prim.Native.Nat.{ℕ, ◌/◌, ◌≤◌, ◌<◌}
use lib.ListN.{get_or}
use Rattle.half_edges.specs.Ends.{halves}
use Rattle.tables.specs.Rows.{net_of}
use Rattle.series_channels.specs.Channels.{Guiding}
use Rattle.series_channels.proofs.Ways.{Came}
use Rattle.series_channels.proofs.follow.Given as goal

abbrev pub invariant-loop : goal.invariant-loop
invariant-loop l =
    (l.h < halves l.graph.a.now) × (get_or l.kinds (l.h / 2) 0 ≤ 2) × ((m : ℕ) → Came (net_of m l.kinds l.graph.a.now l.graph.b.now) l.start l.h) × (Guiding l.kinds l.graph.a.now l.graph.b.now l.initial.guide → Guiding l.kinds l.graph.a.now l.graph.b.now l.guide)
