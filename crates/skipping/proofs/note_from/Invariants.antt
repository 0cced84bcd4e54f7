-- `skipping::note_from` meets its contract: what is not tried stays bound, reach by reach.
-- Assumes nothing.
use Prim.Native.Nat.{ℕ}
use mathlib.Core.Path.{◌≡◌}
use mathlib.Core.List.{List, []}
use lib.ListN.{length}
use Rattle.tables.specs.Rows.{net_of, ways_row}
use Rattle.orientations.specs.Partials.{Binds}
use Rattle.orienting.specs.Ready.{Ready}
use Rattle.seeking.specs.Seeks.{AtPlan}
use Rattle.skipping.proofs.Skips.{BoundNoted}
use Rattle.skipping.proofs.note_from.Given as goal

abbrev pub invariant-loop-i : goal.invariant-loop-i
invariant-loop-i l =
    Ready l.graph l.loose l.seen l.queue
    × ((ks s : List ℕ) → l.initial.loose ≡ ways_row ks [] → AtPlan l.graph.basins ks l.graph.a.now l.graph.b.now s l.ways → Binds (net_of l.graph.basins ks l.graph.a.now l.graph.b.now) l.initial.tried l.ways → BoundNoted l.graph.basins ks l.graph.a.now l.graph.b.now l.ways l.tried l.loose)
    × (length l.tried ≡ length l.initial.tried) × (length l.loose ≡ length l.initial.loose) × (length l.seen ≡ length l.initial.seen) × (length l.queue ≡ length l.initial.queue)
