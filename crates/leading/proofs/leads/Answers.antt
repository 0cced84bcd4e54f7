-- `leads` meets its contract: in the rows up to the basin count both searches begin, and go on.
-- Assumes nothing.
use Prim.Native.Nat.{ℕ, ◌≤◌}
use mathlib.Core.Path.{◌≡◌, sym, subst}
use mathlib.Core.Bool.{true}
use mathlib.Core.List.{List}
use native.Mathlib.Omega.{arith}
use lib.ListN.{length}
use lib.Seq.{length-take-le}
use Rattle.network.specs.Orientations.{Arc, reached}
use Rattle.network.proofs.Walks.{reached-refl}
use Rattle.half_edges.specs.Ends.{arcs_of}
use Rattle.leading.proofs.Joint.{begun}
use Rattle.leading.proofs.leads.Goals as goal

from_itself : (A : List Arc) {u v : ℕ} → u ≡ v → reached A u v ≡ true
from_itself A {u} e = subst (λ (w : ℕ). reached A u w ≡ true) e (reached-refl A u)

-- a basin is reached from itself
pub returns-then-start-goal : goal.returns-then-start-goal
returns-then-start-goal c =
    sym (from_itself (arcs_of c.args.graph.now.a.now c.args.graph.now.b.now c.args.ways.now) c.if-start-goal.true)

pub search_on-requires : goal.search_on-requires
search_on-requires c =
    let queue-room : c.args.graph.now.basins ≤ length c.args.queue.now = omega (arith, c.requires.searchable.seen-room, c.requires.searchable.queue-room) in
    record {
      ways-room = c.requires.searchable.ways-room;
      few-basins = c.requires.searchable.few-basins;
      starts = c.requires.searchable.starts;
      goals = c.requires.goal_lt_n;
      apart = c.if-start-goal.false;
      both = begun _ c.begin.ensures c.requires.searchable.starts c.requires.goal_lt_n c.if-start-goal.false c.requires.searchable.few-basins (length-take-le c.args.graph.now.basins c.args.queue.now (queue-room));
    }
