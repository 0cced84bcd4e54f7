-- `finder::strongly_connected_under` meets its contract: two searches.
-- Assumes nothing.
use mathlib.Core.Path.{◌≡◌, refl, sym, ap, ◌∙◌}
use mathlib.Core.Bool.{Bool, true, false, not}
use native.Mathlib.Omega.{arith}
use Rattle.seeking.proofs.Firsts.{under-basin}
use Rattle.finder.proofs.Rooms.{room-level, room-index, room-ready, room-table}
use Rattle.finder.proofs.strongly_connected_under.Goals as goal

pub prepare-requires : goal.prepare-requires
prepare-requires c = record { ways-room = c.requires.ways-room; indexable = room-index c.requires refl refl }

pub invariant_of-graph : goal.invariant_of-graph
invariant_of-graph c = record { table = room-table c.requires; index = c.prepare.ensures.index }

pub shut_in_basin-requires-clause-ready : goal.shut_in_basin-requires-clause-ready
shut_in_basin-requires-clause-ready c = room-ready c.requires _ refl refl c.prepare.auto.ways (omega arith) (omega arith)

-- what `is_none` says
told : {y : Bool} (x : Bool) → y ≡ not x → x ≡ not y
told true e = sym (ap not e)
told false e = sym (ap not e)

pub returns : goal.returns
returns c = told _ c.is_none.ensures ∙ under-basin (room-level c.requires) c.args.setting.now c.prepare.ensures.oriented c.shut_in_basin.ensures
