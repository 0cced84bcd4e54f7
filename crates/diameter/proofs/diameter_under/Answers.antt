-- `diameter_under` meets its contract: the ways and the index are made, and the longest is looked for.
-- Assumes nothing.
use mathlib.Core.Path.{refl}
use native.Mathlib.Omega.{arith}
use Rattle.finder.proofs.Rooms.{room-level, room-index, room-ready, room-table}
use Rattle.diameter.proofs.Rows.{rows-diameter}
use Rattle.diameter.proofs.diameter_under.Goals as goal

pub prepare-requires : goal.prepare-requires
prepare-requires c = record { ways-room = c.requires.ways-room; indexable = room-index c.requires refl refl }

pub invariant_of-graph : goal.invariant_of-graph
invariant_of-graph c = record { table = room-table c.requires; index = c.prepare.ensures.index }

pub longest-requires-clause-ready : goal.longest-requires-clause-ready
longest-requires-clause-ready c = room-ready c.requires _ refl refl c.prepare.auto.ways (omega arith) (omega arith)

pub returns : goal.returns
returns c = rows-diameter (room-level c.requires) c.args.setting.now c.prepare.ensures.oriented c.longest.ensures
