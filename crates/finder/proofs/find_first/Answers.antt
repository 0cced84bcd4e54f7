-- `finder::find_first` meets its contract: the working memory is filled with no gate oriented.
-- Assumes nothing.
use mathlib.Core.Path.{refl}
use native.Mathlib.Omega.{arith}
use Rattle.finder.proofs.Rooms.{room-index, room-ready, room-table}
use Rattle.finder.proofs.find_first.Goals as goal

pub prepare-requires : goal.prepare-requires
prepare-requires c = record { ways-room = c.requires.ways-room; indexable = room-index c.requires refl refl }

pub invariant_of-graph : goal.invariant_of-graph
invariant_of-graph c = record { table = room-table c.requires; index = c.prepare.ensures.index }

pub first_from-requires-clause-ready : goal.first_from-requires-clause-ready
first_from-requires-clause-ready c = room-ready c.requires _ refl refl c.prepare.auto.ways (omega arith) (omega arith)
