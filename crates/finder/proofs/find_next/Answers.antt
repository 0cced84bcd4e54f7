-- `finder::find_next` meets its contract: the working memory is filled with the setting's ways.
-- Assumes nothing.
use mathlib.Core.Path.{refl}
use native.Mathlib.Omega.{arith}
use Rattle.finder.proofs.Rooms.{room-index, room-ready, room-table}
use Rattle.finder.proofs.find_next.Goals as goal

pub prepare-requires : goal.prepare-requires
prepare-requires c = record { ways-room = c.requires.under-room; indexable = room-index c.requires.room refl refl }

pub invariant_of-graph : goal.invariant_of-graph
invariant_of-graph c = record { table = room-table c.requires.room; index = c.prepare.ensures.index }

pub next_of-requires-clause-ready : goal.next_of-requires-clause-ready
next_of-requires-clause-ready c = room-ready c.requires.room _ refl refl refl (omega arith) (omega arith)
