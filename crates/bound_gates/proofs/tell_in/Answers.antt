-- `bound_gates::tell_in` meets its contract: the working memory is cut to the table, and no gate is oriented in it.
-- Assumes nothing.
use native.Mathlib.Omega.{arith}
use mathlib.Core.Path.{refl, sym}
use lib.Seq.{length-take-le}
use Rattle.finder.proofs.Rooms.{room-index, room-ready, room-table, level-few, level-room}
use Rattle.bound_gates.proofs.Calls.{planned-level}
use Rattle.bound_gates.proofs.tell_in.Goals as goal

pub slice_bounds-oriented-end : goal.slice_bounds-oriented-end
slice_bounds-oriented-end c = omega (arith, level-few (planned-level c.requires.planned), c.requires.space.ways-space)

pub slice_bounds-oriented-end-2 : goal.slice_bounds-oriented-end-2
slice_bounds-oriented-end-2 c = sym (length-take-le _ c.args.ways.now (omega (arith, level-few (planned-level c.requires.planned), c.requires.space.ways-space)))

pub orient-requires : goal.orient-requires
orient-requires c = (level-room (planned-level c.requires.planned) c.requires.space).ways-room

pub index-requires : goal.index-requires
index-requires c = room-index (level-room (planned-level c.requires.planned) c.requires.space) refl refl

pub invariant_of-graph : goal.invariant_of-graph
invariant_of-graph c = record { table = room-table (level-room (planned-level c.requires.planned) c.requires.space); index = c.index.ensures }

pub tell_bound-requires-clause-ready : goal.tell_bound-requires-clause-ready
tell_bound-requires-clause-ready c = room-ready (level-room (planned-level c.requires.planned) c.requires.space) _ refl refl c.orient.auto.ways (omega arith) (omega arith)
