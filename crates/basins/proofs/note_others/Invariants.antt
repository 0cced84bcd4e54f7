-- `note_others` meets its contract: the basins passed have their new bytes.
-- Assumes nothing.
use Rattle.tables.specs.Rows.{net_of}
use Rattle.basins.proofs.Notes.{Noting}
use Rattle.basins.proofs.note_others.Given as goal

abbrev pub invariant-loop-v : goal.invariant-loop-v
invariant-loop-v l = Noting (net_of l.graph.basins l.kinds l.graph.a.now l.graph.b.now) l.x l.v l.initial.seen l.seen
