-- `binding::tell_bound` meets its contract. The loop's invariant: the bytes of the gates among the first i reaches are told, and the ways are as they were.
-- Assumes nothing.
use Rattle.binding.proofs.Tellings.{TellingOn}
use Rattle.binding.proofs.tell_bound.Given as goal

abbrev pub invariant-loop-i : goal.invariant-loop-i
invariant-loop-i l = TellingOn l.graph.basins l.kinds l.graph.a.now l.graph.b.now l.initial.ways l.initial.bytes l.initial.seen l.initial.queue l.ways l.bytes l.seen l.queue l.k l.i
