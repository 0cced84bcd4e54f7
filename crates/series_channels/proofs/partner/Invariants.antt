-- `series_channels::partner` meets its contract. The loop's invariant is `Looked`: all half-edges in service so far are h or what was found.
-- Assumes nothing.
use Rattle.half_edges.specs.Ends.{end_of}
use Rattle.series_channels.proofs.Partners.{Looked}
use Rattle.series_channels.proofs.partner.Given as goal

abbrev pub invariant-loop : goal.invariant-loop
invariant-loop l = Looked l.kinds l.graph.a.now l.graph.b.now (end_of l.graph.a.now l.graph.b.now l.h) l.h l.o l.found
