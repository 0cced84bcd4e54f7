-- `series_channels::pass` meets its contract.
-- Assumes nothing.
use Rattle.series_channels.specs.Channels.{Guiding}
use Rattle.series_channels.proofs.pass.Given as goal

abbrev pub invariant-loop-i : goal.invariant-loop-i
invariant-loop-i l = Guiding l.kinds l.graph.a.now l.graph.b.now l.initial.guide → Guiding l.kinds l.graph.a.now l.graph.b.now l.guide
