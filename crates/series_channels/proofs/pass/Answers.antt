-- `series_channels::pass` meets its contract.
-- Assumes nothing.
use Rattle.series_channels.proofs.pass.Goals as goal

pub loop-i-preserved : goal.loop-i-preserved
loop-i-preserved c = λ all. c.follow-in-loop-i.ensures (c.follow.ensures (c.loop-i.invariant all))
