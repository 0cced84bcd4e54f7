-- `orienting::try_way` meets its contract: the search without the reach decides.
-- Assumes nothing.
use Rattle.orienting.proofs.Readies.{tried-drawn, tried-turned}
use Rattle.orienting.proofs.try_way.Goals as goal

pub returns-then-way-eq0 : goal.returns-then-way-eq0
returns-then-way-eq0 c = tried-drawn c.args.ways.now c.args.i c.args.way _ c.if-way-eq0.true c.leads-led.ensures (c.keep_if.ensures.ways_after, c.keep_if.ensures.value)

pub returns : goal.returns
returns c = tried-turned c.args.ways.now c.args.i c.args.way _ c.if-way-eq0.false c.leads-led-2.ensures (c.keep_if-2.ensures.ways_after, c.keep_if-2.ensures.value)
