-- `seeking::part_from` meets its contract: the step makes the next plan, or none is later.
-- Assumes nothing.
use Rattle.std.proofs.Common.{rules}
use Rattle.series.proofs.Channels.{none-guided}
use Rattle.seeking.proofs.Seeks.{part-rows, row_found}
use Rattle.seeking.proofs.part_from.Goals as goal

pub step_from-at-requires-clause-under_len : goal.step_from-at-requires-clause-under_len
step_from-at-requires-clause-under_len c = (part-rows c.args.graph.now.basins c.args.kinds.now c.args.graph.now.a.now c.args.graph.now.b.now c.requires.partable).1.0

pub returns : goal.returns
returns c =
    row_found c.args.graph.now.basins c.args.kinds.now c.args.graph.now.a.now c.args.graph.now.b.now c.requires.partable (c.step_from-at.ensures.from c.args.kinds.now c.requires.partable (none-guided _)) (search rules)
