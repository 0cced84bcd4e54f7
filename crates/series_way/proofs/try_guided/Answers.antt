-- `series_way::try_guided` meets its contract.
-- Assumes nothing.
use native.Mathlib.Omega.{arith}
use mathlib.Core.Path.{sym, ◌∙◌}
use Rattle.series_way.proofs.Guided.{taken-on, taken-off}
use Rattle.series_way.proofs.try_guided.Goals as goal

pub returns-then-w-way : goal.returns-then-w-way
returns-then-w-way c =
    record { from = λ ks fs p t. taken-on c.args.graph.now.basins ks c.args.graph.now.a.now c.args.graph.now.b.now (sym p.kinds-full) (c.args.graph.now.table.paired ∙ sym p.kinds-full) fs c.args.guide.now c.args.ways.now c.args.i (omega (arith, p.kinds-full, c.requires.i_in_bounds)) p t _ c.args.way c.requires.way_bound c.in-Some.ensures c.if-w-way.true }

pub returns : goal.returns
returns c =
    record { from = λ ks fs p t. taken-off c.args.graph.now.basins ks c.args.graph.now.a.now c.args.graph.now.b.now (sym p.kinds-full) (c.args.graph.now.table.paired ∙ sym p.kinds-full) fs c.args.guide.now c.args.ways.now c.args.i (omega (arith, p.kinds-full, c.requires.i_in_bounds)) p t _ c.args.way c.requires.way_bound c.in-Some.ensures c.if-w-way.false }
