-- `orienting::shut_in_basin` meets its contract: two searches from the lowest wet basin, if there is one.
-- Assumes nothing.
use native.Mathlib.Omega.{arith}
use Rattle.std.proofs.lemmas.Grind.{common_steps}
use Rattle.std.proofs.Common.{rules}
use Rattle.half_edges.specs.Ends.{arcs_of}
use Rattle.tables.specs.Rows.{net_of}
use Rattle.orienting.proofs.Readies.{shut-in-none}
use Rattle.orienting.proofs.shut_in_basin.Goals as goal

pub returns-in_default : goal.returns-in_default
returns-in_default c =
    shut-in-none (net_of c.args.graph.now.basins c.args.kinds.now c.args.graph.now.a.now c.args.graph.now.b.now) (arcs_of c.args.graph.now.a.now c.args.graph.now.b.now c.args.ways.now) c.lowest_wet.ensures (grind (arith, common_steps)) (search rules)
