-- `longest` meets its contract: from none of the basins passed is it farther.
-- Assumes nothing.
use Prim.Native.Nat.{ℕ}
use native.Mathlib.Omega.{arith}
use Rattle.network.specs.Networks.{basins_of}
use Rattle.distances.specs.Diameters.{farthest}
use Rattle.distances.proofs.Diameters.{farthest-most}
use Rattle.half_edges.specs.Ends.{arcs_of}
use Rattle.tables.specs.Rows.{net_of}
use Rattle.eccentricity.proofs.Mosts.{most-more, most-all, most-top}
use Rattle.eccentricity.proofs.longest.Goals as goal

pub returns-then-most-ge-UNREACHED : goal.returns-then-most-ge-UNREACHED
returns-then-most-ge-UNREACHED c =
    let far : ℕ → ℕ = farthest (basins_of (net_of c.args.graph.now.basins c.args.kinds.now c.args.graph.now.a.now c.args.graph.now.b.now)) (arcs_of c.args.graph.now.a.now c.args.graph.now.b.now c.args.ways.now) in
    most-top (net_of c.args.graph.now.basins c.args.kinds.now c.args.graph.now.a.now c.args.graph.now.b.now) (far) (omega (arith, c.loop-v-test.true)) (omega (arith, c.if-most-ge-UNREACHED.true)) (farthest-most (basins_of (net_of c.args.graph.now.basins c.args.kinds.now c.args.graph.now.a.now c.args.graph.now.b.now)) (arcs_of c.args.graph.now.a.now c.args.graph.now.b.now c.args.ways.now)) c.loop-v.invariant

pub loop-v-preserved : goal.loop-v-preserved
loop-v-preserved c =
    let far : ℕ → ℕ = farthest (basins_of (net_of c.args.graph.now.basins c.args.kinds.now c.args.graph.now.a.now c.args.graph.now.b.now)) (arcs_of c.args.graph.now.a.now c.args.graph.now.b.now c.args.ways.now) in
    most-more (net_of c.args.graph.now.basins c.args.kinds.now c.args.graph.now.a.now c.args.graph.now.b.now) (far) c.loop-v.v c.loop-v.most c.loop-v.invariant c.longest_in-most.ensures

pub returns : goal.returns
returns c =
    let far : ℕ → ℕ = farthest (basins_of (net_of c.args.graph.now.basins c.args.kinds.now c.args.graph.now.a.now c.args.graph.now.b.now)) (arcs_of c.args.graph.now.a.now c.args.graph.now.b.now c.args.ways.now) in
    most-all (net_of c.args.graph.now.basins c.args.kinds.now c.args.graph.now.a.now c.args.graph.now.b.now) (far) (omega (arith, c.loop-v-test.false)) c.loop-v.invariant
