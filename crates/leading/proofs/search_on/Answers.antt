-- `search_on` meets its contract. The loop's invariant: both searches are under way. The measure is what is left of both queues.
-- Assumes nothing.
use Prim.Native.Nat.{ℕ, ◌<◌}
use mathlib.Core.Path.{◌≡◌, sym, ◌∙◌}
use mathlib.Core.List.{List, map}
use native.Mathlib.Omega.{arith}
use Rattle.network.specs.Orientations.{Arc, reached}
use Rattle.half_edges.specs.Ends.{arcs_of, flip_way, Next}
use Rattle.half_edges.proofs.Halves.{arc-below}
use Rattle.half_edges.proofs.Laws.{reached-flipped}
use Rattle.leading.proofs.Joint.{swapped, both-on, both-met, both-shut}
use Rattle.leading.proofs.search_on.Goals as goal

pub returns-then-updone-uptail : goal.returns-then-updone-uptail
returns-then-updone-uptail c =
    let along : List Arc = arcs_of c.args.graph.now.a.now c.args.graph.now.b.now c.args.ways.now in
    let up : List Arc = arcs_of c.args.graph.now.a.now c.args.graph.now.b.now (map flip_way c.args.ways.now) in
    let against : (u v : ℕ) → reached (up) u v ≡ reached (along) v u = reached-flipped c.args.graph.now.a.now c.args.graph.now.b.now c.args.ways.now in
    let up_in : (u w : ℕ) → Next (up) u w → w < c.args.graph.now.basins = λ u. λ w. λ m. arc-below c.args.graph.now.a.now c.args.graph.now.b.now (map flip_way c.args.ways.now) c.args.graph.now.basins u w c.args.graph.now.table m in
    both-shut (swapped c.loop-done.invariant) (up_in) c.requires.goals c.requires.starts (λ e. c.requires.apart (sym e)) (omega (arith, c.if-updone-uptail.true)) ∙ against c.args.goal c.args.start

pub returns-in_default : goal.returns-in_default
returns-in_default c =
    let along : List Arc = arcs_of c.args.graph.now.a.now c.args.graph.now.b.now c.args.ways.now in
    let up : List Arc = arcs_of c.args.graph.now.a.now c.args.graph.now.b.now (map flip_way c.args.ways.now) in
    let against : (u v : ℕ) → reached (up) u v ≡ reached (along) v u = reached-flipped c.args.graph.now.a.now c.args.graph.now.b.now c.args.ways.now in
    sym (both-met c.loop-done.invariant (against) c.loop-done-test.true c.scan.ensures c.in_default.is)

pub loop-done-preserved-then-tail-done : goal.loop-done-preserved-then-tail-done
loop-done-preserved-then-tail-done c =
    let along : List Arc = arcs_of c.args.graph.now.a.now c.args.graph.now.b.now c.args.ways.now in
    let along-in : (u w : ℕ) → Next (along) u w → w < c.args.graph.now.basins = λ u. λ w. λ m. arc-below c.args.graph.now.a.now c.args.graph.now.b.now c.args.ways.now c.args.graph.now.basins u w c.args.graph.now.table m in
    both-on c.loop-done.invariant (along-in) c.loop-done-test.true c.scan.auto.seen c.scan.auto.queue c.scan.ensures c.in-Some.is

pub returns-in_default-scan : goal.returns-in_default-scan
returns-in_default-scan c =
    let along : List Arc = arcs_of c.args.graph.now.a.now c.args.graph.now.b.now c.args.ways.now in
    let up : List Arc = arcs_of c.args.graph.now.a.now c.args.graph.now.b.now (map flip_way c.args.ways.now) in
    let against : (u v : ℕ) → reached (up) u v ≡ reached (along) v u = reached-flipped c.args.graph.now.a.now c.args.graph.now.b.now c.args.ways.now in
    let along-against : (u v : ℕ) → reached (along) u v ≡ reached (up) v u = λ u. λ v. sym (against v u) in
    sym (along-against c.args.start c.args.goal ∙ both-met (swapped c.loop-done.invariant) (along-against) c.if-updone-uptail.false c.scan-else-tail-done.ensures c.in_default-scan.is)

pub loop-done-preserved : goal.loop-done-preserved
loop-done-preserved c =
    let up : List Arc = arcs_of c.args.graph.now.a.now c.args.graph.now.b.now (map flip_way c.args.ways.now) in
    let up_in : (u w : ℕ) → Next (up) u w → w < c.args.graph.now.basins = λ u. λ w. λ m. arc-below c.args.graph.now.a.now c.args.graph.now.b.now (map flip_way c.args.ways.now) c.args.graph.now.basins u w c.args.graph.now.table m in
    swapped (both-on (swapped c.loop-done.invariant) (up_in) c.if-updone-uptail.false c.scan-else-tail-done.auto.seen c.scan-else-tail-done.auto.queue c.scan-else-tail-done.ensures c.in-Some-scan.is)

pub returns : goal.returns
returns c =
    let along : List Arc = arcs_of c.args.graph.now.a.now c.args.graph.now.b.now c.args.ways.now in
    let along-in : (u w : ℕ) → Next (along) u w → w < c.args.graph.now.basins = λ u. λ w. λ m. arc-below c.args.graph.now.a.now c.args.graph.now.b.now c.args.ways.now c.args.graph.now.basins u w c.args.graph.now.table m in
    both-shut c.loop-done.invariant (along-in) c.requires.starts c.requires.goals c.requires.apart c.loop-done-test.false
