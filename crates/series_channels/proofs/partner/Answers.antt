-- `series_channels::partner` meets its contract. The loop's invariant is `Looked`: all half-edges in service so far are h or what was found.
-- Assumes nothing.
use Rattle.basins.proofs.Graphs.{tabled}
use Prim.Native.Nat.{◌<◌}
use native.Mathlib.Omega.{arith}
use mathlib.Core.Path.{refl}
use Rattle.half_edges.specs.Chains.{no_half}
use Rattle.series_channels.specs.Channels.{nobody}
use Rattle.series_channels.proofs.Partners.{looked-on, looked-found, looked-all}
use Rattle.series_channels.proofs.partner.Goals as goal

pub returns-then-found-h : goal.returns-then-found-h
returns-then-found-h c = nobody {r = no_half} (omega arith)

pub returns-then-o-ge-NO_HALF : goal.returns-then-o-ge-NO_HALF
returns-then-o-ge-NO_HALF c = looked-all (tabled c.args.graph.now c.requires.kinds_len) c.loop.invariant refl c.if-o-ge-NO_HALF.true (λ q. absurd (omega (arith, q, c.if-found-h.false)))

pub loop-preserved-then-here-h : goal.loop-preserved-then-here-h
loop-preserved-then-here-h c =
    let here-few : c.loop.o < no_half = omega (arith, c.if-o-ge-NO_HALF.false) in
    looked-on (tabled c.args.graph.now c.requires.kinds_len) c.loop.invariant (here-few) (λ z. c.if-here-h.true)

pub loop-preserved-then-kinds-here-gt-KIND_TWO_WAY : goal.loop-preserved-then-kinds-here-gt-KIND_TWO_WAY
loop-preserved-then-kinds-here-gt-KIND_TWO_WAY c =
    let here-few : c.loop.o < no_half = omega (arith, c.if-o-ge-NO_HALF.false) in
    looked-on (tabled c.args.graph.now c.requires.kinds_len) c.loop.invariant (here-few) (λ z. absurd (omega (arith, z, c.if-kinds-here-gt-KIND_TWO_WAY.true)))

pub returns-then-found-lt-NO_HALF : goal.returns-then-found-lt-NO_HALF
returns-then-found-lt-NO_HALF c = nobody {r = no_half} (omega arith)

pub loop-preserved : goal.loop-preserved
loop-preserved c =
    let here-few : c.loop.o < no_half = omega (arith, c.if-o-ge-NO_HALF.false) in
    looked-found (tabled c.args.graph.now c.requires.kinds_len) c.loop.invariant (here-few) c.if-here-h.false (omega (arith, c.if-kinds-here-gt-KIND_TWO_WAY.false)) (omega (arith, c.if-found-lt-NO_HALF.false))

pub returns : goal.returns
returns c = nobody {r = no_half} (omega arith)
