-- `deciding::orient_gate` meets its contract: as drawn, else turned.
-- Assumes nothing.
use mathlib.Core.Path.{refl}
use Rattle.deciding.specs.Gates.{no-gate}
use Rattle.orienting.proofs.Readies.{ready-noted, kind-gate}
use Rattle.network.proofs.Networks.{not-gated}
use Rattle.deciding.proofs.Gates.{gate-drawn, gate-turned, gate-neither}
use Rattle.deciding.proofs.orient_gate.Goals as goal

pub returns-then-kinds-i-ne-KIND_GATED : goal.returns-then-kinds-i-ne-KIND_GATED
returns-then-kinds-i-ne-KIND_GATED c = no-gate (not-gated _ c.if-kinds-i-ne-KIND_GATED.true) refl refl

pub returns-then-try_way : goal.returns-then-try_way
returns-then-try_way c =
    gate-drawn c.args.kinds.now c.args.ways.now c.args.i (kind-gate _ c.if-kinds-i-ne-KIND_GATED.false) c.try_way.ensures c.if-try_way.true

pub returns-then-try_way-2 : goal.returns-then-try_way-2
returns-then-try_way-2 c =
    gate-turned c.args.kinds.now c.args.ways.now c.args.i (kind-gate _ c.if-kinds-i-ne-KIND_GATED.false) c.try_way.ensures c.if-try_way.false c.try_way-2.ensures c.if-try_way-2.true

pub returns : goal.returns
returns c =
    gate-neither c.args.kinds.now c.args.ways.now c.args.i (kind-gate _ c.if-kinds-i-ne-KIND_GATED.false) c.try_way.ensures c.if-try_way.false c.try_way-2.ensures c.if-try_way-2.false
    (ready-noted _ c.search.new.seen c.requires.ready (c.args.graph.now.table.ends-a c.args.i c.requires.below) c.search.ensures)
