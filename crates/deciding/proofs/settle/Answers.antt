-- `deciding::settle` meets its contract: as drawn, else turned.
-- Assumes nothing.
use mathlib.Core.Path.{refl}
use Rattle.deciding.specs.Gates.{as_it_was}
use Rattle.orienting.proofs.Readies.{kind-gate}
use Rattle.network.proofs.Networks.{not-gated}
use Rattle.deciding.proofs.Gates.{settled-drawn, settled-turned}
use Rattle.deciding.proofs.settle.Goals as goal

pub returns-then-kinds-i-ne-KIND_GATED : goal.returns-then-kinds-i-ne-KIND_GATED
returns-then-kinds-i-ne-KIND_GATED c = record { from = λ ks p. as_it_was (not-gated _ c.if-kinds-i-ne-KIND_GATED.true) refl }

pub returns-then-drawn : goal.returns-then-drawn
returns-then-drawn c =
    let g = kind-gate _ c.if-kinds-i-ne-KIND_GATED.false in
    record { from = λ ks p. settled-drawn c.args.kinds.now c.args.ways.now c.args.i g (c.try_guided-drawn.ensures.from ks c.args.kinds.now p g) c.if-drawn.true }

pub returns : goal.returns
returns c =
    let g = kind-gate _ c.if-kinds-i-ne-KIND_GATED.false in
    record { from = λ ks p. settled-turned c.args.kinds.now c.args.ways.now c.args.i g (c.try_guided-drawn.ensures.from ks c.args.kinds.now p g) c.if-drawn.false }
