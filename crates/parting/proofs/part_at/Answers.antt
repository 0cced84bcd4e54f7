-- `parting::part_at` meets its contract: a gate that is as drawn is tried turned.
-- Assumes nothing.
use mathlib.Core.Path.{refl}
use Rattle.parting.specs.Parts.{passed, freed, tried}
use Rattle.orienting.proofs.Readies.{kind-gate}
use Rattle.network.proofs.Networks.{not-gated}
use Rattle.parting.proofs.part_at.Goals as goal

pub returns-then-kinds-i-ne-KIND_GATED : goal.returns-then-kinds-i-ne-KIND_GATED
returns-then-kinds-i-ne-KIND_GATED c = record { from = λ ks p. passed (not-gated _ c.if-kinds-i-ne-KIND_GATED.true) refl refl }

pub returns-then-under-i-ne0 : goal.returns-then-under-i-ne0
returns-then-under-i-ne0 c = record { from = λ ks p. freed (kind-gate _ c.if-kinds-i-ne-KIND_GATED.false) c.if-under-i-ne0.true refl refl }

pub returns : goal.returns
returns c =
    let g = kind-gate _ c.if-kinds-i-ne-KIND_GATED.false in
    record { from = λ ks p. tried g c.if-under-i-ne0.false (c.try_guided.ensures.from ks c.args.kinds.now p g) }
