-- `parting::orient_as` meets its contract: the try that the byte asks for.
-- Assumes nothing.
use mathlib.Core.Path.{refl}
use Rattle.parting.specs.Parts.{no-gate, as-under}
use Rattle.orienting.proofs.Readies.{kind-gate}
use Rattle.network.proofs.Networks.{not-gated}
use Rattle.parting.proofs.orient_as.Goals as goal

pub returns-then-kinds-i-ne-KIND_GATED : goal.returns-then-kinds-i-ne-KIND_GATED
returns-then-kinds-i-ne-KIND_GATED c = no-gate (not-gated _ c.if-kinds-i-ne-KIND_GATED.true) refl refl

pub returns : goal.returns
returns c = as-under (kind-gate _ c.if-kinds-i-ne-KIND_GATED.false) c.try_way.ensures
