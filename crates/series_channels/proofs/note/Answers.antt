-- `series_channels::note` meets its contract.
-- Assumes nothing.
use Prim.Native.Nat.{◌/◌}
use mathlib.Core.Path.{refl, ap}
use lib.ListN.{set}
use Rattle.series_channels.specs.Channels.{noted, unchanged}
use Rattle.series_channels.proofs.note.Goals as goal

pub returns-then-kinds-k-ne-KIND_GATED : goal.returns-then-kinds-k-ne-KIND_GATED
returns-then-kinds-k-ne-KIND_GATED c = unchanged refl

pub returns-then-guide-k-lt-NO_HALF : goal.returns-then-guide-k-lt-NO_HALF
returns-then-guide-k-lt-NO_HALF c = unchanged refl

pub returns : goal.returns
returns c = noted (ap (λ x. set c.args.guide.now (c.args.o / 2) x) c.guide_of-x.ensures)
