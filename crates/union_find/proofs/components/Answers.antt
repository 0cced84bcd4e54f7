-- `components` meets its contract: the forest of all reaches is that of the network, and so the numbers are those of its components.
-- Assumes nothing.
use mathlib.Core.Path.{refl}
use Rattle.tables.specs.Rows.{net_of}
use Rattle.union_find.proofs.components.Goals as goal

pub returns : goal.returns
returns c =
    c.number.ensures.of (net_of c.args.n c.args.kinds.now c.args.a.now c.args.b.now) refl c.join_all.ensures
