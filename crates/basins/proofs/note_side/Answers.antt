-- `note_side` meets its contract.
-- Assumes nothing.
use native.Mathlib.Omega.{arith}
use mathlib.Core.Path.{ap, ◌∙◌}
use Rattle.tables.specs.Rows.{net_of}
use Rattle.distances.specs.Distances.{noted}
use Rattle.basins.proofs.Notes.{side-noted}
use Rattle.basins.proofs.note_side.Goals as goal

pub returns : goal.returns
returns c =
    side-noted (net_of c.args.graph.now.basins c.args.kinds.now c.args.graph.now.a.now c.args.graph.now.b.now) c.args.seen.now c.lowest_wet.result _ c.lowest_wet.ensures
    (c.is_noted-x.ensures ∙ ap (λ j. noted c.args.seen.now j) (omega (arith, c.unwrap_or-low.ensures))) c.note_others.ensures
