-- `number` meets its contract: the basins passed have the numbers of their components, for every network whose components have these parents.
-- Assumes nothing.
use mathlib.Core.Path.{◌≡◌}
use Rattle.network.specs.Networks.{Network}
use Rattle.union_find.specs.Forests.{Forest}
use Rattle.union_find.proofs.Numbers.{Numbering, Labelling}
use Rattle.union_find.proofs.number.Given as goal

abbrev pub invariant-loop-v : goal.invariant-loop-v
invariant-loop-v l = Numbering l.n l.initial.parents l.initial.notes l.parents l.notes l.count l.v × ((N : Network) → N.basins ≡ l.n → Forest N l.initial.parents → Labelling N l.parents l.notes l.count l.v)
