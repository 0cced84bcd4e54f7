-- The basins that are marked.
-- Assumes nothing.
use Rattle.std.specs.Prelude.{ℕ, List}
use Rattle.lists.specs.Lists.{range, keep}
use Rattle.distances.specs.Distances.{noted}

-- The basins below n that are noted as reached.
abbrev pub marked_set : ℕ → List ℕ → List ℕ
marked_set n seen = keep (noted seen) (range 0 n)
