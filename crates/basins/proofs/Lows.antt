-- The lowest wet basin, looked for from basin 0 on.
-- Assumes nothing.
use Prim.Native.Nat.{ℕ, ◌≤◌, ◌<◌}
use native.Mathlib.Omega.{arith}
use mathlib.Core.Path.{◌≡◌, refl}
use mathlib.Core.Bool.{true, false}
use Rattle.std.proofs.Common.{Option, None, Some, MatchOption}
use Rattle.lists.proofs.Bools.{clash}
use Rattle.network.specs.Networks.{Network, is_wet}
use Rattle.basins.specs.Wet.{any_basin, Lowest}

-- what the search for a wet basin found
module _ (N : Network) where
  pub lowest-found :
      (r : Option ℕ) → MatchOption r ((v : ℕ) → 0 ≤ v → v < N.basins → is_wet N v ≡ false) (λ v. (0 ≤ v) × (v < N.basins) × (is_wet N v ≡ true) × ((u : ℕ) → 0 ≤ u → u < v → is_wet N u ≡ false)) → Lowest N any_basin r
  lowest-found None f = record { lower = λ v l w. clash w (f v (omega arith) l); at = tt }
  lowest-found (Some v) f = record { lower = λ u l w. clash w (f.3 u (omega arith) l); at = (f.1, f.2, refl) }
