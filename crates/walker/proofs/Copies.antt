-- A setting copied over a walker of zeros.
-- Assumes nothing.
use Prim.Native.Nat.{ℕ}
use mathlib.Core.Path.{◌≡◌}
use mathlib.Core.List.{List, ◌++◌}
use lib.ListN.{length, drop, replicate}
use Rattle.lists.proofs.Lists.{drop-replicate}
use Rattle.network.specs.Networks.{max_reaches}
use Rattle.walker.specs.Walkers.{walker_of}

unfoldable pub zeros : List ℕ
zeros = replicate max_reaches 0

-- bytes that are a setting's, over its first ones, are a walker's
pub over_zeros : (s : List ℕ) (bytes : List ℕ) → bytes ≡ s → bytes ++ drop (length s) zeros ≡ walker_of s
unfolding zeros walker_of
over_zeros s bytes e = rw (e, drop-replicate {A = ℕ} (length s) max_reaches 0)
