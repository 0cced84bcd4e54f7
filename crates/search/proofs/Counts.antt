-- How the number of unseen basins changes.
-- Assumes nothing.
use Prim.Native.Nat.{ℕ, zero, suc, ◌≤◌, ◌<◌}
use mathlib.Core.Path.{◌≡◌, ap}
use mathlib.Core.Bool.{Bool, true, false, cond}
use mathlib.Core.List.{List, [], ◌∷◌}
use native.Mathlib.Omega.{arith}
use lib.ListN.{length, set}
use lib.Dec.{ltb}
use borrow.Author.Tests.{lt-ltb, le-ltb}
use Rattle.distances.specs.Distances.{unreached}
use Rattle.search.specs.Searches.{Unseen, unseen}

-- at most all are unseen
pub unseen-le : (l : List ℕ) → unseen l ≤ length l
unseen-le [] = omega arith
unseen-le (x ∷ l) = go (ltb x unreached) (unseen-le l)
  where
    go : (b : Bool) → unseen l ≤ length l → cond b (unseen l) (suc (unseen l)) ≤ suc (length l)
    go true h = omega arith
    go false h = omega arith

-- a count at an unseen basin leaves one unseen basin less
pub unseen-set : (l : List ℕ) (i count : ℕ) → i < length l → count < unreached → Unseen l i → unseen l ≡ suc (unseen (set l i count))
unseen-set [] i count h c e = absurd (omega arith)
unseen-set (x ∷ l) zero count h c e = rw (le-ltb x unreached e, lt-ltb count unreached c)
unseen-set (x ∷ l) (suc i) count h c e = go (ltb x unreached) (unseen-set l i count (omega arith) c e)
  where
    go : (b : Bool) → unseen l ≡ suc (unseen (set l i count)) → cond b (unseen l) (suc (unseen l)) ≡ suc (cond b (unseen (set l i count)) (suc (unseen (set l i count))))
    go true h = h
    go false h = ap suc h
