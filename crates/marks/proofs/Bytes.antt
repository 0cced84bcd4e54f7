-- Writing marks: the bit of a basin, and the byte of eight basins.
-- Assumes nothing.
use Prim.Native.Nat.{ℕ, zero, suc, ◌+◌, ◌*◌, ◌^◌, ◌≤◌, ◌<◌, zero-le}
use native.Mathlib.Nat.{pow-suc}
use native.Mathlib.Omega.{arith}
use mathlib.Core.Path.{◌≡◌}
use mathlib.Core.Bool.{Bool, false}
use mathlib.Core.List.{List, map}
use lib.Pow.{pow_mono}
use mathlib.Mathlib.Data.Bool.Basic.{Bool-eq-false}
use Rattle.lists.specs.Lists.{range, elem}
use Rattle.network.specs.Marks.{bit, binary_of}
use Rattle.lists.proofs.Searches.{keep-in, elem_in, elem-keep}
use Rattle.lists.proofs.Ranges.{range-has, range-in}
use Rattle.distances.specs.Distances.{noted}
use Rattle.marks.specs.Sets.{marked_set}
use Rattle.network.proofs.Marks.{bit-lt}

-- ---- one basin

module _ (n : ℕ) (seen : List ℕ) (b : ℕ) where
  -- a basin below n is marked where it is noted as reached
  pub marked-below : b < n → elem b (marked_set n seen) ≡ noted seen b
  marked-below h = elem-keep (noted seen) (range-has 0 n zero-le (omega arith))

  -- no basin from n on is marked
  pub marked-past : n ≤ b → elem b (marked_set n seen) ≡ false
  marked-past h = Bool-eq-false {b = elem b (marked_set n seen)}
      (λ e. let r = range-in 0 n (keep-in (noted seen) (range 0 n) (elem_in b (marked_set n seen) e)).0 in omega arith)

-- ---- eight basins

module _ (p : ℕ → Bool) where
  -- n digits make a number below 2 ^ n
  digits-below : (i n : ℕ) → binary_of (map p (range i n)) < 2 ^ n
  digits-below i zero = omega arith
  digits-below i (suc n) = rw pow-suc (omega (arith, bit-lt (p i), digits-below (suc i) n))

  -- as long as a digit of eight is left, they make a number below 128
  pub digits-room : (i j : ℕ) → j < 8 → binary_of (map p (range i j)) < 128
  digits-room i j h = omega (arith, digits-below i j, pow_mono {i = j} {j = 7} (omega arith))

  -- one more digit, below those that are taken
  pub digits_more : (i j n m : ℕ) → j ≡ suc i → m ≡ suc n → 2 * binary_of (map p (range j n)) + bit (p i) ≡ binary_of (map p (range i m))
  digits_more i j n m e f = rw (e, f) (omega arith)
