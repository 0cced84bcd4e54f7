-- The greatest number that f gives a wet basin, looked for from basin 0 on.
-- Assumes nothing.
use Prim.Native.Nat.{ℕ, ◌+◌, max, ◌≤◌, ◌<◌}
use native.Mathlib.Omega.{arith}
use native.Mathlib.Decide.{ℕ_discrete, dec_lt}
use mathlib.Core.Path.{◌≡◌, refl}
use mathlib.Core.Bool.{Bool, true, false}
use mathlib.Core.Logic.{◌⊎◌, inl, inr, ⊎_elim}
use mathlib.Core.List.{List}
use Rattle.lists.proofs.Bools.{clash}
use Rattle.network.specs.Networks.{Network, is_wet, basins_of}
use Rattle.network.proofs.Networks.{basin-in, basin-below, basin-wet}
use Rattle.network.specs.Orientations.{Arc}
use Rattle.distances.specs.Distances.{unreached, fewest}
use Rattle.distances.specs.Diameters.{greatest, farthest}
use Rattle.distances.proofs.Diameters.{greatest-at, greatest-le, greatest-same}
use Rattle.search.specs.Searches.{Noted}
use Rattle.eccentricity.specs.Rows.{count_at, most_with}

-- ---- one basin after the other

-- No wet basin below v has more than most, and one has it unless it is 0.
pub record Most (N : Network) (f : ℕ → ℕ) (v most : ℕ) : Type 0 where
  pub bound : (u : ℕ) → u < v → is_wet N u ≡ true → f u ≤ most
  pub shown : (most ≡ 0) ⊎ ((u : ℕ) × (u < v) × (is_wet N u ≡ true) × (f u ≡ most))

module _ (N : Network) (f : ℕ → ℕ) where
  pub most-none : Most N f 0 0
  most-none = record { bound = λ u l w. absurd (omega arith); shown = inl refl }

  -- one basin more
  pub most-more : {r : ℕ} (v most : ℕ) → Most N f v most → r ≡ most_with (is_wet N v) most (f v) → Most N f (v + 1) r
  most-more v most m e = rw e (go (is_wet N v) refl (dec_lt most (f v)))
    where
      earlier : (k : ℕ) → most ≤ k → (is_wet N v ≡ true → f v ≤ k) → (u : ℕ) → u < v + 1 → is_wet N u ≡ true → Dec (u ≡ v) → f u ≤ k
      earlier k l h u b w (yes same) = rw same (h (rw same at w))
      earlier k l h u b w (no other) = omega (arith, m.bound u (omega arith) w)

      kept : (most ≡ 0) ⊎ ((u : ℕ) × (u < v + 1) × (is_wet N u ≡ true) × (f u ≡ most))
      kept = ⊎_elim (λ z. inl z) (λ u. inr (u.0, omega (arith, u.1), u.2, u.3)) m.shown

      go : (wet : Bool) → is_wet N v ≡ wet → Dec (most < f v) → Most N f (v + 1) (most_with wet most (f v))
      go false w d = record { bound = λ u b y. earlier most (omega arith) (λ t. clash t w) u b y (ℕ_discrete u v); shown = kept }
      go true w (yes d) =
          let is : max most (f v) ≡ f v = omega arith in
          rw is (record { bound = λ u b y. earlier (f v) (omega arith) (λ _. omega arith) u b y (ℕ_discrete u v); shown = inr (v, omega arith, w, refl) })
      go true w (no d) =
          let is : max most (f v) ≡ most = omega arith in
          rw is (record { bound = λ u b y. earlier most (omega arith) (λ _. omega arith) u b y (ℕ_discrete u v); shown = kept })

  -- it is at most the greatest
  shown-le : {v most : ℕ} → v ≤ N.basins → Most N f v most → most ≤ greatest f (basins_of N)
  shown-le l m = ⊎_elim (λ z. omega arith) (λ u. omega (arith, u.3, greatest-at f (basins_of N) (basin-in N u.0 (omega (arith, u.1)) u.2))) m.shown

  -- all are passed
  pub most-all : {v most : ℕ} → v ≡ N.basins → Most N f v most → most ≡ greatest f (basins_of N)
  most-all {v} {most} e m = omega (arith, shown-le (omega arith) m, greatest-le f (basins_of N) most (λ u b. m.bound u (omega (arith, basin-below N u b)) (basin-wet N u b)))

  -- none can have more
  pub most-top : {v most : ℕ} → v ≤ N.basins → unreached ≤ most → ((u : ℕ) → f u ≤ unreached) → Most N f v most → most ≡ greatest f (basins_of N)
  most-top l t h m = omega (arith, shown-le l m, greatest-le f (basins_of N) unreached (λ u b. h u))

-- ---- what a search has noted

pub counts-farthest : (N : Network) (A : List Arc) (u : ℕ) (seen : List ℕ) → Noted A N.basins u seen → greatest (count_at seen) (basins_of N) ≡ farthest (basins_of N) A u
counts-farthest N A u seen noted = greatest-same (count_at seen) (fewest A u) (basins_of N) (λ v m. noted v (basin-below N v m))
