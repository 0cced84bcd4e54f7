-- Laws of range, the numbers from i on, n of them, and of the values of a function over it.
-- Assumes nothing.
use Prim.Native.Nat.{ℕ, zero, suc, ◌+◌, ◌≤◌, ◌<◌}
use native.Mathlib.Nat.{not-suc-le-zero, le_of_suc-le-suc, zero-add, add-zero, suc-add, add-suc}
use native.Mathlib.Numerals.{add-one}
use native.Mathlib.Omega.{arith}
use mathlib.Core.Path.{◌≡◌, refl, ap, ap₂, ◌∙◌}
use mathlib.Core.Logic.{⊎_elim}
use mathlib.Core.List.Memᴰ
use mathlib.Core.List.{List, [], ◌∷◌, ◌++◌, map, Memᴰ}
use lib.ListN.{length, get_or, set, drop}
use lib.Dec.{eqb}
use borrow.Author.Tests.{eqb-true, eqb-false}
use Rattle.lists.specs.Lists.{range}
use Rattle.lists.proofs.Bools.{decide}

-- its length and its members
pub length-range : (i n : ℕ) → length (range i n) ≡ n
length-range i zero = refl
length-range i (suc n) = ap suc (length-range (suc i) n)

pub range-has : {j : ℕ} (i n : ℕ) → i ≤ j → j < i + n → Memᴰ j (range i n)
range-has i zero h k = absurd (omega arith)
range-has {j} i (suc n) h k =
    ⊎_elim
    (λ e. Memᴰ.head (eqb-true j i e))
    (λ e. let d : j ≡ i → ⊥ = eqb-false j i e in Memᴰ.tail (range-has (suc i) n (omega arith) (omega arith)))
    (decide (eqb j i))

pub range-in : {j : ℕ} (i n : ℕ) → Memᴰ j (range i n) → (i ≤ j) × (j < i + n)
range-in i zero m = absurd (Memᴰ.not-nil m)
range-in {j} i (suc n) m =
    ⊎_elim
    (λ e. (omega arith, omega arith))
    (λ k. let r = range-in (suc i) n k in (omega arith, omega arith))
    (Memᴰ.cases_cons m)

-- the member at a place
pub range_at : (i n k : ℕ) → k < n → get_or (range i n) k 0 ≡ i + k
range_at i zero k h = absurd (omega arith)
range_at i (suc n) zero h = omega arith
range_at i (suc n) (suc k) h = range_at (suc i) n k (omega arith) ∙ omega arith

pub range-add : (i m n : ℕ) → range i (m + n) ≡ range i m ++ range (i + m) n
range-add i zero n = rw (zero-add, add-zero)
range-add i (suc m) n = rw (suc-add, range-add (suc i) m n, add-suc, suc-add)

-- ---- the values of a function over a range

module _ {A : Type 0} (f : ℕ → A) where
  pub map-range-at : (d : A) (i n k : ℕ) → k < n → get_or (map f (range i n)) k d ≡ f (i + k)
  map-range-at d i zero k h = absurd (omega arith)
  map-range-at d i (suc n) zero h = ap f (omega arith)
  map-range-at d i (suc n) (suc k) h = map-range-at d (suc i) n k (omega arith) ∙ ap f (omega arith)

  pub map-range-same : (g : ℕ → A) (i n : ℕ) → ((j : ℕ) → i ≤ j → j < i + n → f j ≡ g j) → map f (range i n) ≡ map g (range i n)
  map-range-same g i zero h = refl
  map-range-same g i (suc n) h = ap₂ {C = List A} (λ x xs. x ∷ xs) (h i (omega arith) (omega arith)) (map-range-same g (suc i) n (λ j l u. h j (omega arith) (omega arith)))

  pub map-range-suc : (i n : ℕ) → map f (range (suc i) n) ≡ map (λ j. f (suc j)) (range i n)
  map-range-suc i zero = refl
  map-range-suc i (suc n) = ap (λ xs. f (suc i) ∷ xs) (map-range-suc (suc i) n)

  put-at : (i k : ℕ) (d : List A) → k < length d → set (map f (range i k) ++ drop k d) k (f (i + k)) ≡ map f (range i (suc k)) ++ drop (suc k) d
  put-at i k [] h = absurd (not-suc-le-zero h)
  put-at i zero (x ∷ d) h = rw add-zero
  put-at i (suc k) (x ∷ d) h = rw (add-suc, ← suc-add) (ap (λ (t : List A). f i ∷ t) (put-at (suc i) k d (le_of_suc-le-suc h)))

  -- a store of f k at k, where the values of f stand before it
  pub put-suc : (k : ℕ) (d : List A) → k < length d → set (map f (range 0 k) ++ drop k d) k (f k) ≡ map f (range 0 (suc k)) ++ drop (suc k) d
  put-suc k d h =
      let e : 0 + k ≡ k = omega arith in
      rw e at (put-at 0 k d h)

  pub put-more : (k : ℕ) (d : List A) → k < length d → set (map f (range 0 k) ++ drop k d) k (f k) ≡ map f (range 0 (k + 1)) ++ drop (k + 1) d
  put-more k d h = rw add-one (put-suc k d h)
