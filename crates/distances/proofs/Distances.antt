-- The laws of `fewest`: a walk of that many arcs exists and none is shorter, the triangle rule, and a count below 65,535 exactly if reached.
-- Assumes nothing.
use Prim.Native.Nat.{ℕ, ◌+◌, ◌≤◌, ◌<◌}
use native.Mathlib.Omega.{arith}
use native.Mathlib.Decide.{dec_lt, dec_le, ℕ_discrete}
use mathlib.Core.Path.{◌≡◌, refl, subst, ◌∙◌}
use mathlib.Core.Bool.{Bool, true, false, cond}
use mathlib.Core.Logic.{⊎_elim}
use mathlib.Core.List.Memᴰ
use mathlib.Core.List.{List, [], ◌∷◌, Memᴰ}
use lib.ListN.{length}
use lib.Dec.{eqb, ltb}
use borrow.Author.Tests.{eqb-true, eq-eqb, ltb-true, lt-ltb}
use Rattle.lists.proofs.Bools.{same_test, clash}
use Rattle.lists.proofs.Searches.{attained-below}
use Rattle.network.specs.Orientations.{Arc, arc, Walk, stay, step, reached}
use Rattle.network.proofs.Walks.{Within, arc-from, arc-to, reached-walk, walk-reached}
use Rattle.distances.specs.Distances.{unreached, WalkOf, none-crossed, crossing, fewest}

-- ---- walks whose arcs are counted

walk_of-trans : {A : List Arc} {j k u v w : ℕ} → WalkOf A j u v → WalkOf A k v w → WalkOf A (j + k) u w
walk_of-trans {A} {k} {u} {w} none-crossed q = subst (λ (n : ℕ). WalkOf A n u w) (omega arith) q
walk_of-trans {A} {k} {u} {w} (crossing {k = j} m p) q = subst (λ (n : ℕ). WalkOf A n u w) (omega arith) (crossing m (walk_of-trans p q))

walk_of-within : {A B : List Arc} {k u v : ℕ} → Within A B → WalkOf A k u v → WalkOf B k u v
walk_of-within h none-crossed = none-crossed
walk_of-within h (crossing {u = a} {v = b} m p) = crossing (h (arc a b) m) (walk_of-within h p)

-- one more arc at its end
pub walk_of-more : {A : List Arc} {k u v w : ℕ} → WalkOf A k u v → Memᴰ (arc v w) A → WalkOf A (k + 1) u w
walk_of-more p m = walk_of-trans p (crossing m none-crossed)

-- the arcs not counted
walk_of-walk : {A : List Arc} {k u v : ℕ} → WalkOf A k u v → Walk A u v
walk_of-walk none-crossed = stay
walk_of-walk (crossing m p) = step m (walk_of-walk p)

-- ---- the fewest

-- without arcs: 0 or 65,535
none-most : (b : Bool) → cond b 0 unreached ≤ unreached
none-most true = omega arith
none-most false = omega arith

-- the triangle rule
pub triangle : (A : List Arc) (u v w : ℕ) → fewest A u w ≤ fewest A u v + fewest A v w
triangle [] u v w = go (eqb u v) (eqb v w) refl refl
  where
    go : (x y : Bool) → eqb u v ≡ x → eqb v w ≡ y → cond (eqb u w) 0 unreached ≤ cond x 0 unreached + cond y 0 unreached
    go true true p q = rw (eq-eqb u w (eqb-true u v p ∙ eqb-true v w q)) (omega arith)
    go true false p q = omega (arith, none-most (eqb u w))
    go false y p q = omega (arith, none-most (eqb u w))
triangle (arc a b ∷ A) u v w = omega (arith, triangle A u v w, triangle A u v a, triangle A b v w)

-- never more than 65,535
pub fewest-most : (A : List Arc) (u v : ℕ) → fewest A u v ≤ unreached
fewest-most [] u v = none-most (eqb u v)
fewest-most (arc a b ∷ A) u v = omega (arith, fewest-most A u v)

-- "0 from a basin to itself"
pub fewest-self : (A : List Arc) (u : ℕ) → fewest A u u ≡ 0
fewest-self [] u = rw (eq-eqb u u refl)
fewest-self (arc a b ∷ A) u = omega (arith, fewest-self A u)

-- an arc is one crossing at most
fewest-arc : (A : List Arc) (u v : ℕ) → Memᴰ (arc u v) A → fewest A u v ≤ 1
fewest-arc [] u v m = absurd (Memᴰ.not-nil m)
fewest-arc (arc a b ∷ A) u v m =
    ⊎_elim
    (λ e. omega (arith, subst (λ (x : ℕ). fewest A u x ≡ 0) (arc-from e) (fewest-self A u), subst (λ (x : ℕ). fewest A x v ≡ 0) (arc-to e) (fewest-self A v)))
    (λ t. omega (arith, fewest-arc A u v t))
    (Memᴰ.cases_cons m)

fewest-step : (A : List Arc) (u v w : ℕ) → Memᴰ (arc v w) A → fewest A u w ≤ fewest A u v + 1
fewest-step A u v w m = omega (arith, triangle A u v w, fewest-arc A v w m)

-- no walk is shorter
pub fewest-least : {A : List Arc} {k u v : ℕ} → WalkOf A k u v → fewest A u v ≤ k
fewest-least {A} {u = a} none-crossed = omega (arith, fewest-self A a)
fewest-least {A} (crossing {k = k} {u = a} {v = b} {w = c} m p) = omega (arith, triangle A a b c, fewest-arc A a b m, fewest-least p)

-- and a walk of that many arcs exists
head-within : (x : Arc) (A : List Arc) → Within A (x ∷ A)
head-within x A y m = Memᴰ.tail m

pub fewest-walk : (A : List Arc) (u v : ℕ) → fewest A u v < unreached → WalkOf A (fewest A u v) u v
fewest-walk [] u v l = go (eqb u v) refl l
  where
    go : (x : Bool) → eqb u v ≡ x → cond x 0 unreached < unreached → WalkOf [] (cond x 0 unreached) u v
    go true e l = subst (λ (x : ℕ). WalkOf [] 0 u x) (eqb-true u v e) none-crossed
    go false e l = absurd (omega arith)
fewest-walk (arc a b ∷ A) u v l = go (dec_le (fewest A u v) (fewest A u a + 1 + fewest A b v)) (fewest-walk A u v) (fewest-walk A u a) (fewest-walk A b v)
  where
    Found : ℕ → ℕ → Type 0
    Found x y = fewest A x y < unreached → WalkOf A (fewest A x y) x y

    W : Within A (arc a b ∷ A)
    W = head-within (arc a b) A

    go : Dec (fewest A u v ≤ fewest A u a + 1 + fewest A b v) → Found u v → Found u a → Found b v → WalkOf (arc a b ∷ A) (fewest (arc a b ∷ A) u v) u v
    go (yes d) p q r = subst (λ (k : ℕ). WalkOf (arc a b ∷ A) k u v) (omega arith) (walk_of-within W (p (omega arith)))
    go (no d) p q r =
        subst (λ (k : ℕ). WalkOf (arc a b ∷ A) k u v) (omega arith)
        (walk_of-trans (walk_of-more (walk_of-within W (q (omega arith))) (Memᴰ.head refl)) (walk_of-within W (r (omega arith))))

-- ---- below the number of basins

-- a number that rises by one at most along each arc has along a walk each value between
module _ (f : ℕ → ℕ) {A : List Arc} (S : List ℕ) (rises : (a b : ℕ) → Memᴰ (arc a b) A → f b ≤ f a + 1) (leads : (a b : ℕ) → Memᴰ (arc a b) A → Memᴰ b S) where
  between : {u v : ℕ} → Walk A u v → Memᴰ u S → (d : ℕ) → f u ≤ d → d ≤ f v → (x : ℕ) × Memᴰ x S × (f x ≡ d)
  between (stay {u = a}) m d l h = (a, m, omega arith)
  between (step {u = a} {v = b} e p) m d l h = go (ℕ_discrete (f a) d) (λ l'. between p (leads a b e) d l' h)
    where
      go : Dec (f a ≡ d) → (f b ≤ d → (x : ℕ) × Memᴰ x S × (f x ≡ d)) → (x : ℕ) × Memᴰ x S × (f x ≡ d)
      go (yes same) on = (a, m, same)
      go (no other) on = on (omega (arith, rises a b e))

-- where it is reached the count is below the number of basins, all of them or those that arcs lead to
module _ (A : List Arc) (S : List ℕ) (leads : (a b : ℕ) → Memᴰ (arc a b) A → Memᴰ b S) (u v : ℕ) (m : Memᴰ u S) where
  pub fewest-below : reached A u v ≡ true → fewest A u v < length S
  fewest-below e = attained-below (fewest A u) S (fewest A u v) (λ j l. between (fewest A u) S (fewest-step A u) leads (reached-walk A u v e) m j (omega (arith, fewest-self A u)) l)

  -- a count below 65,535 exactly if reached: it never collides with a count, as long as there are no more basins than that
  pub counted-exactly : length S ≤ unreached → ltb (fewest A u v) unreached ≡ reached A u v
  counted-exactly few =
      same_test (ltb (fewest A u v) unreached) (reached A u v)
      (λ e. walk-reached (walk_of-walk (fewest-walk A u v (ltb-true (fewest A u v) unreached e))))
      (λ e. lt-ltb (fewest A u v) unreached (omega (arith, fewest-below e)))

-- what is not reached has 65,535
pub fewest-unreached : (A : List Arc) (u v : ℕ) → reached A u v ≡ false → fewest A u v ≡ unreached
fewest-unreached A u v n = go (dec_lt (fewest A u v) unreached)
  where
    go : Dec (fewest A u v < unreached) → fewest A u v ≡ unreached
    go (yes l) = clash (walk-reached (walk_of-walk (fewest-walk A u v l))) n
    go (no l) = omega (arith, fewest-most A u v)
