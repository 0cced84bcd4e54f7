-- Half-edges: where they stand, and which arcs they are.
-- Assumes nothing.
use Prim.Native.Nat.{ℕ, zero, suc, ◌+◌, ◌*◌, ◌/◌, ◌%◌, ◌≤◌, ◌<◌}
use mathlib.Core.Path.{◌≡◌, refl}
use mathlib.Core.Bool.{true, ◌||◌, false≢true}
use mathlib.Core.Logic.{⊎_elim}
use mathlib.Core.List.Memᴰ
use mathlib.Core.List.{List, [], ◌∷◌, Memᴰ}
use native.Mathlib.Omega.{arith}
use lib.ListN.{length, get_or}
use lib.Dec.{eqb}
use borrow.Author.Tests.{eqb-true}
use Rattle.network.specs.Orientations.{Arc, arc, passing}
use Rattle.lists.proofs.Bools.{or_cases}
use Rattle.half_edges.specs.Ends.{arcs_of, halves, pick, end_of, other_of, leaves, Next}
use Rattle.half_edges.specs.Chains.{Table}
use Rattle.half_edges.proofs.Laws.{table-turned}

-- ---- where they stand

module _ (xs ys : List ℕ) where
  -- the half-edges of reach i stand at its two ends
  pub end-even : (i : ℕ) → end_of xs ys (2 * i) ≡ get_or xs i 0
  end-even i =
      let s : (2 * i) % 2 ≡ 0 = omega arith in
      let d : 2 * i / 2 ≡ i = omega arith in
      rw (s, d)

  pub end-odd : (i : ℕ) → end_of xs ys (2 * i + 1) ≡ get_or ys i 0
  end-odd i =
      let s : (2 * i + 1) % 2 ≡ 1 = omega arith in
      let d : (2 * i + 1) / 2 ≡ i = omega arith in
      rw (s, d)

  -- every half-edge stands at a basin
  pub end_below : (n h : ℕ) → Table n xs ys → h < halves xs → end_of xs ys h < n
  end_below n h t l = at (h % 2) refl
    where
      at : (s : ℕ) → h % 2 ≡ s → end_of xs ys h < n
      at zero e = rw e (t.ends-a (h / 2) (omega arith))
      at (suc s) e = rw e (t.ends-b (h / 2) (omega arith))

-- ---- which arcs they are

-- an arc of a table is passed by some reach
arc-reach : (x : Arc) (xs ys ws : List ℕ) → Memᴰ x (arcs_of xs ys ws)
    → (i : ℕ) × (i < length xs) × Memᴰ x (passing (get_or ws i 0) (get_or xs i 0) (get_or ys i 0))
arc-reach x [] ys ws m = absurd (Memᴰ.not-nil m)
arc-reach x (a ∷ xs) [] ws m = absurd (Memᴰ.not-nil m)
arc-reach x (a ∷ xs) (b ∷ ys) [] m = absurd (Memᴰ.not-nil m)
arc-reach x (a ∷ xs) (b ∷ ys) (w ∷ ws) m =
    ⊎_elim (λ p. (0, omega arith, p)) (λ q. let r = arc-reach x xs ys ws q in (suc r.0, omega (arith, r.1), r.2)) (Memᴰ.append_cases (passing w a b) m)

-- and what a reach passes is an arc of the table
reach-arc : (x : Arc) (i : ℕ) (xs ys ws : List ℕ) → i < length xs → i < length ys → i < length ws
    → Memᴰ x (passing (get_or ws i 0) (get_or xs i 0) (get_or ys i 0)) → Memᴰ x (arcs_of xs ys ws)
reach-arc x i [] ys ws p q r m = absurd (omega arith)
reach-arc x i (a ∷ xs) [] ws p q r m = absurd (omega arith)
reach-arc x i (a ∷ xs) (b ∷ ys) [] p q r m = absurd (omega arith)
reach-arc x zero (a ∷ xs) (b ∷ ys) (w ∷ ws) p q r m = Memᴰ.append_left (arcs_of xs ys ws) m
reach-arc x (suc i) (a ∷ xs) (b ∷ ys) (w ∷ ws) p q r m = Memᴰ.append_right (passing w a b) (reach-arc x i xs ys ws (omega arith) (omega arith) (omega arith) m)

-- At side s of a reach between a and b with way k stands u, w is at the other, and it passes from u to w.
record Side (k a b u w : ℕ) : Type 0 where
  side : ℕ
  small : side < 2
  from : pick side a b ≡ u
  to : pick side b a ≡ w
  passes : eqb k 2 || eqb k side ≡ true

-- an arc from end A to end B, and one from end B to end A
at_a : (k a b u w : ℕ) → eqb k 2 || eqb k 0 ≡ true → Memᴰ (arc u w) (arc a b ∷ []) → Side k a b u w
at_a k a b u w p m = let e = Memᴰ.eq_of_singleton m in record { side = 0; small = omega arith; from = (cc); to = (cc); passes = p }

at_b : (k a b u w : ℕ) → eqb k 2 || eqb k 1 ≡ true → Memᴰ (arc u w) (arc b a ∷ []) → Side k a b u w
at_b k a b u w p m = let e = Memᴰ.eq_of_singleton m in record { side = 1; small = omega arith; from = (cc); to = (cc); passes = p }

-- what a reach passes, it passes away from one of its sides
passing-side : (k a b u w : ℕ) → Memᴰ (arc u w) (passing k a b) → Side k a b u w
passing-side zero a b u w m = at_a 0 a b u w refl m
passing-side (suc zero) a b u w m = at_b 1 a b u w refl m
passing-side (suc (suc zero)) a b u w m =
    ⊎_elim (λ e. at_a 2 a b u w refl (Memᴰ.head e)) (λ t. at_b 2 a b u w refl t) (Memᴰ.cases_cons m)
passing-side (suc (suc (suc k))) a b u w m = absurd (Memᴰ.not-nil m)

-- and no way but 0, 1 and 2 passes
no_way : (k s : ℕ) → s < 2 → eqb (suc (suc (suc k))) 2 || eqb (suc (suc (suc k))) s ≡ true → ⊥
no_way k s l e = ⊎_elim (λ p. omega (arith, eqb-true (suc (suc (suc k))) 2 p)) (λ p. omega (arith, eqb-true (suc (suc (suc k))) s p)) (or_cases (eqb (suc (suc (suc k))) 2) _ e)

side-passing : (k s a b : ℕ) → s < 2 → eqb k 2 || eqb k s ≡ true → Memᴰ (arc (pick s a b) (pick s b a)) (passing k a b)
side-passing k (suc (suc s)) a b l e = absurd (omega arith)
side-passing zero zero a b l e = Memᴰ.head refl
side-passing zero (suc zero) a b l e = absurd (false≢true e)
side-passing (suc zero) zero a b l e = absurd (false≢true e)
side-passing (suc zero) (suc zero) a b l e = Memᴰ.head refl
side-passing (suc (suc zero)) zero a b l e = Memᴰ.head refl
side-passing (suc (suc zero)) (suc zero) a b l e = Memᴰ.tail (Memᴰ.head refl)
side-passing (suc (suc (suc k))) zero a b l e = absurd (no_way k 0 l e)
side-passing (suc (suc (suc k))) (suc zero) a b l e = absurd (no_way k 1 l e)

-- A half-edge of the table is an arc from u to w.
pub record Half (xs ys ws : List ℕ) (u w : ℕ) : Type 0 where
  pub half : ℕ
  pub within : half < halves xs
  pub stands : end_of xs ys half ≡ u
  pub leads : other_of xs ys half ≡ w
  pub passes : leaves ws half ≡ true

module _ (xs ys ws : List ℕ) where
  pub arc-half : (u w : ℕ) → Next (arcs_of xs ys ws) u w → Half xs ys ws u w
  arc-half u w m =
      let r = arc-reach (arc u w) xs ys ws m in
      let i = r.0 in
      let h = passing-side (get_or ws i 0) (get_or xs i 0) (get_or ys i 0) u w r.2 in
      let s : (2 * i + h.side) % 2 ≡ h.side = omega arith in
      let d : (2 * i + h.side) / 2 ≡ i = omega arith in
      record { half = 2 * i + h.side; within = omega (arith, r.1); stands = rw (s, d) h.from; leads = rw (s, d) h.to; passes = rw (s, d) h.passes }

  pub half-arc : (h : ℕ) → length ys ≡ length xs → length xs ≤ length ws → h < halves xs → leaves ws h ≡ true
      → Next (arcs_of xs ys ws) (end_of xs ys h) (other_of xs ys h)
  half-arc h p q l e =
      reach-arc (arc (end_of xs ys h) (other_of xs ys h)) (h / 2) xs ys ws (omega arith) (omega arith) (omega arith)
      (side-passing (get_or ws (h / 2) 0) (h % 2) (get_or xs (h / 2) 0) (get_or ys (h / 2) 0) (omega arith) e)

  -- every arc leads to a basin
  pub arc-below : (n u w : ℕ) → Table n xs ys → Next (arcs_of xs ys ws) u w → w < n
  arc-below n u w t m =
      let f = arc-half u w m in
      rw (← f.leads) (end_below ys xs n f.half (table-turned t) (omega (arith, f.within, t.paired)))
