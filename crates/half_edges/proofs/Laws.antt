-- Laws for callers: the arcs of a table and those of its lists of ends, and a search against the arrows.
-- Assumes nothing.
use Prim.Native.Nat.{ℕ, zero, suc}
use mathlib.Core.Path.{◌≡◌, refl, sym, ap, ◌∙◌}
use mathlib.Core.Bool.{true}
use mathlib.Core.Logic.{⊎_elim}
use mathlib.Core.List.Memᴰ
use mathlib.Core.List.{List, [], ◌∷◌, ◌++◌, map, Memᴰ}
use native.Mathlib.Omega.{arith}
use Rattle.network.specs.declared.Reach.{Reach}
use Rattle.network.specs.Orientations.{Arc, arc, passing, arcs, Walk, stay, step, reached}
use Rattle.lists.proofs.Bools.{same_test}
use Rattle.network.proofs.Walks.{Within, walk-trans, walk-arc, walk-reached, reached-walk, reached-same}
use Rattle.half_edges.specs.Ends.{arcs_of, flip_way, Next}
use Rattle.half_edges.specs.Chains.{Table}

-- a table passes what its two lists of ends pass
pub arcs-ends : (t : List Reach) (ws : List ℕ) → arcs t ws ≡ arcs_of (map (λ r. r.a) t) (map (λ r. r.b) t) ws
arcs-ends [] ws = refl
arcs-ends (r ∷ t) [] = refl
arcs-ends (r ∷ t) (w ∷ ws) = ap (λ l. passing w r.a r.b ++ l) (arcs-ends t ws)

-- ---- with the two lists exchanged, every arc is turned

-- and a table stays one, so that it has an index of its own
pub table-turned : {n : ℕ} {xs ys : List ℕ} → Table n xs ys → Table n ys xs
table-turned {n} {xs} {ys} t =
    record { paired = sym t.paired; few = omega arith; ends-a = λ i l. t.ends-b i (omega arith); ends-b = λ i l. t.ends-a i (omega arith) }

arc-turned : {a b u v : ℕ} → arc u v ≡ arc a b → arc v u ≡ arc b a
arc-turned e = cc

passing-turned : (k a b u v : ℕ) → Memᴰ (arc u v) (passing k a b) → Memᴰ (arc v u) (passing k b a)
passing-turned zero a b u v m = Memᴰ.head (arc-turned (Memᴰ.eq_of_singleton m))
passing-turned (suc zero) a b u v m = Memᴰ.head (arc-turned (Memᴰ.eq_of_singleton m))
passing-turned (suc (suc zero)) a b u v m =
    ⊎_elim (λ e. Memᴰ.head (arc-turned e)) (λ t. Memᴰ.tail (Memᴰ.head (arc-turned (Memᴰ.eq_of_singleton t)))) (Memᴰ.cases_cons m)
passing-turned (suc (suc (suc k))) a b u v m = absurd (Memᴰ.not-nil m)

next-turned : (xs ys ws : List ℕ) (u v : ℕ) → Next (arcs_of xs ys ws) u v → Next (arcs_of ys xs ws) v u
next-turned [] ys ws u v m = absurd (Memᴰ.not-nil m)
next-turned (a ∷ xs) [] ws u v m = absurd (Memᴰ.not-nil m)
next-turned (a ∷ xs) (b ∷ ys) [] u v m = absurd (Memᴰ.not-nil m)
next-turned (a ∷ xs) (b ∷ ys) (w ∷ ws) u v m =
    ⊎_elim (λ p. Memᴰ.append_left (arcs_of ys xs ws) (passing-turned w a b u v p)) (λ q. Memᴰ.append_right (passing w b a) (next-turned xs ys ws u v q)) (Memᴰ.append_cases (passing w a b) m)

walk-turned : {A B : List Arc} {u v : ℕ} → ((a b : ℕ) → Next A a b → Next B b a) → Walk A u v → Walk B v u
walk-turned f stay = stay
walk-turned f (step {u = a} {v = b} m p) = walk-trans (walk-turned f p) (walk-arc (f a b m))

reached-back : (xs ys ws : List ℕ) (u v : ℕ) → reached (arcs_of xs ys ws) u v ≡ true → reached (arcs_of ys xs ws) v u ≡ true
reached-back xs ys ws u v e = walk-reached (walk-turned (next-turned xs ys ws) (reached-walk (arcs_of xs ys ws) u v e))

-- a search with the two lists of ends exchanged goes against the arrows
pub reached-turned : (xs ys ws : List ℕ) (u v : ℕ) → reached (arcs_of ys xs ws) u v ≡ reached (arcs_of xs ys ws) v u
reached-turned xs ys ws u v =
    same_test (reached (arcs_of ys xs ws) u v) (reached (arcs_of xs ys ws) v u) (reached-back ys xs ws u v) (reached-back xs ys ws v u)

-- ---- against the arrows

flip-in : (w a b : ℕ) → Within (passing (flip_way w) a b) (passing w b a)
flip-in zero a b y m = m
flip-in (suc zero) a b y m = m
flip-in (suc (suc zero)) a b y m = ⊎_elim (λ e. Memᴰ.tail (Memᴰ.head e)) (λ m'. ⊎_elim (λ e. Memᴰ.head e) (λ n. absurd (Memᴰ.not-nil n)) (Memᴰ.cases_cons m')) (Memᴰ.cases_cons m)
flip-in (suc (suc (suc w))) a b y m = m

flip-out : (w a b : ℕ) → Within (passing w b a) (passing (flip_way w) a b)
flip-out zero a b y m = m
flip-out (suc zero) a b y m = m
flip-out (suc (suc zero)) a b y m = ⊎_elim (λ e. Memᴰ.tail (Memᴰ.head e)) (λ m'. ⊎_elim (λ e. Memᴰ.head e) (λ n. absurd (Memᴰ.not-nil n)) (Memᴰ.cases_cons m')) (Memᴰ.cases_cons m)
flip-out (suc (suc (suc w))) a b y m = m

append-within : {A B A' B' : List Arc} → Within A A' → Within B B' → Within (A ++ B) (A' ++ B')
append-within {A} {B} {A'} {B'} f g y m = ⊎_elim (λ p. Memᴰ.append_left B' (f y p)) (λ q. Memᴰ.append_right A' (g y q)) (Memᴰ.append_cases A m)

flips-in : (xs ys ws : List ℕ) → Within (arcs_of xs ys (map flip_way ws)) (arcs_of ys xs ws)
flips-in [] ys ws y m = absurd (Memᴰ.not-nil m)
flips-in (a ∷ xs) [] ws y m = absurd (Memᴰ.not-nil m)
flips-in (a ∷ xs) (b ∷ ys) [] y m = absurd (Memᴰ.not-nil m)
flips-in (a ∷ xs) (b ∷ ys) (w ∷ ws) y m = append-within (flip-in w a b) (flips-in xs ys ws) y m

flips-out : (xs ys ws : List ℕ) → Within (arcs_of ys xs ws) (arcs_of xs ys (map flip_way ws))
flips-out [] [] ws y m = absurd (Memᴰ.not-nil m)
flips-out [] (b ∷ ys) ws y m = absurd (Memᴰ.not-nil m)
flips-out (a ∷ xs) [] ws y m = absurd (Memᴰ.not-nil m)
flips-out (a ∷ xs) (b ∷ ys) [] y m = absurd (Memᴰ.not-nil m)
flips-out (a ∷ xs) (b ∷ ys) (w ∷ ws) y m = append-within (flip-out w a b) (flips-out xs ys ws) y m

pub reached-flipped : (xs ys ws : List ℕ) (u v : ℕ) → reached (arcs_of xs ys (map flip_way ws)) u v ≡ reached (arcs_of xs ys ws) v u
reached-flipped xs ys ws u v = reached-same (arcs_of xs ys (map flip_way ws)) (arcs_of ys xs ws) u v (flips-in xs ys ws) (flips-out xs ys ws) ∙ reached-turned xs ys ws u v
