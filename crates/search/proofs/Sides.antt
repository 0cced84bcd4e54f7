-- The ways against the arrows, at one half-edge.
-- Assumes nothing.
use Prim.Native.Nat.{ℕ, zero, suc, ◌-◌, ◌/◌, ◌%◌, ◌<◌}
use mathlib.Core.Path.{◌≡◌, refl}
use mathlib.Core.Bool.{Bool, true, false, ◌||◌}
use mathlib.Core.List.{List, [], ◌∷◌, map}
use native.Mathlib.Omega.{arith}
use borrow.Author.Tests.{ne_eqb}
use lib.ListN.{length, get_or, length-map}
use lib.Dec.{eqb}
use Rattle.half_edges.specs.Ends.{flip_way, sided, leaves}

pub length-sided : (s : Bool) (ws : List ℕ) → length (sided s ws) ≡ length ws
length-sided false ws = refl
length-sided true ws = length-map ws flip_way

flip-at : (ws : List ℕ) (i : ℕ) → i < length ws → get_or (map flip_way ws) i 0 ≡ flip_way (get_or ws i 0)
flip-at [] i l = absurd (omega arith)
flip-at (w ∷ ws) zero l = refl
flip-at (w ∷ ws) (suc i) l = flip-at ws i (omega arith)

-- a way against the arrows leaves at the one side where the way itself leaves at the other
up-test : (w s : ℕ) → s < 2 → (eqb (flip_way w) 2 || eqb (flip_way w) s) ≡ (eqb w 2 || eqb w (1 - s))
up-test zero zero l = refl
up-test zero (suc zero) l = refl
up-test zero (suc (suc s)) l = absurd (omega arith)
up-test (suc zero) zero l = refl
up-test (suc zero) (suc zero) l = refl
up-test (suc zero) (suc (suc s)) l = absurd (omega arith)
up-test (suc (suc w)) s l = rw (ne_eqb (suc (suc w)) s (λ e. omega arith), ne_eqb (suc (suc w)) (1 - s) (λ e. omega arith))

pub leaves-up : (ws : List ℕ) (h : ℕ) → h / 2 < length ws → leaves (map flip_way ws) h ≡ (eqb (get_or ws (h / 2) 0) 2 || eqb (get_or ws (h / 2) 0) (1 - h % 2))
leaves-up ws h l = rw (flip-at ws (h / 2) l) (up-test (get_or ws (h / 2) 0) (h % 2) (omega arith))
