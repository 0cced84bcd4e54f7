-- Settings, their order, and all of them in order.
-- Assumes nothing.
use Rattle.std.specs.Prelude.{ℕ, zero, suc, Bool, true, false, cond, ◌&&◌, ◌||◌, List, [], ◌∷◌, ◌++◌, map, length, leb, ltb, eqb}
use Rattle.std.proofs.Math.Option.{Option, none, some}
use Rattle.network.specs.declared.Kind.TheVariants.{Gated, Flap, TwoWay}
use Rattle.network.specs.declared.State.{State}
use Rattle.network.specs.declared.State.TheVariants.{InService, Shut}
use Rattle.network.specs.declared.Reach.{Reach}
use Rattle.network.specs.declared.Refusal.{Refusal}
use Rattle.network.specs.declared.Refusal.TheVariants.{BadSetting}
use Rattle.lists.specs.Lists.{every}
use Rattle.network.specs.Networks.{Network}

-- The reach is a gated reach: it has a byte in a setting. Item 1: a shut reach "has no byte in a setting".
abbrev pub is_gated : State → Bool
is_gated (InService Gated) = true
is_gated (InService Flap) = false
is_gated (InService TwoWay) = false
is_gated (Shut k) = false

-- The numbers of the gated reaches of a table whose first reach has number i, in reach order.
abbrev pub gates_from : ℕ → List Reach → List ℕ
gates_from i [] = []
gates_from i (r ∷ t) = cond (is_gated r.state) (i ∷ gates_from (suc i) t) (gates_from (suc i) t)

abbrev pub gates : Network → List ℕ
gates N = gates_from 0 N.reaches

abbrev pub gate_count : Network → ℕ
gate_count N = length (gates N)

-- "A setting has one byte for each gated reach, in reach order: 0 as drawn, 1 turned."
unfoldable pub is_setting : Network → List ℕ → Bool
is_setting N s = eqb (length s) (gate_count N) && every (λ x. leb x 1) s

-- Refusal 8 over a table, misfit setting: "wrong length, a byte over 1".
unfoldable pub setting_fault : Network → List ℕ → Option Refusal
setting_fault N s = cond (is_setting N s) none (some BadSetting)

-- "Settings are ordered by the first byte that differs, 0 before 1": s is before t.
abbrev pub before : List ℕ → List ℕ → Bool
before [] t = false
before (x ∷ s) [] = false
before (x ∷ s) (y ∷ t) = ltb x y || eqb x y && before s t

-- All settings of g gates, in order.
abbrev pub settings : ℕ → List (List ℕ)
settings zero = [] ∷ []
settings (suc g) = map (λ s. 0 ∷ s) (settings g) ++ map (λ s. 1 ∷ s) (settings g)
