-- One gate: what the tries of its two ways show.
-- Assumes nothing.
use Prim.Native.Nat.{ℕ, ◌<◌}
use mathlib.Core.Path.{◌≡◌, refl, ap, subst, ◌∙◌}
use mathlib.Core.Bool.{Bool, true, false}
use mathlib.Core.List.{List}
use lib.ListN.{get_or, set}
use lib.Seq.{set-set}
use Rattle.network.specs.Tables.{state_of}
use Rattle.network.specs.Settings.{is_gated}
use Rattle.network.specs.Orientations.{reached}
use Rattle.distances.specs.Distances.{noted}
use Rattle.half_edges.specs.Ends.{arcs_of}
use Rattle.orienting.specs.Tries.{Tried}
use Rattle.orienting.proofs.Readies.{tried_same, tried-rest, tried-led, tried-lost}
use Rattle.deciding.specs.Gates.{OrientedGate, drawn, turned, neither, Settled, as-drawn, as-turned}

module _ (ks : List ℕ) {xs ys : List ℕ} (ws : List ℕ) (i : ℕ) (g : is_gated (state_of (get_or ks i 0)) ≡ true) {ws₁ : List ℕ} {r₁ : Bool} (t : Tried xs ys ws i 0 ws₁ r₁) where
  -- the first try succeeded
  pub gate-drawn : {n : ℕ} {seen : List ℕ} → r₁ ≡ true → OrientedGate n ks xs ys ws i ws₁ seen true
  gate-drawn y = let d = tried-led xs ys ws i t y in drawn g d.0 d.1 refl

  -- and where the gate is settled
  pub settled-drawn : r₁ ≡ true → Settled ks xs ys ws i ws₁
  settled-drawn y = let d = tried-led xs ys ws i t y in as-drawn g d.0 d.1

  pub settled-turned : r₁ ≡ false → Settled ks xs ys ws i (set ws₁ i 1)
  settled-turned y = as-turned g (tried-lost xs ys ws i t y).0 (tried-rest xs ys ws i t y 1)

  -- it did not, and the second did
  pub gate-turned : {n : ℕ} {ws₂ seen : List ℕ} {r₂ : Bool} → r₁ ≡ false → Tried xs ys ws₁ i 1 ws₂ r₂ → r₂ ≡ true → OrientedGate n ks xs ys ws i ws₂ seen true
  gate-turned y u z =
      let d = tried-led xs ys ws i (tried_same xs ys ws₁ ws i (tried-rest xs ys ws i t y) u) z in
      turned g (tried-lost xs ys ws i t y).0 d.0 d.1 refl

  -- neither did, and a whole search without the reach notes what its end A leads to
  pub gate-neither : {n : ℕ} {ws₂ ws' seen : List ℕ} {r₂ : Bool} → r₁ ≡ false → Tried xs ys ws₁ i 1 ws₂ r₂ → r₂ ≡ false
      → ((v : ℕ) → v < n → noted seen v ≡ reached (arcs_of xs ys (set ws₂ i 3)) (get_or xs i 0) v) → OrientedGate n ks xs ys ws i ws' seen false
  gate-neither {n} {seen = seen} y u z s =
      let d = tried-lost xs ys ws i (tried_same xs ys ws₁ ws i (tried-rest xs ys ws i t y) u) z in
      neither g (tried-lost xs ys ws i t y).0 d.0 refl
      (subst (λ (l : List ℕ). (v : ℕ) → v < n → noted seen v ≡ reached (arcs_of xs ys l) (get_or xs i 0) v) (ap (λ (v : List ℕ). set v i 3) d.1 ∙ set-set ws i 2 3) s)
