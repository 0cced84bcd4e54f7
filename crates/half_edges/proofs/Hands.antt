-- A basin's half-edges taken in hand one after the other, from the last to the first.
-- Assumes nothing.
use Prim.Native.Nat.{ℕ, ◌+◌, ◌%◌, ◌≤◌, ◌<◌}
use mathlib.Core.Path.{◌≡◌, subst⁻¹}
use mathlib.Core.List.{List}
use native.Mathlib.Omega.{arith}
use native.Mathlib.Decide.{ℕ_discrete, dec_lt}
use Rattle.half_edges.specs.Ends.{end_of}
use Rattle.half_edges.specs.Chains.{no_half, Last, nothing, last}

-- the half-edge in hand is one that stands at u, and no other does between it and x
pub record Current (xs ys : List ℕ) (x u h : ℕ) : Type 0 where
  pub below : h < x
  pub stands : end_of xs ys h ≡ u
  pub gap : (k : ℕ) → h < k → k < x → end_of xs ys k ≡ u → ⊥

pub current : {xs ys : List ℕ} {x u h : ℕ} → (h ≡ no_half → ⊥) → Last xs ys x u h → Current xs ys x u h
current n (nothing e f) = absurd (n e)
current n (last b s f) = record { below = b; stands = s; gap = f }

-- what holds of it, and of those from x on, holds of all from it on
pub from-hand : {xs ys : List ℕ} {x u h : ℕ} → Current xs ys x u h → (P : ℕ → Type 0) → P h → ((k : ℕ) → x ≤ k → end_of xs ys k ≡ u → P k) → (k : ℕ) → h ≤ k → end_of xs ys k ≡ u → P k
from-hand {xs} {ys} {x} {u} {h} c P now later k l s = go (ℕ_discrete k h) (dec_lt k x)
  where
    go : Dec (k ≡ h) → Dec (k < x) → P k
    go (yes e) d = subst⁻¹ P e now
    go (no n) (yes d) = absurd (c.gap k (omega arith) d s)
    go (no n) (no d) = later k (omega arith) s

-- the one before it has a lower number, or there is none
pub falls : {xs ys : List ℕ} {x v h : ℕ} → h < no_half → x ≤ h → (c : ℕ) → Last xs ys x v c → (c + 1) % 65536 < (h + 1) % 65536
falls b l c (nothing e f) = omega arith
falls b l c (last d e f) = omega arith
