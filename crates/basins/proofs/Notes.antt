-- The wet basins noted otherwise than x says are noted as reached, and no other, one basin after the other.
-- Assumes nothing.
use Prim.Native.Nat.{ℕ, ◌+◌, ◌≤◌, ◌<◌}
use native.Mathlib.Omega.{arith}
use native.Mathlib.Decide.{ℕ_discrete}
use mathlib.Core.Path.{◌≡◌, refl, sym, ap, subst, ◌∙◌}
use mathlib.Core.Bool.{Bool, true, false, not, ◌&&◌, true≢false, beq}
use mathlib.Mathlib.Data.Bool.Basic.{Bool-eq-false}
use mathlib.Core.List.{List}
use lib.ListN.{length, get_or, set, length-set}
use lib.Seq.{get_or-set_same, get_or-set_other}
use lib.Dec.{ltb}
use Rattle.std.proofs.Common.{Option, None, Some}
use Rattle.std.specs.Option.{unwrap_or}
use Rattle.network.specs.Networks.{Network, is_wet, lowest_basin}
use Rattle.network.proofs.Networks.{lowest-is}
use Rattle.distances.specs.Distances.{unreached, noted}
use Rattle.basins.specs.Wet.{any_basin, Lowest, is_other, side_note, OthersNoted, FarSideNoted}

-- ---- one basin

module _ (N : Network) (x : Bool) (v : ℕ) (s : List ℕ) where
  -- it is noted as x says
  pub other-same : {y : Bool} → y ≡ noted s v → beq y x ≡ true → set s v unreached ≡ set s v (side_note (is_other N x s v))
  other-same e f = ap (λ (b : Bool). set s v (side_note b)) (sym (go (is_wet N v)))
    where
      go : (w : Bool) → w && not (beq (noted s v) x) ≡ false
      go true = ap not (ap (λ (y : Bool). beq y x) (sym e) ∙ f)
      go false = refl

  -- otherwise, and it is dry, or wet
  pub other-dry : false ≡ is_wet N v → set s v unreached ≡ set s v (side_note (is_other N x s v))
  other-dry e = rw (← e)

  pub other-wet : {y : Bool} → y ≡ noted s v → beq y x ≡ false → true ≡ is_wet N v → set s v 0 ≡ set s v (side_note (is_other N x s v))
  other-wet e n w = ap (λ (b : Bool). set s v (side_note b)) (sym (ap (λ (b : Bool). b && not (beq (noted s v) x)) (sym w) ∙ ap (λ (b : Bool). not (beq b x)) (sym e) ∙ ap not n))

-- ---- one after the other

-- the basins below v have their new notes, the others those that they had
pub record Noting (N : Network) (x : Bool) (v : ℕ) (s s' : List ℕ) : Type 0 where
  pub below : (u : ℕ) → u < v → get_or s' u 0 ≡ side_note (is_other N x s u)
  pub above : (u : ℕ) → v ≤ u → get_or s' u 0 ≡ get_or s u 0
  pub long : length s' ≡ length s

module _ (N : Network) (x : Bool) (s : List ℕ) where
  pub noting-none : Noting N x 0 s s
  noting-none = record { below = λ u l. absurd (omega arith); above = λ u l. refl; long = refl }

  pub noting-more : {s'' : List ℕ} (v : ℕ) (s' : List ℕ) → v < length s → Noting N x v s s' → s'' ≡ set s' v (side_note (is_other N x s' v)) → Noting N x (v + 1) s s''
  noting-more v s' l h is =
      rw is (record {
        below = λ u b. at u b (ℕ_discrete u v);
        above = λ u b. get_or-set_other s' v u _ 0 (omega arith) ∙ h.above u (omega arith);
        long = length-set s' v _ ∙ h.long;
      })
    where
      at : (u : ℕ) → u < v + 1 → Dec (u ≡ v) → get_or (set s' v (side_note (is_other N x s' v))) u 0 ≡ side_note (is_other N x s u)
      at u b (yes same) =
          rw (same, get_or-set_same s' v (side_note (is_other N x s' v)) 0 (omega (arith, h.long)))
          (ap (λ (y : ℕ). side_note (is_wet N v && not (beq (ltb y unreached) x))) (h.above v (omega arith)))
      at u b (no other) = get_or-set_other s' v u (side_note (is_other N x s' v)) 0 other ∙ h.below u (omega arith)

  pub noting-all : (v : ℕ) (s' : List ℕ) → N.basins ≤ v → Noting N x v s s' → OthersNoted N x s s'
  noting-all v s' l h = record { notes = λ u b. h.below u (omega arith) }

-- ---- the side without the lowest wet basin; if all are dry, no basin is on it

module _ (N : Network) (s : List ℕ) where
  pub side-noted : {s' : List ℕ} (low : Option ℕ) (x : Bool) → Lowest N any_basin low → x ≡ noted s (unwrap_or low 0) → OthersNoted N x s s' → FarSideNoted N s s'
  side-noted {s'} (Some low) x l e o =
      subst (λ (y : Bool). OthersNoted N y s s') (e ∙ ap (noted s) (sym (lowest-is N low l.at.0 l.at.1 (λ v b. Bool-eq-false {b = is_wet N v} (λ w. true≢false (l.lower v b w)))))) o
  side-noted {s'} None x l e o = record { notes = λ v h. o.notes v h ∙ none v h x ∙ sym (none v h (noted s (lowest_basin N))) }
    where
      none : (v : ℕ) → v < N.basins → (y : Bool) → side_note (is_other N y s v) ≡ unreached
      none v h y = rw (Bool-eq-false {b = is_wet N v} (λ w. true≢false (l.lower v h w)))
