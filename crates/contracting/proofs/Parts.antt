-- What stays of the first reaches of a table, and the next that stays.
-- Assumes nothing.
use Prim.Native.Nat.{ℕ, suc, ◌+◌, ◌≤◌, ◌<◌}
use native.Mathlib.Nat.{add-zero, add-suc, suc-add}
use native.Mathlib.Numerals.{add-one}
use native.Mathlib.Omega.{arith}
use mathlib.Core.Path.{◌≡◌, refl, ap, ◌∙◌}
use mathlib.Core.Bool.{Bool, true, false, cond}
use mathlib.Core.List.{List, [], ◌∷◌, ◌++◌, append-nil}
use lib.ListN.{length, get_or, take, drop, length-take, length-append}
use lib.Seq.{take_all, take-suc, split_at, get_or-append_seam, length-take-le}
use Rattle.network.specs.declared.Reach.{Reach}
use Rattle.network.specs.Networks.{Network}
use Rattle.network.specs.Bridges.{no_reach, reach_at}
use Rattle.components.specs.Contracted.{stays, contracted_reach, contracted_from, contracted}
use Rattle.components.proofs.Kept.{stayed-few, stays_at}

module _ (N : Network) where
  from-append : (i : ℕ) (t u : List Reach) → contracted_from N i (t ++ u) ≡ contracted_from N i t ++ contracted_from N (i + length t) u
  from-append i [] u = rw add-zero
  from-append i (r ∷ t) u = rw (from-append (suc i) t u, add-suc, suc-add) (one (stays N i r.state r.a r.b) (contracted_from N (suc i) t))
    where
      one : (b : Bool) (xs : List Reach) → let ys = contracted_from N (suc (i + length t)) u in cond b (contracted_reach N r ∷ (xs ++ ys)) (xs ++ ys) ≡ cond b (contracted_reach N r ∷ xs) xs ++ ys
      one true xs = refl
      one false xs = refl

  -- what stays of the first i reaches
  unfoldable pub kept_to : ℕ → List Reach
  kept_to i = contracted_from N 0 (take i N.reaches)

  pub kept-none : kept_to 0 ≡ []
  unfolding kept_to
  kept-none = refl

  pub few-kept : (i : ℕ) → length (kept_to i) ≤ i
  unfolding kept_to
  few-kept i = omega (arith, stayed-few N 0 (take i N.reaches), length-take i N.reaches)

  pub kept-all : (i : ℕ) → length N.reaches ≤ i → kept_to i ≡ (contracted N).reaches
  unfolding kept_to contracted
  kept-all i l = ap (contracted_from N 0) (take_all i N.reaches l)

  -- whether reach i stays
  abbrev pub staying : ℕ → Bool
  staying i = stays_at N i (reach_at N i)

  module _ (i : ℕ) (l : i < length N.reaches) where
    place : 0 + length (take i N.reaches) ≡ i
    place = omega (arith, length-take-le i N.reaches (omega arith))

    next : kept_to (i + 1) ≡ kept_to i ++ cond (staying i) (contracted_reach N (reach_at N i) ∷ []) []
    unfolding kept_to
    next =
        rw (add-one, take-suc N.reaches i no_reach l)
        (from-append 0 (take i N.reaches) (reach_at N i ∷ []) ∙ rw place)

    pub kept-drops : staying i ≡ false → length (kept_to (i + 1)) ≡ length (kept_to i)
    kept-drops e =
        let same : kept_to (i + 1) ≡ kept_to i = next ∙ rw (e, append-nil) in
        ap length same

    module _ (e : staying i ≡ true) where
      pub kept-stays : length (kept_to (i + 1)) ≡ length (kept_to i) + 1
      kept-stays =
          let more : kept_to (i + 1) ≡ kept_to i ++ contracted_reach N (reach_at N i) ∷ [] = next ∙ rw e in
          ap length more ∙ length-append (kept_to i) (contracted_reach N (reach_at N i) ∷ [])

      -- it stands in the contracted network after what stays of those before it
      split : (contracted N).reaches ≡ kept_to i ++ contracted_reach N (reach_at N i) ∷ contracted_from N (suc i) (drop (suc i) N.reaches)
      unfolding kept_to contracted
      split =
          ap (contracted_from N 0) (split_at N.reaches i no_reach l)
          ∙ from-append 0 (take i N.reaches) (reach_at N i ∷ drop (suc i) N.reaches)
          ∙ rw (place, e)

      pub staying-below : length (kept_to i) < length (contracted N).reaches
      staying-below = omega (arith, ap length split, length-append (kept_to i) (contracted_reach N (reach_at N i) ∷ contracted_from N (suc i) (drop (suc i) N.reaches)))

      pub staying-at : get_or (contracted N).reaches (length (kept_to i)) no_reach ≡ contracted_reach N (reach_at N i)
      staying-at = ap (λ (t : List Reach). get_or t (length (kept_to i)) no_reach) split ∙ get_or-append_seam (kept_to i) (contracted_reach N (reach_at N i)) _ no_reach
