-- The half-edges of a basin looked at one after the other, for the one in service beside h.
-- Assumes nothing.
use Prim.Native.Nat.{ℕ, ◌/◌, ◌%◌, ◌≤◌, ◌<◌}
use native.Mathlib.Omega.{arith}
use native.Mathlib.Decide.{dec_lt}
use mathlib.Core.Path.{◌≡◌, refl, sym, ◌∙◌}
use mathlib.Core.Logic.{◌⊎◌, inl, inr, ⊎_elim, ◌≢◌}
use mathlib.Core.List.{List}
use lib.ListN.{get_or}
use Rattle.half_edges.specs.Ends.{halves, end_of}
use Rattle.half_edges.specs.Chains.{no_half, Last, nothing, last}
use Rattle.half_edges.proofs.Hands.{Current, current, from-hand}
use Rattle.basins.specs.Wet.{Tabled}
use Rattle.series_channels.specs.Channels.{Partner, nobody, partner}

-- What was found stands at v beside h, and is in service.
pub record Beside (ks xs ys : List ℕ) (v h found : ℕ) : Type 0 where
  pub below : found < halves xs
  pub stands : end_of xs ys found ≡ v
  pub other : found ≢ h
  pub serves : get_or ks (found / 2) 0 ≤ 2

-- All half-edges in service at v from x on are h or what was found, if anything was, and o is the last one below x.
pub record Looked (ks xs ys : List ℕ) (v h o found : ℕ) : Type 0 where
  pub x : ℕ
  pub within : x ≤ halves xs
  pub chain : Last xs ys x v o
  pub done : (k : ℕ) → x ≤ k → k < halves xs → end_of xs ys k ≡ v → get_or ks (k / 2) 0 ≤ 2 → (k ≡ h) ⊎ (k ≡ found)
  pub held : found < no_half → Beside ks xs ys v h found

module _ {n : ℕ} {ks xs ys head next : List ℕ} (t : Tabled n ks xs ys head next) where
  pub looked-start : (v h : ℕ) → v < n → Looked ks xs ys v h (get_or head v 0) no_half
  looked-start v h l = record { x = halves xs; within = omega arith; chain = t.index.heads v l; done = λ k a b s z. absurd (omega arith); held = λ f. absurd (omega arith) }

  module _ {v h o found : ℕ} (u : Looked ks xs ys v h o found) where
    -- the half-edge in hand
    looked-at : o < no_half → Current xs ys u.x v o
    looked-at few = current (λ e. absurd (omega (arith, e))) u.chain

    pub looked-below : o < no_half → o < halves xs
    looked-below few = omega (arith, (looked-at few).below, u.within)

    module _ (few : o < no_half) where
      c : Current xs ys u.x v o
      c = looked-at few

      rest : Last xs ys o v (get_or next o 0)
      rest = rw c.stands at (t.index.nexts o (looked-below few))

      -- what holds of the one in hand and of those before holds of all so far
      so_far : {found' : ℕ} → (get_or ks (o / 2) 0 ≤ 2 → (o ≡ h) ⊎ (o ≡ found')) → ((k : ℕ) → k < halves xs → (k ≡ h) ⊎ (k ≡ found) → (k ≡ h) ⊎ (k ≡ found'))
          → (k : ℕ) → o ≤ k → k < halves xs → end_of xs ys k ≡ v → get_or ks (k / 2) 0 ≤ 2 → (k ≡ h) ⊎ (k ≡ found')
      so_far {found'} this before k a b s z =
          from-hand c (λ i. i < halves xs → get_or ks (i / 2) 0 ≤ 2 → (i ≡ h) ⊎ (i ≡ found')) (λ _ y. this y) (λ i d e y q. before i y (u.done i d y e q)) k a s b z

      -- it is h, or shut
      pub looked-on : (get_or ks (o / 2) 0 ≤ 2 → o ≡ h) → Looked ks xs ys v h (get_or next o 0) found
      looked-on this = record { x = o; within = omega (arith, looked-below few); chain = rest; done = so_far (λ z. inl (this z)) (λ k b y. y); held = u.held }

      -- or it is found, the first
      pub looked-found : o ≢ h → get_or ks (o / 2) 0 ≤ 2 → no_half ≤ found → Looked ks xs ys v h (get_or next o 0) o
      looked-found other serves free =
          record {
            x = o;
            within = omega (arith, looked-below few);
            chain = rest;
            done = so_far (λ z. inr refl) (λ k b. ⊎_elim (λ y. inl y) (λ y. absurd (omega (arith, y, free, b, t.table.few))));
            held = λ f. record { below = looked-below few; stands = c.stands; other = other; serves = serves };
          }

    -- none is left: what was found is the partner, if it is of another reach
    pub looked-all : v ≡ end_of xs ys h → no_half ≤ o → found / 2 ≢ h / 2 → Partner ks xs ys h found
    looked-all is end apart = go (dec_lt found no_half)
      where
        all : (k : ℕ) → k < halves xs → end_of xs ys k ≡ v → get_or ks (k / 2) 0 ≤ 2 → (k ≡ h) ⊎ (k ≡ found)
        all k b s z = at (dec_lt k u.x) u.chain
          where
            at : Dec (k < u.x) → Last xs ys u.x v o → (k ≡ h) ⊎ (k ≡ found)
            at (no d) l = u.done k (omega arith) b s z
            at (yes d) (nothing e f) = absurd (f k d s)
            at (yes d) (last l s' f) = absurd (omega (arith, l, u.within, t.table.few))

        go : Dec (found < no_half) → Partner ks xs ys h found
        go (yes f) = let y = u.held f in partner y.below (y.stands ∙ is) apart y.serves (λ k b s z. all k b (s ∙ sym is) z)
        go (no f) = nobody {r = found} (omega arith)

-- the end of an even and of an odd half-edge
pub half-even : (xs ys : List ℕ) (h : ℕ) → h % 2 ≡ 0 → get_or xs (h / 2) 0 ≡ end_of xs ys h
half-even xs ys h e = rw e

pub half-odd : (xs ys : List ℕ) (h : ℕ) → (h % 2 ≡ 0 → ⊥) → get_or ys (h / 2) 0 ≡ end_of xs ys h
half-odd xs ys h n = let e : h % 2 ≡ 1 = omega (arith, n) in rw e

pub partner-below : (ks xs ys : List ℕ) (h r : ℕ) → Partner ks xs ys h r → r < no_half → r < halves xs
partner-below ks xs ys h r (nobody z) l = absurd (omega arith)
partner-below ks xs ys h r (partner rl a b c d) l = rl
