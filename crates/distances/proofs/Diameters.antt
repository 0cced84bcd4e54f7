-- The longest of the fewest counts: 65,535 exactly if the setting is no plan; and what holds of it under a plan.
-- Assumes nothing.
use Prim.Native.Nat.{ℕ, ◌≤◌, ◌<◌}
use native.Mathlib.Omega.{arith}
use native.Mathlib.Decide.{dec_lt}
use mathlib.Core.Path.{◌≡◌, refl, sym, ap, ap₂, ◌∙◌}
use mathlib.Core.Bool.{true, false}
use mathlib.Core.Logic.{⊎_elim}
use mathlib.Core.List.{List, [], ◌∷◌, Memᴰ}
use lib.ListN.{length}
use lib.Dec.{ltb}
use borrow.Author.Tests.{lt-ltb, le-ltb}
use mathlib.Mathlib.Data.Bool.Basic.{and_elim_right}
use Rattle.lists.proofs.Bools.{decide}
use Rattle.lists.proofs.Searches.{every-at, every-fails}
use Rattle.network.specs.Networks.{Network, basins_of, Accepted}
use Rattle.network.specs.Settings.{is_setting}
use Rattle.network.specs.Orientations.{Arc, arc, ways, arcs_under, reached}
use Rattle.network.specs.Plans.{reaches_all, strongly_connected_under, is_plan}
use Rattle.network.specs.Services.{service_net}
use Rattle.network.specs.Enlarged.{enlarged}
use Rattle.network.proofs.Services.{service-basins, service-arcs}
use Rattle.network.proofs.Enlarged.{enlarged-basins}
use Rattle.network.proofs.Ways.{shut_out}
use Rattle.network.proofs.Networks.{accepted, arcs-in-basins, basins-few, two-basins}
use Rattle.distances.specs.Distances.{unreached, WalkOf, none-crossed, crossing, fewest}
use Rattle.distances.specs.Diameters.{greatest, farthest, diameter, PairAt, DiameterShown}
use Rattle.distances.proofs.Distances.{fewest-most, fewest-walk, fewest-below, fewest-unreached}

-- ---- the greatest

module _ (f : ℕ → ℕ) where
  pub greatest-at : {x : ℕ} (l : List ℕ) → Memᴰ x l → f x ≤ greatest f l
  greatest-at [] m = elim m [ ]
  greatest-at (y ∷ l) (Memᴰ.head e) = rw e (omega arith)
  greatest-at (y ∷ l) (Memᴰ.tail m) = omega (arith, greatest-at l m)

  pub greatest-le : (l : List ℕ) (k : ℕ) → ((x : ℕ) → Memᴰ x l → f x ≤ k) → greatest f l ≤ k
  greatest-le [] k h = omega arith
  greatest-le (x ∷ l) k h = omega (arith, h x (Memᴰ.head refl), greatest-le l k (λ y m. h y (Memᴰ.tail m)))

  greatest-some : (l : List ℕ) → 0 < length l → (x : ℕ) × Memᴰ x l × (f x ≡ greatest f l)
  greatest-some [] h = absurd (omega arith)
  greatest-some (x ∷ []) h = (x, Memᴰ.head refl, omega arith)
  greatest-some (x ∷ y ∷ l) h = go (dec_lt (f x) (greatest f (y ∷ l))) (greatest-some (y ∷ l) (omega arith))
    where
      go : Dec (f x < greatest f (y ∷ l)) → (z : ℕ) × Memᴰ z (y ∷ l) × (f z ≡ greatest f (y ∷ l)) → (z : ℕ) × Memᴰ z (x ∷ y ∷ l) × (f z ≡ greatest f (x ∷ y ∷ l))
      go (yes d) r = (r.0, Memᴰ.tail r.1, omega (arith, r.2))
      go (no d) r = (x, Memᴰ.head refl, omega arith)

pub greatest-same : (f g : ℕ → ℕ) (l : List ℕ) → ((x : ℕ) → Memᴰ x l → f x ≡ g x) → greatest f l ≡ greatest g l
greatest-same f g [] h = refl
greatest-same f g (x ∷ l) h = omega (arith, h x (Memᴰ.head refl), greatest-same f g l (λ y m. h y (Memᴰ.tail m)))

-- from a basin it is never more than 65,535
pub farthest-most : (bs : List ℕ) (A : List Arc) (u : ℕ) → farthest bs A u ≤ unreached
farthest-most bs A u = greatest-le (fewest A u) bs unreached (λ v m. fewest-most A u v)

-- ---- the longest

module _ (N : Network) (s : List ℕ) where
  abbrev A : List Arc
  A = arcs_under N s

  abbrev wet : List ℕ
  wet = basins_of N

  -- no pair has more
  pair-most : (u v : ℕ) → Memᴰ u wet → Memᴰ v wet → fewest A u v ≤ diameter N s
  unfolding diameter
  pair-most u v mu mv = omega (arith, greatest-at (fewest A u) wet mv, greatest-at (farthest wet A) wet mu)

  -- some pair has it
  pair-some : 0 < length wet → PairAt N s (diameter N s)
  unfolding diameter
  pair-some h =
      let u = greatest-some (farthest wet A) wet h in
      let v = greatest-some (fewest A u.0) wet h in
      record { from = u.0; to = v.0; from-wet = u.1; to-wet = v.1; apart = v.2 ∙ u.2 }

  -- never more than 65,535
  diameter-most : diameter N s ≤ unreached
  unfolding diameter
  diameter-most = greatest-le (farthest wet A) wet unreached (λ u m. farthest-most wet A u)

  -- no wet basin: 0
  diameter-none : length wet ≡ 0 → diameter N s ≡ 0
  unfolding diameter
  diameter-none e = go wet e
    where
      go : (l : List ℕ) → length l ≡ 0 → greatest (farthest wet A) l ≡ 0
      go [] e = refl
      go (x ∷ l) e = absurd (omega arith)

  -- a pair that is not reached
  diameter-open : strongly_connected_under N s ≡ false → diameter N s ≡ unreached
  unfolding strongly_connected_under
  diameter-open n =
      let u = every-fails (reaches_all wet A) wet n in
      let v = every-fails (reached A u.0) wet u.2 in
      omega (arith, diameter-most, pair-most u.0 v.0 u.1 v.1, fewest-unreached A u.0 v.0 v.2)

  module _ (ok : Accepted N) where
    -- water leads to wet basins only
    leads : (a b : ℕ) → Memᴰ (arc a b) A → Memᴰ b wet
    leads a b m = (arcs-in-basins N ok (ways N.reaches s) (shut_out N.reaches s) a b m).1

    pair-below : strongly_connected_under N s ≡ true → (u v : ℕ) → Memᴰ u wet → Memᴰ v wet → fewest A u v < length wet
    unfolding strongly_connected_under
    pair-below e u v mu mv = fewest-below A wet leads u v mu (every-at (reached A u) (every-at (reaches_all wet A) e mu) mv)

    -- "where there is any, always below the number of wet basins"
    diameter-below : strongly_connected_under N s ≡ true → 0 < length wet → diameter N s < length wet
    diameter-below e h = let p = pair-some h in omega (arith, p.apart, pair-below e p.from p.to p.from-wet p.to-wet)

    -- 65,535 exactly if it is no plan
    pub diameter-exactly : ltb (diameter N s) unreached ≡ strongly_connected_under N s
    diameter-exactly = ⊎_elim (λ e. lt-ltb (diameter N s) unreached (below e (dec_lt 0 (length wet))) ∙ sym e) (λ n. le-ltb (diameter N s) unreached (omega (arith, diameter-open n)) ∙ sym n) (decide (strongly_connected_under N s))
      where
        below : strongly_connected_under N s ≡ true → Dec (0 < length wet) → diameter N s < unreached
        below e (yes h) = omega (arith, diameter-below e h, basins-few N, (accepted N ok).few-basins)
        below e (no h) = omega (arith, diameter-none (omega arith))

    -- what holds of it under a plan
    pub diameter-shown : is_plan N s ≡ true → DiameterShown N s (diameter N s)
    unfolding is_plan
    diameter-shown p =
        record {
          no_more = pair-most;
          some_pair = pair-some;
          below-wet = diameter-below e;
          zero-if-few = λ h. zero (dec_lt 0 (length wet)) h;
          few-if-zero = λ z. few z (dec_lt (length wet) 2);
        }
      where
        e : strongly_connected_under N s ≡ true
        e = and_elim_right (is_setting N s) _ p

        zero : Dec (0 < length wet) → length wet < 2 → diameter N s ≡ 0
        zero (yes h) l = omega (arith, diameter-below e h)
        zero (no h) l = diameter-none (omega arith)

        -- two basins are no walk of no arc apart
        alike : {k u v : ℕ} → WalkOf A k u v → k ≡ 0 → u ≡ v
        alike none-crossed z = refl
        alike (crossing m w) z = absurd (omega arith)

        few : diameter N s ≡ 0 → Dec (length wet < 2) → length wet < 2
        few z (yes h) = h
        few z (no h) =
            let t = two-basins N (omega arith) in
            let m = pair-most t.first t.second t.first-in t.second-in in
            absurd (t.differ (alike (fewest-walk A t.first t.second (omega (arith, m))) (omega (arith, m))))

-- ---- of the reaches in service, and of the wet basins

-- the counts are those of the reaches in service (item 1 of document 02)
pub service-diameter : (N : Network) (s : List ℕ) → diameter (service_net N) s ≡ diameter N s
unfolding diameter
service-diameter N s = ap₂ (λ (bs : List ℕ) (B : List Arc). greatest (farthest bs B) bs) (service-basins N) (service-arcs N s)

-- more basins at the end, which no reach has an end at, change none (item 3)
pub enlarged-diameter : (N : Network) → Accepted N → (m : ℕ) → N.basins ≤ m → (s : List ℕ) → diameter (enlarged N m) s ≡ diameter N s
unfolding diameter
enlarged-diameter N ok m l s = ap (λ (bs : List ℕ). greatest (farthest bs (arcs_under N s)) bs) (enlarged-basins N ok m l)
