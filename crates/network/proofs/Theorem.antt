-- Boesch and Tindell's theorem as document 01 reads it: a plan exists exactly if the network is passable and has no lone reach.
-- Assumes nothing.
use Prim.Native.Nat.{ℕ, zero, suc, ◌+◌, ◌≤◌, ◌<◌}
use native.Mathlib.Omega.{arith}
use native.Mathlib.Nat.{not-suc-le-zero}
use native.Mathlib.Decide.{ℕ_discrete, dec_lt, dec_le}
use mathlib.Core.Path.{◌≡◌, refl, sym, ap, subst, subst⁻¹, ◌∙◌}
use mathlib.Core.Bool.{true, false}
use mathlib.Core.Logic.{◌⊎◌, inl, inr, ⊎_elim, ◌↔◌}
use mathlib.Core.List.{List}
use lib.ListN.{length, get_or, set, length-set, length-replicate, get_or-eq_default}
use lib.Seq.{get_or-set_same, get_or-set_other, set-get_or}
use lib.Dec.{leb, eqb}
use borrow.Author.Tests.{eqb-true, eq-eqb, leb-true, le-leb}
use mathlib.Mathlib.Data.Bool.Basic.{and_elim_left, and_elim_right, and_intro, Bool-eq-false}
use Rattle.lists.proofs.Lists.{get_or-replicate-all}
use Rattle.network.specs.Networks.{Network, in_service, basins_of, Accepted}
use Rattle.network.specs.Settings.{gates, gate_count, is_setting}
use Rattle.network.specs.Orientations.{Arc, arcs, ways, arcs_under, reached, is_partial_orientation, unoriented}
use Rattle.network.specs.Plans.{strongly_connected, strongly_connected_under, is_plan, passable}
use Rattle.network.specs.Bridges.{reach_at, is_bridge}
use Rattle.lists.proofs.Bools.{decide, clash}
use Rattle.network.proofs.Cuts.{strong-within}
use Rattle.network.proofs.Ways.{Gate, gate-at, length-ways, gated-in-service, shut_out, way-small, Looser, looser-within}
use Rattle.lists.proofs.Searches.{every-get_or, every-from}
use Rattle.network.proofs.Bridges.{bridge-blocks}
use Rattle.network.proofs.Steps.{orient-drawn, orient-turned, stuck-bridge}

-- ---- partial orientations, byte by byte

-- one byte for each gate, each up to 2
pub record PartialOrientation (N : Network) (h : List ℕ) : Type 0 where
  pub size : length h ≡ gate_count N
  pub small : (k : ℕ) → get_or h k 2 ≤ 2

pub orientation-oriented : (N : Network) (h : List ℕ) → is_partial_orientation N h ≡ true → PartialOrientation N h
unfolding is_partial_orientation
orientation-oriented N h e = record { size = eqb-true (length h) (gate_count N) (and_elim_left (eqb (length h) (gate_count N)) _ e); small = λ k. at k (dec_lt k (length h)) }
  where
    at : (k : ℕ) → Dec (k < length h) → get_or h k 2 ≤ 2
    at k (yes l) = leb-true (get_or h k 2) 2 (every-get_or (λ x. leb x 2) h k 2 (and_elim_right (eqb (length h) (gate_count N)) _ e) l)
    at k (no n) = rw (get_or-eq_default h 2 {n = k} (omega arith)) (omega arith)

pub oriented-orientation : (N : Network) (h : List ℕ) → PartialOrientation N h → is_partial_orientation N h ≡ true
unfolding is_partial_orientation
oriented-orientation N h f = and_intro (eq-eqb (length h) (gate_count N) f.size) (every-from (λ x. leb x 2) h 2 (λ i l. le-leb (get_or h i 2) 2 (f.small i)))

-- a partial orientation with a byte for each gate that is 0 or 1 is a setting
pub oriented-setting : (N : Network) (h : List ℕ) → PartialOrientation N h → ((k : ℕ) → k < gate_count N → get_or h k 2 ≤ 1) → is_setting N h ≡ true
unfolding is_setting
oriented-setting N h f small = and_intro (eq-eqb (length h) (gate_count N) f.size) (every-from (λ x. leb x 1) h 2 (λ i l. le-leb (get_or h i 2) 1 (small i (subst (λ (n : ℕ). i < n) f.size l))))

pub setting-byte : (N : Network) (s : List ℕ) → is_setting N s ≡ true → (k : ℕ) → k < gate_count N → get_or s k 2 ≤ 1
unfolding is_setting
setting-byte N s e k l =
    leb-true (get_or s k 2) 1
    (every-get_or (λ x. leb x 1) s k 2 (and_elim_right (eqb (length s) (gate_count N)) _ e) (omega (arith, eqb-true (length s) (gate_count N) (and_elim_left (eqb (length s) (gate_count N)) _ e))))

pub setting-oriented : (N : Network) (s : List ℕ) → is_setting N s ≡ true → PartialOrientation N s
unfolding is_setting
setting-oriented N s e = record { size = size; small = λ k. at k (dec_lt k (gate_count N)) }
  where
    size : length s ≡ gate_count N
    size = eqb-true (length s) (gate_count N) (and_elim_left (eqb (length s) (gate_count N)) _ e)

    at : (k : ℕ) → Dec (k < gate_count N) → get_or s k 2 ≤ 2
    at k (yes l) = omega (arith, setting-byte N s e k l)
    at k (no n) = rw (get_or-eq_default s 2 {n = k} (omega (arith, size))) (omega arith)

pub orient-set : (N : Network) (h : List ℕ) (k x : ℕ) → x ≤ 2 → PartialOrientation N h → PartialOrientation N (set h k x)
orient-set N h k x small f = record { size = length-set h k x ∙ f.size; small = λ j. at j (ℕ_discrete j k) (dec_lt k (length h)) }
  where
    at : (j : ℕ) → Dec (j ≡ k) → Dec (k < length h) → get_or (set h k x) j 2 ≤ 2
    at j (yes e) (yes l) = rw (e, get_or-set_same h k x 2 l) small
    at j (yes e) (no n) = rw (get_or-eq_default (set h k x) 2 {n = j} (omega (arith, length-set h k x, e))) (omega arith)
    at j (no n) d = rw (get_or-set_other h k j x 2 n) (f.small j)

pub unoriented-2 : (N : Network) (k : ℕ) → get_or (unoriented N) k 2 ≡ 2
unoriented-2 N k = get_or-replicate-all (gate_count N) k 2

pub unoriented-oriented : (N : Network) → PartialOrientation N (unoriented N)
unoriented-oriented N = record { size = length-replicate (gate_count N) 2; small = λ k. rw (unoriented-2 N k) (omega arith) }

-- a looser orientation reaches no less
pub looser-strong : (N : Network) (h h' : List ℕ) → Looser h h' → strongly_connected_under N h ≡ true → strongly_connected_under N h' ≡ true
unfolding strongly_connected_under
looser-strong N h h' f e = strong-within (basins_of N) (arcs_under N h) (arcs_under N h') (looser-within N.reaches h h' f) e

pub plan-reaches : (N : Network) (s : List ℕ) → is_plan N s ≡ true → strongly_connected_under N s ≡ true
unfolding is_plan
plan-reaches N s e = and_elim_right (is_setting N s) _ e

-- ---- the step

-- the ways of the reaches under h, with reach i left out
abbrev pub arcs_without : Network → List ℕ → ℕ → List Arc
arcs_without N h i = arcs N.reaches (set (ways N.reaches h) i 3)

-- An undecided gate k of a network in which everything reaches everything under the partial orientation h. Its reach is i.
module _ (N : Network) (ok : Accepted N) (h : List ℕ) (oriented : PartialOrientation N h) (k : ℕ) (l : k < gate_count N) (free : get_or h k 2 ≡ 2) (e : strongly_connected_under N h ≡ true) where
  g : Gate 0 N.reaches h k
  g = gate-at 0 N.reaches h k l

  abbrev ws : List ℕ
  ws = ways N.reaches h

  full : length ws ≡ length N.reaches
  full = length-ways N.reaches h

  serves : in_service (reach_at N g.reach).state ≡ true
  serves = gated-in-service (reach_at N g.reach).state g.gated

  numbered : get_or (gates N) k 0 ≡ g.reach
  numbered = omega (arith, g.numbered)

  both_ways : strongly_connected (basins_of N) (arcs N.reaches (set ws g.reach 2)) ≡ true
  unfolding strongly_connected_under
  both_ways = subst⁻¹ (λ (v : List ℕ). strongly_connected (basins_of N) (arcs N.reaches v) ≡ true) (ap (λ (x : ℕ). set ws g.reach x) (sym (g.byte ∙ free)) ∙ set-get_or ws g.reach 3) e

  oriented-as : (x : ℕ) → strongly_connected_under N (set h k x) ≡ strongly_connected (basins_of N) (arcs N.reaches (set ws g.reach x))
  unfolding strongly_connected_under
  oriented-as x = ap (λ (v : List ℕ). strongly_connected (basins_of N) (arcs N.reaches v)) (g.turn x (omega (arith, oriented.size)))

  -- Hung as drawn, everything still reaches everything exactly if its end B leads to its end A without it; turned, exactly if A leads to B.
  pub as-drawn : strongly_connected_under N (set h k 0) ≡ reached (arcs_without N h (get_or (gates N) k 0)) (reach_at N (get_or (gates N) k 0)).b (reach_at N (get_or (gates N) k 0)).a
  as-drawn = rw numbered (oriented-as 0 ∙ orient-drawn N ok ws g.reach g.below full serves both_ways)

  pub as-turned : strongly_connected_under N (set h k 1) ≡ reached (arcs_without N h (get_or (gates N) k 0)) (reach_at N (get_or (gates N) k 0)).a (reach_at N (get_or (gates N) k 0)).b
  as-turned = rw numbered (oriented-as 1 ∙ orient-turned N ok ws g.reach g.below full serves both_ways)

  stuck : strongly_connected_under N (set h k 0) ≡ false → strongly_connected_under N (set h k 1) ≡ false → is_bridge N (get_or (gates N) k 0) ≡ true
  stuck not-drawn not-turned =
      rw numbered
      (stuck-bridge N ok ws g.reach g.below full serves (shut_out N.reaches h) (λ j jl. way-small' j jl) both_ways
      (sym (orient-drawn N ok ws g.reach g.below full serves both_ways) ∙ sym (oriented-as 0) ∙ not-drawn)
      (sym (orient-turned N ok ws g.reach g.below full serves both_ways) ∙ sym (oriented-as 1) ∙ not-turned)
      g.gated)
    where
      way-small' : (j : ℕ) → j < length N.reaches → in_service (reach_at N j).state ≡ true → get_or ws j 3 ≤ 2
      way-small' j jl = way-small N.reaches h j oriented.size (every-from (λ x. leb x 2) h 2 (λ i il. le-leb (get_or h i 2) 2 (oriented.small i))) jl

  -- It can be hung at least one way without loss, unless it is lone.
  pub one-way-or-bridge : (strongly_connected_under N (set h k 0) ≡ true) ⊎ ((strongly_connected_under N (set h k 1) ≡ true) ⊎ (is_bridge N (get_or (gates N) k 0) ≡ true))
  one-way-or-bridge =
      ⊎_elim
      (λ yes0. inl yes0)
      (λ no0. inr (⊎_elim (λ yes1. inl yes1) (λ no1. inr (stuck no0 no1)) (decide (strongly_connected_under N (set h k 1)))))
      (decide (strongly_connected_under N (set h k 0)))

-- ---- completing a partial orientation

looser-refl : (h : List ℕ) → Looser h h
looser-refl h k = inr refl

-- what completes h with gate k decided completes h
looser-undecided : (s h : List ℕ) (k x : ℕ) → get_or h k 2 ≡ 2 → Looser s (set h k x) → Looser s h
looser-undecided s h k x free f j = go (ℕ_discrete j k)
  where
    go : Dec (j ≡ k) → (get_or h j 2 ≡ 2) ⊎ (get_or h j 2 ≡ get_or s j 2)
    go (yes e) = inl (ap (λ (i : ℕ). get_or h i 2) e ∙ free)
    go (no n) = subst (λ (v : ℕ). (v ≡ 2) ⊎ (v ≡ get_or s j 2)) (get_or-set_other h k j x 2 n) (f j)

-- a plan that has the bytes of h where h decides
pub record Completion (N : Network) (h : List ℕ) : Type 0 where
  pub setting : List ℕ
  pub is-plan : is_plan N setting ≡ true
  pub looser : Looser setting h

module _ (N : Network) (ok : Accepted N) (bridgeless : (i : ℕ) → is_bridge N i ≡ true → ⊥) where
  below_more : (h : List ℕ) (k : ℕ) → ((j : ℕ) → j < k → get_or h j 2 ≤ 1) → get_or h k 2 ≤ 1 → (j : ℕ) → j < suc k → get_or h j 2 ≤ 1
  below_more h k below at j l = go (ℕ_discrete j k)
    where
      go : Dec (j ≡ k) → get_or h j 2 ≤ 1
      go (yes e) = rw e at
      go (no n) = below j (omega arith)

  -- one gate more, by `one-way-or-bridge`
  complete-one : (k : ℕ) (h : List ℕ) → k < gate_count N → PartialOrientation N h → ((j : ℕ) → j < k → get_or h j 2 ≤ 1) → strongly_connected_under N h ≡ true →
      ((h' : List ℕ) → PartialOrientation N h' → ((j : ℕ) → j < suc k → get_or h' j 2 ≤ 1) → strongly_connected_under N h' ≡ true → Completion N h') → Completion N h
  complete-one k h l oriented below str more = go (dec_le (get_or h k 2) 1)
    where
      orient : (x : ℕ) → x ≤ 1 → get_or h k 2 ≡ 2 → strongly_connected_under N (set h k x) ≡ true → Completion N h
      orient x small free str' =
          let kl : k < length h = omega (arith, oriented.size) in
          let c = more (set h k x) (orient-set N h k x (omega arith) oriented) (below_more (set h k x) k (λ j jl. rw (get_or-set_other h k j x 2 (omega arith)) (below j jl)) (rw (get_or-set_same h k x 2 kl) small)) str' in
          record { setting = c.setting; is-plan = c.is-plan; looser = looser-undecided c.setting h k x free c.looser }

      go : Dec (get_or h k 2 ≤ 1) → Completion N h
      go (yes small) = more h oriented (below_more h k below small) str
      go (no free) =
          let two : get_or h k 2 ≡ 2 = omega (arith, oriented.small k) in
          ⊎_elim (orient 0 (omega arith) two) (⊎_elim (orient 1 (omega arith) two) (λ lone. absurd (bridgeless _ lone))) (one-way-or-bridge N ok h oriented k l two str)

  -- the gates below k are decided, and n are left
  complete-from : (n k : ℕ) (h : List ℕ) → k + n ≡ gate_count N → PartialOrientation N h → ((j : ℕ) → j < k → get_or h j 2 ≤ 1) → strongly_connected_under N h ≡ true → Completion N h
  unfolding is_plan
  complete-from zero k h e oriented below str =
      record { setting = h; is-plan = and_intro (oriented-setting N h oriented (λ j l. below j (omega arith))) str; looser = looser-refl h }
  complete-from (suc n) k h e oriented below str =
      complete-one k h (omega arith) oriented below str (λ h' hung' below' str'. complete-from n (suc k) h' (omega arith) hung' below' str')

  pub completion : (h : List ℕ) → PartialOrientation N h → strongly_connected_under N h ≡ true → Completion N h
  completion h oriented str = complete-from (gate_count N) 0 h (omega arith) oriented (λ j l. absurd (not-suc-le-zero l)) str

-- A partial orientation can be completed to a plan exactly if everything reaches everything under it. So a prefix of a setting begins a plan exactly if
-- everything reaches everything with its gates so hung and the others usable either way.
pub completable : (N : Network) → Accepted N → ((i : ℕ) → is_bridge N i ≡ true → ⊥) → (h : List ℕ) → PartialOrientation N h → Completion N h ↔ (strongly_connected_under N h ≡ true)
completable N ok bridgeless h oriented = (λ c. looser-strong N c.setting h c.looser (plan-reaches N c.setting c.is-plan), completion N ok bridgeless h oriented)

-- ---- the theorem

pub plan-passable : (N : Network) (s : List ℕ) → is_plan N s ≡ true → passable N ≡ true
unfolding passable
plan-passable N s e = looser-strong N s (unoriented N) (λ k. inl (unoriented-2 N k)) (plan-reaches N s e)

-- "A plan exists exactly if the network is passable and has no lone reach."
pub theorem : (N : Network) → Accepted N → ((s : List ℕ) × (is_plan N s ≡ true)) ↔ ((passable N ≡ true) × ((i : ℕ) → is_bridge N i ≡ false))
unfolding passable
theorem N ok = (
  λ p. (plan-passable N p.0 p.1, λ i. Bool-eq-false {b = is_bridge N i} (λ e. bridge-blocks N i e p.0 p.1)),
  λ q. let c = completion N ok (λ i e. clash e (q.1 i)) (unoriented N) (unoriented-oriented N) q.0 in (c.setting, c.is-plan),
)
