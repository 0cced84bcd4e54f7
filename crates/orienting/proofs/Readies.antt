-- What follows from a graph that is ready, and what single searches over it show.
-- Assumes nothing.
use Prim.Native.Nat.{ℕ, zero, suc, ◌≤◌, ◌<◌}
use native.Mathlib.Omega.{arith}
use mathlib.Core.Path.{◌≡◌, refl, sym, ap, subst, ◌∙◌}
use mathlib.Core.Bool.{Bool, true, false, cond, not, true≢false}
use mathlib.Core.List.{List, Memᴰ}
use lib.ListN.{length, get_or, set}
use lib.Seq.{set-set}
use borrow.Author.Tests.{not-false, not-true}
use mathlib.Mathlib.Data.Bool.Basic.{Bool-eq-false}
use Rattle.std.proofs.Common.{Option, None, Some, IfSome, is_some}
use Rattle.network.specs.Networks.{Network, max_basins, is_wet, basins_of}
use Rattle.network.specs.Tables.{state_of}
use Rattle.network.specs.Settings.{is_gated}
use Rattle.network.specs.Orientations.{Arc, reached}
use Rattle.network.specs.Plans.{reaches_all}
use Rattle.lists.proofs.Bools.{clash}
use Rattle.lists.proofs.Searches.{every-at, every-make}
use Rattle.network.proofs.Networks.{basin-in, basin-below, basin-wet}
use Rattle.network.proofs.Walks.{walk-trans, walk-reached, reached-walk}
use Rattle.distances.specs.Distances.{unreached, noted}
use Rattle.half_edges.specs.Ends.{arcs_of}
use Rattle.half_edges.proofs.Halves.{arc-below}
use Rattle.half_edges.specs.declared.Graph.{Graph}
use Rattle.search.specs.Searches.{Searchable, Noted}
use Rattle.search.proofs.Fronts.{noted-reached}
use Rattle.basins.specs.Wet.{any_basin, is_unnoted, Lowest}
use Rattle.orienting.specs.Ready.{Ready, FirstUnreached, ShutInBasin}
use Rattle.orienting.specs.Tries.{left_out, led_round, Tried, oriented, undecided}

-- so few basins that none has a count of 65,535
few-counts : {n : ℕ} → n ≤ max_basins → n < unreached
few-counts l = omega arith

pub searchable : {g : Graph} {ws seen queue : List ℕ} (start : ℕ) → Ready g ws seen queue → start < g.basins → Searchable g ws start seen queue
searchable start r l =
    record { ways-room = omega (arith, r.ways-full); few-basins = few-counts r.few-basins; starts = l; seen-room = r.seen-room; queue-room = r.queue-room }

-- what a search over it notes below 65,535, whatever the ways, is what is reached
pub ready-noted : {g : Graph} {start : ℕ} {ws₀ seen queue : List ℕ} (ws seen' : List ℕ) → Ready g ws₀ seen queue → start < g.basins
    → Noted (arcs_of g.a.now g.b.now ws) g.basins start seen' → (v : ℕ) → v < g.basins → noted seen' v ≡ reached (arcs_of g.a.now g.b.now ws) start v
ready-noted {g} ws seen' r l m = noted-reached seen' (λ u w e. arc-below g.a.now g.b.now ws g.basins u w g.table e) l (omega (arith, few-counts r.few-basins)) m

-- a graph stays ready if its ways change, or what a search notes
pub ready-ways : {g : Graph} {ws seen queue : List ℕ} (ws' : List ℕ) → Ready g ws seen queue → length ws' ≡ length ws → Ready g ws' seen queue
ready-ways ws' r e = record { some-basin = r.some-basin; few-basins = r.few-basins; ways-full = e ∙ r.ways-full; seen-room = r.seen-room; queue-room = r.queue-room }

pub ready-notes : {g : Graph} {ws seen queue : List ℕ} (seen' queue' : List ℕ) → Ready g ws seen queue → length seen' ≡ length seen → length queue' ≡ length queue → Ready g ws seen' queue'
ready-notes seen' queue' r e f =
    record { some-basin = r.some-basin; few-basins = r.few-basins; ways-full = r.ways-full; seen-room = omega (arith, r.seen-room); queue-room = omega (arith, r.queue-room) }

-- a reach that was left out gets its way, or is usable either way again
tried : {xs ys ws' : List ℕ} {r : Bool} (ws : List ℕ) (i way : ℕ) (led : Bool) → led ≡ led_round (left_out xs ys ws i) xs ys i way
    → (ws' ≡ set (set ws i 3) i (cond led way 2)) × (r ≡ led) → Tried xs ys ws i way ws' r
tried ws i way true f k = oriented (sym f) (k.0 ∙ set-set ws i 3 way) k.1
tried ws i way false f k = undecided (sym f) (k.0 ∙ set-set ws i 3 2) k.1

pub tried-drawn : {xs ys ws' : List ℕ} {r : Bool} (ws : List ℕ) (i way : ℕ) (led : Bool) → way ≡ 0 → led ≡ reached (left_out xs ys ws i) (get_or ys i 0) (get_or xs i 0)
    → (ws' ≡ set (set ws i 3) i (cond led way 2)) × (r ≡ led) → Tried xs ys ws i way ws' r
tried-drawn ws i zero led e f k = tried ws i zero led f k
tried-drawn ws i (suc way) led e f k = absurd (omega arith)

pub tried-turned : {xs ys ws' : List ℕ} {r : Bool} (ws : List ℕ) (i way : ℕ) (led : Bool) → (way ≡ 0 → ⊥) → led ≡ reached (left_out xs ys ws i) (get_or xs i 0) (get_or ys i 0)
    → (ws' ≡ set (set ws i 3) i (cond led way 2)) × (r ≡ led) → Tried xs ys ws i way ws' r
tried-turned ws i zero led n f k = absurd (n refl)
tried-turned ws i (suc way) led n f k = tried ws i (suc way) led f k

-- only the ways of the other reaches matter
pub tried_same : (xs ys ws vs : List ℕ) (i : ℕ) {way : ℕ} {ws' : List ℕ} {r : Bool} → ((y : ℕ) → set ws i y ≡ set vs i y) → Tried xs ys ws i way ws' r → Tried xs ys vs i way ws' r
tried_same xs ys ws vs i {way} f (oriented p e q) = oriented (subst (λ (l : List ℕ). led_round (arcs_of xs ys l) xs ys i way ≡ true) (f 3) p) (e ∙ f way) q
tried_same xs ys ws vs i {way} f (undecided p e q) = undecided (subst (λ (l : List ℕ). led_round (arcs_of xs ys l) xs ys i way ≡ false) (f 3) p) (e ∙ f 2) q

-- after a try that failed, the ways but for that of the reach are as they were
pub tried-rest : (xs ys ws : List ℕ) (i : ℕ) {way : ℕ} {ws₁ : List ℕ} {r₁ : Bool} → Tried xs ys ws i way ws₁ r₁ → r₁ ≡ false → (z : ℕ) → set ws₁ i z ≡ set ws i z
tried-rest xs ys ws i (oriented p e q) y z = clash q y
tried-rest xs ys ws i (undecided p e q) y z = ap (λ (w : List ℕ). set w i z) e ∙ set-set ws i 2 z

-- what a try decided
pub tried-led : (xs ys ws : List ℕ) (i : ℕ) {way : ℕ} {ws₁ : List ℕ} {r₁ : Bool} → Tried xs ys ws i way ws₁ r₁ → r₁ ≡ true → (led_round (left_out xs ys ws i) xs ys i way ≡ true) × (ws₁ ≡ set ws i way)
tried-led xs ys ws i (oriented p e q) y = (p, e)
tried-led xs ys ws i (undecided p e q) y = clash y q

pub tried-lost : (xs ys ws : List ℕ) (i : ℕ) {way : ℕ} {ws₁ : List ℕ} {r₁ : Bool} → Tried xs ys ws i way ws₁ r₁ → r₁ ≡ false → (led_round (left_out xs ys ws i) xs ys i way ≡ false) × (ws₁ ≡ set ws i 2)
tried-lost xs ys ws i (oriented p e q) y = clash q y
tried-lost xs ys ws i (undecided p e q) y = (p, e)

-- a reach is a gate exactly if its kind is 0
pub kind-gate : (k : ℕ) → k ≡ 0 → is_gated (state_of k) ≡ true
kind-gate k e = rw e

-- ---- what a search has left of the wet basins

module _ (N : Network) (A : List Arc) where
  -- the lowest wet basin that a search has not noted as reached is the lowest not reached
  pub unreached-first : {start : ℕ} {r : Option ℕ} (seen : List ℕ) → ((v : ℕ) → v < N.basins → noted seen v ≡ reached A start v) → Lowest N (is_unnoted seen) r → FirstUnreached N A start r
  unreached-first {start} {r} seen told f = record { lower = λ v m l. not-false _ (sym (test v (basin-below N v m)) ∙ f.lower v l (basin-wet N v m)); at = at r f.at }
    where
      test : (v : ℕ) → v < N.basins → is_unnoted seen v ≡ not (reached A start v)
      test v l = ap not (told v l)

      at : (r : Option ℕ) → IfSome r (λ v. (v < N.basins) × (is_wet N v ≡ true) × (is_unnoted seen v ≡ true)) → IfSome r (λ v. Memᴰ v (basins_of N) × (reached A start v ≡ false))
      at None f = tt
      at (Some v) f = (basin-in N v f.0 f.1, not-true _ (sym (test v f.0) ∙ f.2))

  -- ---- the lowest wet basin that does not reach all

  -- all are dry
  pub shut-in-none : {r r' : Option ℕ} → Lowest N any_basin r → r ≡ None → r' ≡ None → ShutInBasin N A r'
  shut-in-none {r = Some w} low e f = absurd (cc)
  shut-in-none {r' = Some w} low e f = absurd (cc)
  shut-in-none {r = None} {r' = None} low e f = record { bound = tt; lower = λ u m l. absurd (true≢false (low.lower u l (basin-wet N u m))); at = tt }

  module _ {w : ℕ} (low : Lowest N any_basin (Some w)) where
    -- no wet basin is lower
    none-lower : (u : ℕ) → Memᴰ u (basins_of N) → u < w → ⊥
    none-lower u m l = true≢false (low.lower u l (basin-wet N u m))

    low-in : Memᴰ w (basins_of N)
    low-in = basin-in N w low.at.0 low.at.1

    -- the lowest does not
    pub shut-in-lowest : {r : Option ℕ} → FirstUnreached N A w r → true ≡ is_some r → ShutInBasin N A (Some w)
    shut-in-lowest {r = None} m some = absurd (true≢false some)
    shut-in-lowest {r = Some r} m some =
        record { bound = low.at.0; lower = λ u mu k. absurd (none-lower u mu k); at = (low-in, Bool-eq-false {b = reaches_all (basins_of N) A w} (λ e. clash (every-at (reached A w) e m.at.0) m.at.1)) }

    -- it does, and so does each basin that leads to it
    pub shut-in-back : {B : List Arc} {r r' : Option ℕ} → FirstUnreached N A w r → false ≡ is_some r → ((u v : ℕ) → reached B u v ≡ reached A v u) → FirstUnreached N B w r' → ShutInBasin N A r'
    shut-in-back {r = Some r} m all against k = absurd (true≢false (sym all))
    shut-in-back {B = B} {r = None} {r' = r'} m all against k =
        record {
          bound = below r' k.at;
          lower = λ u mu l.
              every-make (reached A u) (basins_of N)
              (λ v mv. walk-reached (walk-trans (reached-walk A u w (sym (against w u) ∙ k.lower u mu l)) (reached-walk A w v (m.lower v mv (basin-below N v mv)))));
          at = at r' k.at;
        }
      where
        below : (r : Option ℕ) → IfSome r (λ v. Memᴰ v (basins_of N) × (reached B w v ≡ false)) → IfSome r (λ u. u < N.basins)
        below None f = tt
        below (Some u) f = basin-below N u f.0

        at : (r : Option ℕ) → IfSome r (λ v. Memᴰ v (basins_of N) × (reached B w v ≡ false)) → IfSome r (λ u. Memᴰ u (basins_of N) × (reaches_all (basins_of N) A u ≡ false))
        at None f = tt
        at (Some u) f = (f.0, Bool-eq-false {b = reaches_all (basins_of N) A u} (λ e. clash (every-at (reached A u) e low-in) (sym (against w u) ∙ f.1)))
