-- What an accepted network has: its counts and the ends of its reaches, and so of its arcs.
-- Assumes nothing.
use Prim.Native.Nat.{ℕ, zero, suc, ◌≤◌, ◌<◌}
use native.Mathlib.Omega.{arith}
use mathlib.Core.Path.{◌≡◌, refl, sym, ap, subst, ◌∙◌}
use mathlib.Core.Bool.{Bool, true, false, not, cond, ◌&&◌}
use mathlib.Core.Logic.{◌⊎◌, inl, inr, ⊎_elim}
use mathlib.Core.Option.{Option, none, some, some-ne-none}
use mathlib.Core.List.Memᴰ
use mathlib.Core.List.{List, [], ◌∷◌, Memᴰ}
use lib.ListN.{length, get_or, take}
use lib.Dec.{leb, ltb, eqb}
use borrow.Author.Tests.{leb-true, ltb-true, eqb-true, eq-eqb}
use mathlib.Mathlib.Data.Bool.Basic.{and_elim_left, and_elim_right, and_intro, or_inl, or_inr}
use Rattle.lists.proofs.Bools.{or_cases}
use Rattle.lists.proofs.Lists.{length-cond-le}
use Rattle.lists.proofs.Searches.{every-get_or, some-get_or, some_at, find-lowest, keep-in, keep-has, keep_same, keep-keep, find-keep, keep-first, length-keep, kept_from}
use Rattle.network.specs.declared.Kind.TheVariants.{TwoWay}
use Rattle.network.specs.declared.State.TheVariants.{Shut}
use Rattle.network.specs.declared.Reach.{Reach}
use Rattle.network.specs.declared.Refusal.{Refusal}
use Rattle.network.specs.declared.Refusal.TheVariants.{BasinCount, TooManyReaches, EndOutOfRange}
use Rattle.network.specs.Networks.{Network, in_service, ends_at, is_wet, max_basins, max_reaches, basins_of, lowest_basin, good_count, good_length, good_ends, table_fault, Accepted}
use Rattle.network.specs.Tables.{state_of}
use Rattle.network.specs.Settings.{is_gated, gates_from, gate_count}
use Rattle.network.specs.Orientations.{arc, passing, arcs, Walk, stay, step}
use Rattle.network.specs.Bridges.{no_reach, reach_at}
use Rattle.lists.specs.Lists.{range, find, keep}
use Rattle.lists.proofs.Ranges.{length-range, range-has, range-in, range_at}
use Rattle.network.proofs.Ways.{arcs-in, ShutOut, arc-in-service}
use Rattle.network.proofs.Walks.{arc-from, arc-to}

-- an end is below the basin count
abbrev pub ends_below : ℕ → Reach → Bool
ends_below n r = ltb r.a n && ltb r.b n

pub record Facts (N : Network) : Type 0 where
  pub some-basin : 1 ≤ N.basins
  pub few-basins : N.basins ≤ max_basins
  pub few-reaches : length N.reaches ≤ max_reaches
  pub end-a : (i : ℕ) → i < length N.reaches → (reach_at N i).a < N.basins
  pub end-b : (i : ℕ) → i < length N.reaches → (reach_at N i).b < N.basins

passed : (b : Bool) (r : Refusal) (rest : Option Refusal) → cond (not b) (some r) rest ≡ none → (b ≡ true) × (rest ≡ none)
passed true r rest e = (refl, e)
passed false r rest e = absurd (some-ne-none r e)

-- a network is accepted if the three tests pass, and only then
pub fault-none : (N : Network) → good_count N ≡ true → good_length N ≡ true → good_ends N ≡ true → Accepted N
unfolding table_fault
fault-none N e f g = rw (e, f, g)

pub tests-passed : (N : Network) → Accepted N → (good_count N ≡ true) × (good_length N ≡ true) × (good_ends N ≡ true)
unfolding table_fault
tests-passed N e =
    let one = passed (good_count N) BasinCount _ e in
    let two = passed (good_length N) TooManyReaches _ one.1 in
    (one.0, two.0, (passed (good_ends N) EndOutOfRange none two.1).0)

pub accepted : (N : Network) → Accepted N → Facts N
accepted N e =
    let good = tests-passed N e in
    let ends : (i : ℕ) → i < length N.reaches → ends_below N.basins (reach_at N i) ≡ true = λ i l. every-get_or (ends_below N.basins) N.reaches i no_reach good.2 l in
    record {
      some-basin = leb-true 1 N.basins (and_elim_left (leb 1 N.basins) _ good.0);
      few-basins = leb-true N.basins max_basins (and_elim_right (leb 1 N.basins) _ good.0);
      few-reaches = leb-true (length N.reaches) max_reaches good.1;
      end-a = λ i l. ltb-true (reach_at N i).a N.basins (and_elim_left (ltb (reach_at N i).a N.basins) _ (ends i l));
      end-b = λ i l. ltb-true (reach_at N i).b N.basins (and_elim_right (ltb (reach_at N i).a N.basins) _ (ends i l));
    }

-- ---- states and gates

-- only the number 0 is gated
pub not-gated : (k : ℕ) → (k ≡ 0 → ⊥) → is_gated (state_of k) ≡ false
not-gated zero n = absurd (n refl)
not-gated (suc zero) n = refl
not-gated (suc (suc zero)) n = refl
not-gated (suc (suc (suc zero))) n = refl
not-gated (suc (suc (suc (suc zero)))) n = refl
not-gated (suc (suc (suc (suc (suc k))))) n = refl

-- the numbers from 5 on are shut two-way reaches
pub state-other : (k : ℕ) → 5 ≤ k → Shut TwoWay ≡ state_of k
state-other zero l = absurd (omega arith)
state-other (suc zero) l = absurd (omega arith)
state-other (suc (suc zero)) l = absurd (omega arith)
state-other (suc (suc (suc zero))) l = absurd (omega arith)
state-other (suc (suc (suc (suc zero)))) l = absurd (omega arith)
state-other (suc (suc (suc (suc (suc k))))) l = refl

-- those below 3 are in service, those from 3 on shut
pub state-in-service : (k : ℕ) → k < 3 → in_service (state_of k) ≡ true
state-in-service zero l = refl
state-in-service (suc zero) l = refl
state-in-service (suc (suc zero)) l = refl
state-in-service (suc (suc (suc k))) l = absurd (omega arith)

pub state-shut : (k : ℕ) → 3 ≤ k → in_service (state_of k) ≡ false
state-shut zero l = absurd (omega arith)
state-shut (suc zero) l = absurd (omega arith)
state-shut (suc (suc zero)) l = absurd (omega arith)
state-shut (suc (suc (suc zero))) l = refl
state-shut (suc (suc (suc (suc zero)))) l = refl
state-shut (suc (suc (suc (suc (suc k))))) l = refl

-- there are no more gated reaches than reaches, and so no more than a network may have
pub gates-below : (o : ℕ) (t : List Reach) → length (gates_from o t) ≤ length t
gates-below o [] = omega arith
gates-below o (r ∷ t) = length-cond-le (is_gated r.state) o (gates_from (suc o) t) (length t) (gates-below (suc o) t)

pub gates-fit : (N : Network) → Accepted N → gate_count N ≤ max_reaches
gates-fit N ok = omega (arith, gates-below 0 N.reaches, (accepted N ok).few-reaches)

-- ---- wet basins

-- a basin is wet exactly if a reach in service has an end there
pub record WetBy (N : Network) (b : ℕ) : Type 0 where
  pub reach : ℕ
  pub below : reach < length N.reaches
  pub serves : in_service (reach_at N reach).state ≡ true
  pub ends : ((reach_at N reach).a ≡ b) ⊎ ((reach_at N reach).b ≡ b)

pub wet-make : (N : Network) (b : ℕ) → WetBy N b → is_wet N b ≡ true
unfolding is_wet
wet-make N b w =
    let r = reach_at N w.reach in
    some-get_or (ends_at b) N.reaches w.reach no_reach w.below
    (and_intro w.serves (⊎_elim (λ e. or_inl _ _ (eq-eqb r.a b e)) (λ e. or_inr (eqb r.a b) _ (eq-eqb r.b b e)) w.ends))

pub wet-by : (N : Network) (b : ℕ) → is_wet N b ≡ true → WetBy N b
unfolding is_wet
wet-by N b e =
    let k = some_at (ends_at b) N.reaches no_reach e in
    let r = reach_at N k.0 in
    record {
      reach = k.0;
      below = k.1;
      serves = and_elim_left (in_service r.state) _ k.2;
      ends = ⊎_elim (λ f. inl (eqb-true r.a b f)) (λ f. inr (eqb-true r.b b f)) (or_cases (eqb r.a b) _ (and_elim_right (in_service r.state) _ k.2));
    }

-- ---- basins

-- those that count are the wet ones below the basin count
pub basin-wet : (N : Network) (b : ℕ) → Memᴰ b (basins_of N) → is_wet N b ≡ true
unfolding basins_of
basin-wet N b m = (keep-in (is_wet N) (range 0 N.basins) m).1

pub basin-in : (N : Network) (b : ℕ) → b < N.basins → is_wet N b ≡ true → Memᴰ b (basins_of N)
unfolding basins_of
basin-in N b l w = keep-has (is_wet N) (range-has 0 N.basins (omega arith) (omega arith)) w

pub basin-below : (N : Network) (b : ℕ) → Memᴰ b (basins_of N) → b < N.basins
unfolding basins_of
basin-below N b m = omega (arith, (range-in 0 N.basins (keep-in (is_wet N) (range 0 N.basins) m).0).1)

-- they hang on the basin count and on which are wet
pub same-basins : (N M : Network) → N.basins ≡ M.basins → ((b : ℕ) → is_wet N b ≡ is_wet M b) → basins_of N ≡ basins_of M
unfolding basins_of
same-basins N M e f = ap (λ (n : ℕ). keep (is_wet N) (range 0 n)) e ∙ keep_same (is_wet N) (is_wet M) (range 0 M.basins) (λ b m. f b)

-- what is kept of them, or found among them, is wet
pub basins-kept : (N : Network) (p : ℕ → Bool) → keep p (basins_of N) ≡ keep (λ b. is_wet N b && p b) (range 0 N.basins)
unfolding basins_of
basins-kept N p = keep-keep (is_wet N) p (range 0 N.basins)

pub basins-found : (N : Network) (p : ℕ → Bool) → find p (basins_of N) ≡ find (λ b. is_wet N b && p b) (range 0 N.basins)
unfolding basins_of
basins-found N p = find-keep (is_wet N) p (range 0 N.basins)

-- no more count than there are
pub basins-few : (N : Network) → length (basins_of N) ≤ N.basins
unfolding basins_of
basins-few N = omega (arith, length-keep (is_wet N) (range 0 N.basins), length-range 0 N.basins)

-- where two or more count, two of them differ
pub record TwoBasins (N : Network) : Type 0 where
  pub first : ℕ
  pub second : ℕ
  pub first-in : Memᴰ first (basins_of N)
  pub second-in : Memᴰ second (basins_of N)
  pub differ : first ≡ second → ⊥

pub two-basins : (N : Network) → 2 ≤ length (basins_of N) → TwoBasins N
unfolding basins_of
two-basins N h =
    let r = range 0 N.basins in
    let x = kept_from (is_wet N) r 0 0 (omega arith) in
    let y = kept_from (is_wet N) r 0 1 (omega arith) in
    record {
      first = x.from;
      second = y.from;
      first-in = at x.from x.below x.passes;
      second-in = at y.from y.below y.passes;
      differ = λ e. let same : ◌≡◌ {A = ℕ} 0 1 = sym x.place ∙ ap (λ (i : ℕ). length (keep (is_wet N) (take i r))) e ∙ y.place in omega (arith, same);
    }
  where
    at : (i : ℕ) → i < length (range 0 N.basins) → is_wet N (get_or (range 0 N.basins) i 0) ≡ true → Memᴰ i (keep (is_wet N) (range 0 N.basins))
    at i l e =
        let b : i < N.basins = omega (arith, length-range 0 N.basins) in
        keep-has (is_wet N) (range-has 0 N.basins (omega arith) (omega arith)) (subst (λ (j : ℕ). is_wet N j ≡ true) (range_at 0 N.basins i b ∙ omega arith) e)

-- both ends of a reach in service count
pub end-a-in : (N : Network) → Accepted N → (i : ℕ) → i < length N.reaches → in_service (reach_at N i).state ≡ true → Memᴰ (reach_at N i).a (basins_of N)
end-a-in N ok i l e = basin-in N _ ((accepted N ok).end-a i l) (wet-make N _ (record { reach = i; below = l; serves = e; ends = inl refl }))

pub end-b-in : (N : Network) → Accepted N → (i : ℕ) → i < length N.reaches → in_service (reach_at N i).state ≡ true → Memᴰ (reach_at N i).b (basins_of N)
end-b-in N ok i l e = basin-in N _ ((accepted N ok).end-b i l) (wet-make N _ (record { reach = i; below = l; serves = e; ends = inr refl }))

-- the lowest is one of them, if there is any
head_in : {b : ℕ} (l : List ℕ) → Memᴰ b l → Memᴰ (get_or l 0 0) l
head_in [] m = absurd (Memᴰ.not-nil m)
head_in (x ∷ l) m = Memᴰ.head refl

pub lowest-in : (N : Network) {b : ℕ} → Memᴰ b (basins_of N) → Memᴰ (lowest_basin N) (basins_of N)
lowest-in N m = head_in (basins_of N) m

-- a wet basin with none below it is the lowest
pub lowest-is : (N : Network) (w : ℕ) → w < N.basins → is_wet N w ≡ true → ((v : ℕ) → v < w → is_wet N v ≡ false) → lowest_basin N ≡ w
unfolding basins_of
lowest-is N w l wet lower = keep-first (is_wet N) 0 (range 0 N.basins) (find-lowest (is_wet N) 0 N.basins w (omega arith) (omega arith) wet (λ j a b. lower j b))

-- ---- the ends of arcs

-- an arc of a reach joins its ends, the one way or the other
pub passing-ends : (x a b c d : ℕ) → Memᴰ (arc c d) (passing x a b) → (arc c d ≡ arc a b) ⊎ (arc c d ≡ arc b a)
passing-ends zero a b c d m = ⊎_elim (λ e. inl e) (λ n. absurd (Memᴰ.not-nil n)) (Memᴰ.cases_cons m)
passing-ends (suc zero) a b c d m = ⊎_elim (λ e. inr e) (λ n. absurd (Memᴰ.not-nil n)) (Memᴰ.cases_cons m)
passing-ends (suc (suc zero)) a b c d m =
    ⊎_elim (λ e. inl e) (λ m'. ⊎_elim (λ e. inr e) (λ n. absurd (Memᴰ.not-nil n)) (Memᴰ.cases_cons m')) (Memᴰ.cases_cons m)
passing-ends (suc (suc (suc x))) a b c d m = absurd (Memᴰ.not-nil m)

pub reach-alike : (f : ℕ → Bool) (x a b c d : ℕ) → f a ≡ f b → Memᴰ (arc c d) (passing x a b) → f c ≡ f d
reach-alike f x a b c d same m =
    ⊎_elim (λ e. ap f (arc-from e) ∙ same ∙ sym (ap f (arc-to e))) (λ e. ap f (arc-from e) ∙ sym same ∙ sym (ap f (arc-to e))) (passing-ends x a b c d m)

-- what holds of both ends of each reach in service holds of both ends of each arc
pub arc-ends : (P : ℕ → Type 0) (t : List Reach) (ws : List ℕ) → ShutOut t ws → ((i : ℕ) → i < length t → in_service (get_or t i no_reach).state ≡ true → P (get_or t i no_reach).a × P (get_or t i no_reach).b) → (c d : ℕ) → Memᴰ (arc c d) (arcs t ws) → P c × P d
arc-ends P t ws out f c d m =
    let s = arcs-in t ws (arc c d) m in
    let p = f s.reach s.below (arc-in-service t ws out s.reach s.below (arc c d) s.passes) in
    ⊎_elim (λ e. (subst P (sym (arc-from e)) p.0, subst P (sym (arc-to e)) p.1)) (λ e. (subst P (sym (arc-from e)) p.1, subst P (sym (arc-to e)) p.0)) (passing-ends (get_or ws s.reach 3) _ _ c d s.passes)

-- so water passes between wet basins only
pub arcs-in-basins : (N : Network) → Accepted N → (ws : List ℕ) → ShutOut N.reaches ws → (c d : ℕ) → Memᴰ (arc c d) (arcs N.reaches ws) → Memᴰ c (basins_of N) × Memᴰ d (basins_of N)
arcs-in-basins N ok ws out = arc-ends (λ x. Memᴰ x (basins_of N)) N.reaches ws out (λ i l e. (end-a-in N ok i l e, end-b-in N ok i l e))

pub walk-in-basins : (N : Network) → Accepted N → (ws : List ℕ) → ShutOut N.reaches ws → {u v : ℕ} → Walk (arcs N.reaches ws) u v → Memᴰ u (basins_of N) → Memᴰ v (basins_of N)
walk-in-basins N ok ws out stay m = m
walk-in-basins N ok ws out (step {u = c} {v = d} a p) m = walk-in-basins N ok ws out p (arcs-in-basins N ok ws out c d a).1

-- what is alike at both ends of each reach in service is alike at both ends of each arc
pub arc-alike : (f : ℕ → Bool) (t : List Reach) (ws : List ℕ) → ShutOut t ws → ((i : ℕ) → i < length t → in_service (get_or t i no_reach).state ≡ true → f (get_or t i no_reach).a ≡ f (get_or t i no_reach).b) → (c d : ℕ) → Memᴰ (arc c d) (arcs t ws) → f c ≡ f d
arc-alike f t ws out same c d m =
    let s = arcs-in t ws (arc c d) m in
    reach-alike f (get_or ws s.reach 3) _ _ c d (same s.reach s.below (arc-in-service t ws out s.reach s.below (arc c d) s.passes)) s.passes
