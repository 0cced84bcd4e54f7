-- The order of settings, the earliest setting that passes a test, and the first and the next plan.
-- Assumes nothing.
use Prim.Native.Nat.{ℕ, zero, suc, ◌≤◌, ◌<◌}
use mathlib.Core.Path.{◌≡◌, refl, sym, ◌∙◌, ap}
use mathlib.Core.Logic.{◌⊎◌, inl, inr, ⊎_elim, ◌↔◌}
use mathlib.Core.Bool.{Bool, true, false, ◌&&◌, false≢true}
use mathlib.Core.List.Memᴰ
use mathlib.Core.List.{List, [], ◌∷◌, map, Memᴰ}
use mathlib.Core.Option.{Option, none, some}
use native.Mathlib.Nat.{eq-or-lt_of_le}
use native.Mathlib.Omega.{arith}
use lib.ListN.{length, replicate}
use lib.Dec.{leb, ltb, eqb}
use borrow.Author.Tests.{ltb-true, ltb-false, leb-true, eqb-true, eq-eqb, lt-ltb}
use mathlib.Mathlib.Data.Bool.Basic.{and_elim_left, and_elim_right, and_intro, or_inl, or_inr, Bool-eq-false, eq-true_of_not-eq-false}
use Rattle.lists.specs.Lists.{every, find}
use Rattle.network.specs.Networks.{Network}
use Rattle.network.specs.Settings.{gate_count, is_setting, before, settings}
use Rattle.network.specs.Plans.{is_plan, strongly_connected_under, first_plan, next_plan}
use Rattle.lists.proofs.Bools.{or_cases, decide, clash, same_test}
use Rattle.lists.proofs.Searches.{find-some, find_none, find-same, find-append, find-map}

-- What before says at the first byte.
before-cons : (x y : ℕ) (s t : List ℕ) → before (x ∷ s) (y ∷ t) ≡ true → (x < y) ⊎ ((x ≡ y) × (before s t ≡ true))
before-cons x y s t h =
    ⊎_elim
    (λ e. inl (ltb-true x y e))
    (λ e. inr (eqb-true x y (and_elim_left (eqb x y) (before s t) e), and_elim_right (eqb x y) (before s t) e))
    (or_cases (ltb x y) (eqb x y && before s t) h)

before-less : (x y : ℕ) (s t : List ℕ) → x < y → before (x ∷ s) (y ∷ t) ≡ true
before-less x y s t h = or_inl _ (eqb x y && before s t) (lt-ltb x y h)

before-rest : (x y : ℕ) (s t : List ℕ) → x ≡ y → before s t ≡ true → before (x ∷ s) (y ∷ t) ≡ true
before-rest x y s t e h = or_inr (ltb x y) _ (and_intro (eq-eqb x y e) h)

before-not : (x : ℕ) (s t : List ℕ) → before s t ≡ false → before (x ∷ s) (x ∷ t) ≡ false
before-not x s t h = Bool-eq-false {b = before (x ∷ s) (x ∷ t)} (λ k. ⊎_elim (λ l. omega arith) (λ r. clash r.1 h) (before-cons x x s t k))

-- One of the two is before the other, or they are equal.
abbrev Compared : List ℕ → List ℕ → Type 0
Compared s t = (before s t ≡ true) ⊎ ((s ≡ t) ⊎ (before t s ≡ true))

-- before is a strict order, total on the lists of one length.
pub before-irrefl : (s : List ℕ) → before s s ≡ false
before-irrefl [] = refl
before-irrefl (x ∷ s) = before-not x s s (before-irrefl s)

pub before-trans : (s t u : List ℕ) → before s t ≡ true → before t u ≡ true → before s u ≡ true
before-trans [] t u h k = absurd (false≢true h)
before-trans (x ∷ s) [] u h k = absurd (false≢true h)
before-trans (x ∷ s) (y ∷ t) [] h k = absurd (false≢true k)
before-trans (x ∷ s) (y ∷ t) (z ∷ u) h k =
    ⊎_elim
    (λ l. before-less x z s u (⊎_elim (λ m. omega arith) (λ r. omega arith) (before-cons y z t u k)))
    (λ q. ⊎_elim (λ m. before-less x z s u (omega arith)) (λ r. before-rest x z s u (q.0 ∙ r.0) (before-trans s t u q.1 r.1)) (before-cons y z t u k))
    (before-cons x y s t h)

pub before-asym : (s t : List ℕ) → before s t ≡ true → before t s ≡ false
before-asym s t h = Bool-eq-false {b = before t s} (λ k. clash (before-trans s t s h k) (before-irrefl s))

-- No list is before one of zeros.
pub before-zeros : (s : List ℕ) (n : ℕ) → before s (replicate n 0) ≡ false
before-zeros [] n = refl
before-zeros (x ∷ s) zero = refl
before-zeros (x ∷ s) (suc n) =
    Bool-eq-false {b = before (x ∷ s) (0 ∷ replicate n 0)} (λ k. ⊎_elim (λ l. omega arith) (λ r. clash r.1 (before-zeros s n)) (before-cons x 0 s (replicate n 0) k))

total-rest : (x y : ℕ) (s t : List ℕ) → (y ≡ x) ⊎ (y < x) → Compared s t → Compared (x ∷ s) (y ∷ t)
total-rest x y s t (inr l) r = inr (inr (before-less y x t s l))
total-rest x y s t (inl e) (inl h) = inl (before-rest x y s t (sym e) h)
total-rest x y s t (inl e) (inr (inl h)) = inr (inl (cc))
total-rest x y s t (inl e) (inr (inr h)) = inr (inr (before-rest y x t s e h))

pub before-total : (s t : List ℕ) → length s ≡ length t → (before s t ≡ true) ⊎ ((s ≡ t) ⊎ (before t s ≡ true))
before-total [] [] h = inr (inl refl)
before-total [] (y ∷ t) h = absurd (omega arith)
before-total (x ∷ s) [] h = absurd (omega arith)
before-total (x ∷ s) (y ∷ t) h =
    ⊎_elim
    (λ k. inl (before-less x y s t (ltb-true x y k)))
    (λ k. total-rest x y s t (eq-or-lt_of_le (ltb-false x y k)) (before-total s t (omega arith)))
    (decide (ltb x y))

-- Of two lists of one length, one that is not after the other comes before what the other comes before.
pub before-from : (s t u : List ℕ) → length s ≡ length t → before t s ≡ false → before t u ≡ true → before s u ≡ true
before-from s t u e h k =
    ⊎_elim
    (λ l. before-trans s t u l k)
    (λ r. ⊎_elim (λ q. rw q k) (λ l. clash l h) r)
    (before-total s t e)

-- Two lists of one length are equal if neither is before the other.
before_same : (s t : List ℕ) → length s ≡ length t → before s t ≡ false → before t s ≡ false → s ≡ t
before_same s t e h k = ⊎_elim (λ l. clash l h) (λ r. ⊎_elim (λ q. q) (λ l. clash l k) r) (before-total s t e)

-- The list is a byte b and a setting of g gates after it.
abbrev Under : ℕ → ℕ → List ℕ → Type 0
Under b g s = (r : List ℕ) × Memᴰ r (settings g) × (b ∷ r ≡ s)

settings-split : (g : ℕ) {s : List ℕ} → Memᴰ s (settings (suc g)) → Under 0 g s ⊎ Under 1 g s
settings-split g m =
    ⊎_elim
    (λ k. inl (Memᴰ.of_map (λ s. 0 ∷ s) (settings g) k))
    (λ k. inr (Memᴰ.of_map (λ s. 1 ∷ s) (settings g) k))
    (Memᴰ.append_cases (map (λ s. 0 ∷ s) (settings g)) m)

-- The settings of g gates are the lists of g bytes, each 0 or 1.
settings-make : (g : ℕ) (s : List ℕ) → length s ≡ g → every (λ x. leb x 1) s ≡ true → Memᴰ s (settings g)
settings-make zero [] e h = Memᴰ.head refl
settings-make zero (x ∷ s) e h = absurd (omega arith)
settings-make (suc g) [] e h = absurd (omega arith)
settings-make (suc g) (x ∷ s) e h =
    let m = settings-make g s (omega arith) (and_elim_right (leb x 1) (every (λ x. leb x 1) s) h) in
    let l : x ≤ 1 = leb-true x 1 (and_elim_left (leb x 1) (every (λ x. leb x 1) s) h) in
    ⊎_elim
    (λ e. rw e (Memᴰ.append_right (map (λ s. 0 ∷ s) (settings g)) (Memᴰ.map (λ s. 1 ∷ s) m)))
    (λ k. let e : x ≡ 0 = omega arith in rw e (Memᴰ.append_left (map (λ s. 1 ∷ s) (settings g)) (Memᴰ.map (λ s. 0 ∷ s) m)))
    (eq-or-lt_of_le l)

pub setting-length : (N : Network) (s : List ℕ) → is_setting N s ≡ true → length s ≡ gate_count N
unfolding is_setting
setting-length N s h = eqb-true (length s) (gate_count N) (and_elim_left (eqb (length s) (gate_count N)) (every (λ x. leb x 1) s) h)

pub settings-has : (N : Network) (s : List ℕ) → is_setting N s ≡ true → Memᴰ s (settings (gate_count N))
unfolding is_setting
settings-has N s h = settings-make (gate_count N) s (setting-length N s h) (and_elim_right (eqb (length s) (gate_count N)) (every (λ x. leb x 1) s) h)

under-in : (b g : ℕ) {s : List ℕ} → leb b 1 ≡ true → ((r : List ℕ) → Memᴰ r (settings g) → (length r ≡ g) × (every (λ x. leb x 1) r ≡ true)) → Under b g s → (length s ≡ suc g) × (every (λ x. leb x 1) s ≡ true)
under-in b g h f u = let r = f u.0 u.1 in rw (← u.2) (ap suc r.0, and_intro h r.1)

pub settings-in : (g : ℕ) {s : List ℕ} → Memᴰ s (settings g) → (length s ≡ g) × (every (λ x. leb x 1) s ≡ true)
settings-in zero m = rw (Memᴰ.eq_of_singleton m) (refl, refl)
settings-in (suc g) m =
    ⊎_elim (under-in 0 g refl (λ r. settings-in g)) (under-in 1 g refl (λ r. settings-in g)) (settings-split g m)

-- If the earliest is found among the settings of g gates, then also behind one byte b.
earliest-under : (b g : ℕ) (p : List ℕ → Bool) (s t : List ℕ) → ((x : List ℕ) → find (λ r. p (b ∷ r)) (settings g) ≡ some x → (r : List ℕ) → Memᴰ r (settings g) → p (b ∷ r) ≡ true → before r x ≡ false) → find p (map (λ r. b ∷ r) (settings g)) ≡ some s → Under b g t → p t ≡ true → before t s ≡ false
earliest-under b g p s t f h u k =
    let x = find-map (λ r. b ∷ r) p (settings g) h in
    rw (← u.2, x.2) (before-not b u.0 x.0 (f x.0 x.1 u.0 u.1 (rw u.2 k)))

-- What is found among the settings is the earliest that passes the test.
pub earliest : (g : ℕ) (p : List ℕ → Bool) {s : List ℕ} → find p (settings g) ≡ some s → (t : List ℕ) → Memᴰ t (settings g) → p t ≡ true → before t s ≡ false
earliest zero p {s} h t m k = rw (Memᴰ.eq_of_singleton m)
earliest (suc g) p {s} h t m k =
    let cases = settings-split g m in
    let under0 = earliest-under 0 g p s t (λ x. earliest g (λ r. p (0 ∷ r))) in
    let under1 = earliest-under 1 g p s t (λ x. earliest g (λ r. p (1 ∷ r))) in
    ⊎_elim
    (λ f. ⊎_elim (λ u. under0 f u k) (λ u. let x = find-map (λ r. 0 ∷ r) p (settings g) f in rw (← u.2, x.2)) cases)
    (λ f. ⊎_elim (λ u. clash (rw u.2 k) (find_none p f.0 (Memᴰ.map (λ r. 0 ∷ r) u.1))) (λ u. under1 f.1 u k) cases)
    (find-append p (map (λ r. 0 ∷ r) (settings g)) (map (λ r. 1 ∷ r) (settings g)) h)

-- A setting that passes the test, and than which none that passes it is earlier, is what is found.
pub earliest-found : (g : ℕ) (p : List ℕ → Bool) {s : List ℕ} → Memᴰ s (settings g) → p s ≡ true → ((t : List ℕ) → Memᴰ t (settings g) → p t ≡ true → before t s ≡ false) → find p (settings g) ≡ some s
earliest-found g p {s} m h k = go (find p (settings g)) refl
  where
    go : (o : Option (List ℕ)) → find p (settings g) ≡ o → find p (settings g) ≡ some s
    go none e = clash h (find_none p e m)
    go (some t) e =
        let f = find-some p (settings g) e in
        let same : t ≡ s = before_same t s ((settings-in g f.0).0 ∙ sym (settings-in g m).0) (k t f.0 f.1) (earliest g p e s m h) in
        e ∙ ap some same

-- A plan is a setting.
pub plan-setting : (N : Network) (s : List ℕ) → is_plan N s ≡ true → is_setting N s ≡ true
unfolding is_plan
plan-setting N s h = and_elim_left (is_setting N s) (strongly_connected_under N s) h

pub plan-in : (N : Network) (s : List ℕ) → is_plan N s ≡ true → Memᴰ s (settings (gate_count N))
plan-in N s h = settings-has N s (plan-setting N s h)

module _ (N : Network) where
  -- The first plan is the earliest of the plans.
  pub first-is-plan : {s : List ℕ} → first_plan N ≡ some s → is_plan N s ≡ true
  unfolding first_plan
  first-is-plan h = (find-some (is_plan N) (settings (gate_count N)) h).1

  pub first-is-earliest : {s : List ℕ} → first_plan N ≡ some s → (t : List ℕ) → is_plan N t ≡ true → before t s ≡ false
  unfolding first_plan
  first-is-earliest h t k = earliest (gate_count N) (is_plan N) h t (plan-in N t k) k

  pub first-none : first_plan N ≡ none → (t : List ℕ) → is_plan N t ≡ true → ⊥
  unfolding first_plan
  first-none h t k = clash k (find_none (is_plan N) h (plan-in N t k))

  pub first-unique : (s : List ℕ) → is_plan N s ≡ true → ((t : List ℕ) → is_plan N t ≡ true → before t s ≡ false) → first_plan N ≡ some s
  unfolding first_plan
  first-unique s h k = earliest-found (gate_count N) (is_plan N) (plan-in N s h) h (λ t m. k t)

module _ (N : Network) (s : List ℕ) where
  -- The next plan is the earliest of the plans later than s.
  abbrev later-plan : List ℕ → Bool
  later-plan p = before s p && is_plan N p

  next-passes : {p : List ℕ} → next_plan N s ≡ some p → later-plan p ≡ true
  unfolding next_plan
  next-passes h = (find-some later-plan (settings (gate_count N)) h).1

  pub next-is-plan : {p : List ℕ} → next_plan N s ≡ some p → is_plan N p ≡ true
  next-is-plan {p} h = and_elim_right (before s p) (is_plan N p) (next-passes h)

  pub next-is-later : {p : List ℕ} → next_plan N s ≡ some p → before s p ≡ true
  next-is-later {p} h = and_elim_left (before s p) (is_plan N p) (next-passes h)

  pub next-is-earliest : {p : List ℕ} → next_plan N s ≡ some p → (q : List ℕ) → is_plan N q ≡ true → before s q ≡ true → before q p ≡ false
  unfolding next_plan
  next-is-earliest h q k l = earliest (gate_count N) later-plan h q (plan-in N q k) (and_intro l k)

  pub next-none : next_plan N s ≡ none → (q : List ℕ) → is_plan N q ≡ true → before s q ≡ true → ⊥
  unfolding next_plan
  next-none h q k l = clash (and_intro l k) (find_none later-plan h (plan-in N q k))

  pub next-unique : (p : List ℕ) → is_plan N p ≡ true → before s p ≡ true → ((q : List ℕ) → is_plan N q ≡ true → before s q ≡ true → before q p ≡ false) → next_plan N s ≡ some p
  unfolding next_plan
  next-unique p h l k =
      earliest-found (gate_count N) later-plan (plan-in N p h) (and_intro l h)
      (λ q m e. k q (and_elim_right (before s q) (is_plan N q) e) (and_elim_left (before s q) (is_plan N q) e))

-- If a plan comes after s up to and including t, it is no later than the next plan of s and earlier than that of t.
next-apart : (N : Network) (s t p : List ℕ) → is_setting N t ≡ true → is_plan N p ≡ true → before s p ≡ true → before t p ≡ false → next_plan N s ≡ next_plan N t → ⊥
next-apart N s t p ht k l m e = go (next_plan N s) refl
  where
    level : length p ≡ length t
    level = setting-length N p (plan-setting N p k) ∙ sym (setting-length N t ht)

    go : (o : Option (List ℕ)) → next_plan N s ≡ o → ⊥
    go none f = next-none N s f p k l
    go (some q) f = clash (before-from p t q level m (next-is-later N t (sym e ∙ f))) (next-is-earliest N s f p k l)

-- If none does, the plans later than s are those later than t.
next-together : (N : Network) (s t : List ℕ) → length s ≡ length t → before t s ≡ false → ((p : List ℕ) → is_plan N p ≡ true → before s p ≡ true → before t p ≡ false → ⊥) → next_plan N s ≡ next_plan N t
unfolding next_plan
next-together N s t e h n = find-same (later-plan N s) (later-plan N t) (settings (gate_count N)) (λ p m. same_test (later-plan N s p) (later-plan N t p) (forth p) (back p))
  where
    forth : (p : List ℕ) → later-plan N s p ≡ true → later-plan N t p ≡ true
    forth p k =
        let plan = and_elim_right (before s p) (is_plan N p) k in
        and_intro (eq-true_of_not-eq-false {b = before t p} (n p plan (and_elim_left (before s p) (is_plan N p) k))) plan

    back : (p : List ℕ) → later-plan N t p ≡ true → later-plan N s p ≡ true
    back p k = and_intro (before-from s t p e h (and_elim_left (before t p) (is_plan N p) k)) (and_elim_right (before t p) (is_plan N p) k)

-- Two settings, the first not after the second, have the same next plan exactly if no plan comes after the first up to and including the second.
pub next-same : (N : Network) (s t : List ℕ) → is_setting N s ≡ true → is_setting N t ≡ true → before t s ≡ false → (next_plan N s ≡ next_plan N t) ↔ ((p : List ℕ) → is_plan N p ≡ true → before s p ≡ true → before t p ≡ false → ⊥)
next-same N s t hs ht h =
    (λ e p k l m. next-apart N s t p ht k l m e, next-together N s t (setting-length N s hs ∙ sym (setting-length N t ht)) h)

-- Networks with as many gates and the same plans have the same first plan, and the same next plan of every setting.
pub same_first : (N M : Network) → gate_count N ≡ gate_count M → ((s : List ℕ) → is_plan N s ≡ is_plan M s) → first_plan N ≡ first_plan M
unfolding first_plan
same_first N M e f = rw e (find-same (is_plan N) (is_plan M) (settings (gate_count M)) (λ s m. f s))

pub same_next : (N M : Network) → gate_count N ≡ gate_count M → ((s : List ℕ) → is_plan N s ≡ is_plan M s) → (s : List ℕ) → next_plan N s ≡ next_plan M s
unfolding next_plan
same_next N M e f s = rw e (find-same (later-plan N s) (later-plan M s) (settings (gate_count M)) (λ p m. ap (λ (b : Bool). before s p && b) (f p)))
