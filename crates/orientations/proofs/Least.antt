-- The least plan that completes a list of ways, and what deciding one gate does to it: the law behind deciding the gates one after the other.
-- Assumes nothing.
use Prim.Native.Nat.{ℕ, zero, suc, ◌≤◌, ◌<◌}
use native.Mathlib.Nat.{not-suc-le-zero, le_of_suc-le-suc, suc_inj}
use native.Mathlib.Omega.{arith}
use native.Mathlib.Decide.{ℕ_discrete, dec_le}
use mathlib.Core.Path.{◌≡◌, refl, sym, ap, subst, subst⁻¹, ◌∙◌}
use mathlib.Core.Bool.{Bool, true, false, ◌&&◌, ◌||◌, false≢true}
use mathlib.Core.Logic.{◌⊎◌, inl, inr, ⊎_elim}
use mathlib.Core.Option.{some}
use mathlib.Core.List.{List, [], ◌∷◌, Memᴰ}
use lib.ListN.{length, get_or, set}
use lib.Seq.{get_or-set_same, get_or-set_other, ext_get_or}
use lib.Dec.{leb, ltb, eqb}
use borrow.Author.Tests.{le-leb, lt-ltb, le-ltb, eq-eqb, ne_eqb}
use mathlib.Mathlib.Data.Bool.Basic.{and_intro, or_inl, or_inr}
use Rattle.network.specs.declared.Kind.TheVariants.{Gated, Flap, TwoWay}
use Rattle.network.specs.declared.State.{State}
use Rattle.network.specs.declared.State.TheVariants.{InService, Shut}
use Rattle.network.specs.declared.Reach.{Reach}
use Rattle.lists.specs.Lists.{every}
use Rattle.network.specs.Networks.{Network, basins_of}
use Rattle.network.specs.Settings.{is_gated, gates_from, gate_count, is_setting, before}
use Rattle.network.specs.Orientations.{way, ways, arcs}
use Rattle.network.specs.Plans.{strongly_connected, strongly_connected_under, is_plan, first_plan}
use Rattle.network.specs.Bridges.{no_reach, reach_at}
use Rattle.lists.proofs.Bools.{decide, clash}
use Rattle.network.proofs.Cuts.{strong-within}
use Rattle.network.proofs.Walks.{Within}
use Rattle.network.proofs.Ways.{passing_at, arcs-in, arcs-has, passing-either, length-ways, plain-way, gate-way}
use Rattle.network.proofs.Order.{before-irrefl, before-asym, setting-length, plan-setting, first-unique}
use Rattle.network.proofs.Bridges.{plan-gate-small}
use Rattle.network.proofs.Theorem.{plan-reaches}
use Rattle.orientations.specs.Least.{Fits, LeastPlan, Decided, Shaped}
use Rattle.tables.specs.Bytes.{bytes_of}

abbrev reach_of : State → ℕ → ℕ → Reach
reach_of d a b = record { state = d; a = a; b = b }

-- ---- the order of settings is the order of the ways under them

same_head : (c : ℕ) (xs ys : List ℕ) → before (c ∷ xs) (c ∷ ys) ≡ before xs ys
same_head c xs ys = rw (le-ltb c c (omega arith), eq-eqb c c refl)

pub ways-order : (o : ℕ) (t : List Reach) (p q : List ℕ) → length p ≡ length (gates_from o t) → length q ≡ length (gates_from o t) → before (ways t p) (ways t q) ≡ before p q
ways-order o [] [] q e f = refl
ways-order o [] (x ∷ p) q e f = absurd (omega arith)
ways-order o (r ∷ t) p q e f = go r.state r.a r.b p q e f (λ p' q' e' f'. ways-order (suc o) t p' q' e' f')
  where
    go : (d : State) (a b : ℕ) (p q : List ℕ) → length p ≡ length (gates_from o (reach_of d a b ∷ t)) → length q ≡ length (gates_from o (reach_of d a b ∷ t)) →
        ((p' q' : List ℕ) → length p' ≡ length (gates_from (suc o) t) → length q' ≡ length (gates_from (suc o) t) → before (ways t p') (ways t q') ≡ before p' q') →
        before (ways (reach_of d a b ∷ t) p) (ways (reach_of d a b ∷ t) q) ≡ before p q
    go (InService Gated) a b [] q e f rec = absurd (omega arith)
    go (InService Gated) a b (x ∷ p) [] e f rec = absurd (omega arith)
    go (InService Gated) a b (x ∷ p) (y ∷ q) e f rec = ap (λ (v : Bool). ltb x y || eqb x y && v) (rec p q (suc_inj e) (suc_inj f))
    go (InService Flap) a b p q e f rec = rec p q e f
    go (InService TwoWay) a b p q e f rec = rec p q e f
    go (Shut k) a b p q e f rec = rec p q e f

-- two lists that agree below i and differ there
pub before_at : (xs ys : List ℕ) (i d : ℕ) → i < length xs → i < length ys → ((j : ℕ) → j < i → get_or xs j d ≡ get_or ys j d) → get_or xs i d < get_or ys i d → before xs ys ≡ true
before_at [] ys i d l k f h = absurd (not-suc-le-zero l)
before_at (x ∷ xs) [] i d l k f h = absurd (not-suc-le-zero k)
before_at (x ∷ xs) (y ∷ ys) zero d l k f h = or_inl _ _ (lt-ltb x y h)
before_at (x ∷ xs) (y ∷ ys) (suc i) d l k f h =
    or_inr (ltb x y) _ (and_intro (eq-eqb x y (f 0 (omega arith))) (before_at xs ys i d (le_of_suc-le-suc l) (le_of_suc-le-suc k) (λ j jl. f (suc j) (omega arith)) h))

-- the first of two lists in order is not above the second where they first differ
pub before-up : (xs ys : List ℕ) (i d : ℕ) → i < length xs → i < length ys → ((j : ℕ) → j < i → get_or xs j d ≡ get_or ys j d) → before xs ys ≡ true → get_or xs i d ≤ get_or ys i d
before-up [] ys i d l k f h = absurd (not-suc-le-zero l)
before-up (x ∷ xs) [] i d l k f h = absurd (not-suc-le-zero k)
before-up (x ∷ xs) (y ∷ ys) zero d l k f h = go (dec_le x y)
  where
    go : Dec (x ≤ y) → x ≤ y
    go (yes e) = e
    go (no n) = clash h (rw (le-ltb x y (omega arith), ne_eqb x y (omega arith)))
before-up (x ∷ xs) (y ∷ ys) (suc i) d l k f h =
    before-up xs ys i d (le_of_suc-le-suc l) (le_of_suc-le-suc k) (λ j jl. f (suc j) (omega arith)) (sym (same_head y xs ys) ∙ subst (λ (z : ℕ). before (z ∷ xs) (y ∷ ys) ≡ true) (f 0 (omega arith)) h)

-- lists in order that begin with the same number are in order after it
strip : (x y : ℕ) (xs ys : List ℕ) → x ≡ y → before (x ∷ xs) (y ∷ ys) ≡ true → before xs ys ≡ true
strip x y xs ys e h = sym (same_head y xs ys) ∙ subst (λ (z : ℕ). before (z ∷ xs) (y ∷ ys) ≡ true) e h

head-up : (x y : ℕ) (xs ys : List ℕ) → before (x ∷ xs) (y ∷ ys) ≡ true → x ≤ y
head-up x y xs ys h = before-up (x ∷ xs) (y ∷ ys) 0 0 (omega arith) (omega arith) (λ j l. absurd (not-suc-le-zero l)) h

-- what stands between two lists that agree below i agrees with them there
pub between : (xs zs ys : List ℕ) (i d : ℕ) → ((j : ℕ) → j < i → get_or xs j d ≡ get_or ys j d) → before xs zs ≡ true → before zs ys ≡ true → (j : ℕ) → j < i → get_or zs j d ≡ get_or xs j d
between xs zs ys zero d f p q j l = absurd (not-suc-le-zero l)
between [] zs ys (suc i) d f p q j l = absurd (false≢true p)
between (x ∷ xs) [] ys (suc i) d f p q j l = absurd (false≢true p)
between (x ∷ xs) (z ∷ zs) [] (suc i) d f p q j l = absurd (false≢true q)
between (x ∷ xs) (z ∷ zs) (y ∷ ys) (suc i) d f p q zero l = let e : x ≡ y = f 0 (omega arith) in omega (arith, head-up x z xs zs p, head-up z y zs ys q)
between (x ∷ xs) (z ∷ zs) (y ∷ ys) (suc i) d f p q (suc j) l =
    let e : x ≡ y = f 0 (omega arith) in
    let xz : x ≡ z = omega (arith, head-up x z xs zs p, head-up z y zs ys q) in
    let zy : z ≡ y = omega (arith, head-up x z xs zs p, head-up z y zs ys q) in
    between xs zs ys i d (λ k kl. f (suc k) (omega arith)) (strip x z xs zs xz p) (strip z y zs ys zy q) j (le_of_suc-le-suc l)

-- ---- completing ways

module _ (N : Network) where
  abbrev t : List Reach
  t = N.reaches

  -- ways that leave each reach as it is, or either way, reach no less
  pub looser-ways-strong : (us ws : List ℕ) → ((j : ℕ) → j < length t → (get_or ws j 3 ≡ 2) ⊎ (get_or ws j 3 ≡ get_or us j 3)) → strongly_connected (basins_of N) (arcs t us) ≡ true → strongly_connected (basins_of N) (arcs t ws) ≡ true
  looser-ways-strong us ws f = strong-within (basins_of N) (arcs t us) (arcs t ws) within
    where
      within : Within (arcs t us) (arcs t ws)
      within y m =
          let s = arcs-in t us y m in
          arcs-has t ws s.reach y s.below
          (⊎_elim
          (λ free. subst⁻¹ (λ (x : ℕ). Memᴰ y (passing_at t s.reach x)) free (passing-either (get_or us s.reach 3) _ _ y s.passes))
          (λ same. subst⁻¹ (λ (x : ℕ). Memᴰ y (passing_at t s.reach x)) same s.passes)
          (f s.reach s.below))

  -- a plan that fits reaches no more than ws does
  pub fits-strong : (q ws : List ℕ) → is_plan N q ≡ true → Fits N q ws → strongly_connected (basins_of N) (arcs t ws) ≡ true
  unfolding strongly_connected_under
  fits-strong q ws e f = looser-ways-strong (ways t q) ws f (plan-reaches N q e)

  pub plan-order : (p q : List ℕ) → is_plan N p ≡ true → is_plan N q ≡ true → before (ways t p) (ways t q) ≡ before p q
  plan-order p q e f = ways-order 0 t p q (setting-length N p (plan-setting N p e)) (setting-length N q (plan-setting N q f))

  -- if a plan has another way at i than ws with i decided, or the same: what deciding i leaves
  pub fits-set : (q ws : List ℕ) (i x : ℕ) → i < length ws → Fits N q ws → get_or (ways t q) i 3 ≡ x → Fits N q (set ws i x)
  fits-set q ws i x l f e j jl = go (ℕ_discrete j i)
    where
      go : Dec (j ≡ i) → (get_or (set ws i x) j 3 ≡ 2) ⊎ (get_or (set ws i x) j 3 ≡ get_or (ways t q) j 3)
      go (yes same) = inr (rw (same, get_or-set_same ws i x 3 l) (sym e))
      go (no n) = subst⁻¹ (λ (v : ℕ). (v ≡ 2) ⊎ (v ≡ get_or (ways t q) j 3)) (get_or-set_other ws i j x 3 n) (f j jl)

  -- and back, where i was not decided
  fits-free : (q ws : List ℕ) (i x : ℕ) → get_or ws i 3 ≡ 2 → Fits N q (set ws i x) → Fits N q ws
  fits-free q ws i x free f j jl = go (ℕ_discrete j i)
    where
      go : Dec (j ≡ i) → (get_or ws j 3 ≡ 2) ⊎ (get_or ws j 3 ≡ get_or (ways t q) j 3)
      go (yes same) = inl (ap (λ (k : ℕ). get_or ws k 3) same ∙ free)
      go (no n) = subst (λ (v : ℕ). (v ≡ 2) ⊎ (v ≡ get_or (ways t q) j 3)) (get_or-set_other ws i j x 3 n) (f j jl)

  -- what fits a list of ways with i set has that way at i
  pub fits-at : (q ws : List ℕ) (i x : ℕ) → i < length ws → i < length t → x ≤ 1 → Fits N q (set ws i x) → get_or (ways t q) i 3 ≡ x
  fits-at q ws i x l k small f =
      ⊎_elim (λ two. absurd (omega (arith, two, get_or-set_same ws i x 3 l))) (λ same. sym same ∙ get_or-set_same ws i x 3 l) (f i k)

  -- ---- deciding one gate

  -- a reach that is no gate has one way under every setting
  pub same-plain : (p q : List ℕ) (j : ℕ) → j < length t → is_gated (reach_at N j).state ≡ false → get_or (ways t p) j 3 ≡ get_or (ways t q) j 3
  same-plain p q j l n = plain-way t p j l n ∙ sym (plain-way t q j l n)

  pub has-decided : (q ws : List ℕ) (j : ℕ) → j < length t → get_or ws j 3 ≤ 1 → Fits N q ws → get_or (ways t q) j 3 ≡ get_or ws j 3
  has-decided q ws j l small f = ⊎_elim (λ two. absurd (omega (arith, two))) (λ same. sym same) (f j l)

  -- two settings that fit agree where ws is decided
  pub agree : (p q ws : List ℕ) (i : ℕ) → i ≤ length t → Decided N ws i → Fits N p ws → Fits N q ws → (j : ℕ) → j < i → get_or (ways t p) j 3 ≡ get_or (ways t q) j 3
  agree p q ws i le d f g j l =
      ⊎_elim
      (λ y. has-decided p ws j (omega arith) (d j l y) f ∙ sym (has-decided q ws j (omega arith) (d j l y) g))
      (λ n. same-plain p q j (omega arith) n)
      (decide (is_gated (reach_at N j).state))

  module _ (ws : List ℕ) (i : ℕ) (below : i < length t) (full : length ws ≡ length t) (gated : is_gated (reach_at N i).state ≡ true) (free : get_or ws i 3 ≡ 2) where
    room : i < length ws
    room = omega (arith, full)

    way_of : (q : List ℕ) → is_plan N q ≡ true → (get_or (ways t q) i 3 ≡ 0) ⊎ (get_or (ways t q) i 3 ≡ 1)
    way_of q e = go (get_or (ways t q) i 3) refl (plan-gate-small N q i e below gated)
      where
        go : (x : ℕ) → get_or (ways t q) i 3 ≡ x → get_or (ways t q) i 3 ≤ 1 → (get_or (ways t q) i 3 ≡ 0) ⊎ (get_or (ways t q) i 3 ≡ 1)
        go zero e l = inl e
        go (suc zero) e l = inr e
        go (suc (suc x)) e l = absurd (omega arith)

    -- Where a plan has the gate as drawn, the least one has it so.
    pub least-drawn : Decided N ws i → (s : List ℕ) → LeastPlan N (set ws i 0) s → LeastPlan N ws s
    least-drawn d s m = record { is-plan = m.is-plan; fits = fits-s; least = least }
      where
        fits-s : Fits N s ws
        fits-s = fits-free s ws i 0 free m.fits

        least : (q : List ℕ) → is_plan N q ≡ true → Fits N q ws → before q s ≡ false
        least q e f =
            ⊎_elim
            (λ at0. m.least q e (fits-set q ws i 0 room f at0))
            (λ at1.
            before-asym s q
            (sym (plan-order s q m.is-plan e)
            ∙ before_at (ways t s) (ways t q) i 3 (omega (arith, length-ways t s)) (omega (arith, length-ways t q)) (agree s q ws i (omega arith) d fits-s f)
            (omega (arith, at1, fits-at s ws i 0 room below (omega arith) m.fits))))
            (way_of q e)

    -- Where none can have it as drawn, the least one has it turned.
    pub least-turned : strongly_connected (basins_of N) (arcs t (set ws i 0)) ≡ false → (s : List ℕ) → LeastPlan N (set ws i 1) s → LeastPlan N ws s
    least-turned lost s m =
        record {
          is-plan = m.is-plan;
          fits = fits-free s ws i 1 free m.fits;
          least = λ q e f.
              ⊎_elim
              (λ at0. clash (fits-strong q (set ws i 0) e (fits-set q ws i 0 room f at0)) lost)
              (λ at1. m.least q e (fits-set q ws i 1 room f at1))
              (way_of q e);
        }

-- ---- all gates decided

pub bytes-ways : (t : List Reach) (ws : List ℕ) → length ws ≡ length t → Shaped t ws → ways t (bytes_of t ws) ≡ ws
bytes-ways [] [] e f = refl
bytes-ways [] (w ∷ ws) e f = absurd (omega arith)
bytes-ways (r ∷ t) [] e f = absurd (omega arith)
bytes-ways (r ∷ t) (w ∷ ws) e f = go r.state r.a r.b (f 0 (omega arith)) (bytes-ways t ws (suc_inj e) (λ j l n. f (suc j) (omega arith) n))
  where
    go : (d : State) (a b : ℕ) → (is_gated d ≡ false → w ≡ way d []) → ways t (bytes_of t ws) ≡ ws → ways (reach_of d a b ∷ t) (bytes_of (reach_of d a b ∷ t) (w ∷ ws)) ≡ w ∷ ws
    go (InService Gated) a b g rec = ap (λ (l : List ℕ). w ∷ l) rec
    go (InService Flap) a b g rec = rw (g refl) (ap (λ (l : List ℕ). 0 ∷ l) rec)
    go (InService TwoWay) a b g rec = rw (g refl) (ap (λ (l : List ℕ). 2 ∷ l) rec)
    go (Shut k) a b g rec = rw (g refl) (ap (λ (l : List ℕ). 3 ∷ l) rec)

pub bytes-length : (o : ℕ) (t : List Reach) (ws : List ℕ) → length ws ≡ length t → length (bytes_of t ws) ≡ length (gates_from o t)
bytes-length o [] ws e = refl
bytes-length o (r ∷ t) [] e = absurd (omega arith)
bytes-length o (r ∷ t) (w ∷ ws) e = go r.state r.a r.b (bytes-length (suc o) t ws (suc_inj e))
  where
    go : (d : State) (a b : ℕ) → length (bytes_of t ws) ≡ length (gates_from (suc o) t) → length (bytes_of (reach_of d a b ∷ t) (w ∷ ws)) ≡ length (gates_from o (reach_of d a b ∷ t))
    go (InService Gated) a b rec = ap suc rec
    go (InService Flap) a b rec = rec
    go (InService TwoWay) a b rec = rec
    go (Shut k) a b rec = rec

pub bytes_small : (t : List Reach) (ws : List ℕ) → ((j : ℕ) → j < length t → is_gated (get_or t j no_reach).state ≡ true → get_or ws j 3 ≤ 1) → every (λ x. leb x 1) (bytes_of t ws) ≡ true
bytes_small [] ws f = refl
bytes_small (r ∷ t) [] f = refl
bytes_small (r ∷ t) (w ∷ ws) f = go r.state r.a r.b (f 0 (omega arith)) (bytes_small t ws (λ j l g. f (suc j) (omega arith) g))
  where
    go : (d : State) (a b : ℕ) → (is_gated d ≡ true → w ≤ 1) → every (λ x. leb x 1) (bytes_of t ws) ≡ true → every (λ x. leb x 1) (bytes_of (reach_of d a b ∷ t) (w ∷ ws)) ≡ true
    go (InService Gated) a b g rec = and_intro (le-leb w 1 (g refl)) rec
    go (InService Flap) a b g rec = rec
    go (InService TwoWay) a b g rec = rec
    go (Shut k) a b g rec = rec

module _ (N : Network) where
  -- With all gates decided, and everything reaching everything, the bytes are the one plan that fits.
  pub least-end : (ws : List ℕ) → length ws ≡ length N.reaches → Shaped N.reaches ws → Decided N ws (length N.reaches) → strongly_connected (basins_of N) (arcs N.reaches ws) ≡ true → LeastPlan N ws (bytes_of N.reaches ws)
  unfolding is_plan is_setting strongly_connected_under
  least-end ws full shaped d str = record { is-plan = is-plan; fits = fits; least = least }
    where
      s : List ℕ
      s = bytes_of N.reaches ws

      same : ways N.reaches s ≡ ws
      same = bytes-ways N.reaches ws full shaped

      is-plan : is_plan N s ≡ true
      is-plan =
          and_intro
          (and_intro (eq-eqb (length s) (gate_count N) (bytes-length 0 N.reaches ws full)) (bytes_small N.reaches ws d))
          (subst⁻¹ (λ (v : List ℕ). strongly_connected (basins_of N) (arcs N.reaches v) ≡ true) same str)

      fits : Fits N s ws
      fits j l = inr (ap (λ (v : List ℕ). get_or v j 3) (sym same))

      least : (q : List ℕ) → is_plan N q ≡ true → Fits N q ws → before q s ≡ false
      least q e f =
          let all : ways N.reaches q ≡ ways N.reaches s =
          ext_get_or 3 (ways N.reaches q) (ways N.reaches s) (length-ways N.reaches q ∙ sym (length-ways N.reaches s))
          (λ j l. agree N q s ws (length N.reaches) (omega arith) d f fits j (omega (arith, length-ways N.reaches q))) in
          sym (plan-order N q s e is-plan) ∙ ap (λ (v : List ℕ). before v (ways N.reaches s)) all ∙ before-irrefl (ways N.reaches s)

  -- ---- the first plan

  -- every setting fits the ways with no gate decided
  pub fits-unoriented : (q : List ℕ) → Fits N q (ways N.reaches [])
  fits-unoriented q j l =
      ⊎_elim (λ y. inl (gate-way N.reaches [] j l y).byte) (λ n. inr (same-plain N [] q j l n)) (decide (is_gated (reach_at N j).state))

  pub least_first : (s : List ℕ) → LeastPlan N (ways N.reaches []) s → first_plan N ≡ some s
  least_first s m = first-unique N s m.is-plan (λ q e. m.least q e (fits-unoriented q))
