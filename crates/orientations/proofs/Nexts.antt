-- The next plan of a setting: the last gate at which a plan can part from the setting upwards, and the least plan that does.
-- Assumes nothing.
use Prim.Native.Nat.{ℕ, zero, suc, ◌≤◌, ◌<◌}
use native.Mathlib.Nat.{not-suc-le-zero, le_of_suc-le-suc, suc_inj}
use native.Mathlib.Omega.{arith}
use native.Mathlib.Decide.{ℕ_discrete, dec_lt}
use mathlib.Core.Path.{◌≡◌, refl, sym, ap, ◌∙◌}
use mathlib.Core.Bool.{true, false, cond}
use mathlib.Core.Logic.{◌⊎◌, inl, inr, ⊎_elim}
use mathlib.Core.Option.{Option, none, some}
use mathlib.Core.List.{List, [], ◌∷◌}
use lib.ListN.{length, get_or, set, length-set, length-append, length-take, length-drop}
use lib.Seq.{get_or-set_same, get_or-set_other, set-get_or, ext_get_or}
use lib.Dec.{eqb}
use borrow.Author.Tests.{eqb-true}
use Rattle.lists.proofs.Lists.{get_or-back, get_d_front}
use mathlib.Mathlib.Data.Bool.Basic.{and_elim_left, and_elim_right, Bool-eq-false}
use Rattle.network.specs.declared.Reach.{Reach}
use Rattle.network.specs.Networks.{Network, basins_of}
use Rattle.network.specs.Settings.{is_gated, gate_count, is_setting, before}
use Rattle.network.specs.Orientations.{ways, arcs}
use Rattle.network.specs.Plans.{strongly_connected, is_plan, next_plan}
use Rattle.network.specs.Bridges.{reach_at}
use Rattle.lists.proofs.Bools.{decide, clash}
use Rattle.network.proofs.Ways.{length-ways, plain-way, gate-way, gate-small}
use Rattle.network.proofs.Order.{before-irrefl, setting-length, plan-setting, next-is-plan, next-is-later, next-unique}
use Rattle.network.proofs.Bridges.{plan-gate-small}
use Rattle.orientations.specs.Partials.{Tries, Binds, loosened, up_to}
use Rattle.orientations.specs.Least.{Fits, LeastPlan, is_tried, Shaped, Alike, NoneFrom}
use Rattle.orientations.proofs.Least.{ways-order, before_at, before-up, between, fits-strong, fits-set, fits-at, same-plain}

-- ---- ways oriented as a setting has them up to a reach

-- under a setting a gate has the way 0 or 1
pub gate-byte : (N : Network) (s : List ℕ) → is_setting N s ≡ true → (j : ℕ) → j < length N.reaches → is_gated (reach_at N j).state ≡ true → get_or (ways N.reaches s) j 3 ≤ 1
unfolding is_setting
gate-byte N s e j l g =
    gate-small N.reaches s j (eqb-true (length s) (gate_count N) (and_elim_left (eqb (length s) (gate_count N)) _ e)) (and_elim_right (eqb (length s) (gate_count N)) _ e) l g

next-never : (N : Network) (s : List ℕ) → ((q : List ℕ) → is_plan N q ≡ true → before s q ≡ true → ⊥) → next_plan N s ≡ none
next-never N s f = go (next_plan N s) refl
  where
    go : (o : Option (List ℕ)) → next_plan N s ≡ o → next_plan N s ≡ none
    go none e = e
    go (some q) e = absurd (f q (next-is-plan N s e) (next-is-later N s e))

-- ---- the gates that are tried, usable either way

pub loosened-length : (fs us : List ℕ) → length fs ≡ length us → length (loosened fs us) ≡ length us
loosened-length [] [] e = refl
loosened-length [] (u ∷ us) e = absurd (omega arith)
loosened-length (f ∷ fs) [] e = absurd (omega arith)
loosened-length (f ∷ fs) (u ∷ us) e = ap suc (loosened-length fs us (suc_inj e))

pub loosened-at : (fs us : List ℕ) (j : ℕ) → j < length fs → j < length us → get_or (loosened fs us) j 3 ≡ cond (is_tried fs j) 2 (get_or us j 3)
loosened-at [] us j l m = absurd (not-suc-le-zero l)
loosened-at (f ∷ fs) [] j l m = absurd (not-suc-le-zero m)
loosened-at (f ∷ fs) (u ∷ us) zero l m = refl
loosened-at (f ∷ fs) (u ∷ us) (suc j) l m = loosened-at fs us j (le_of_suc-le-suc l) (le_of_suc-le-suc m)

module _ (N : Network) (s : List ℕ) where
  abbrev t : List Reach
  t = N.reaches

  module _ (fs : List ℕ) (tries : Tries N fs) where
    -- what is loosened is as long as the table
    loose-length : length (loosened fs (ways t s)) ≡ length t
    loose-length = loosened-length fs (ways t s) (tries.row-full ∙ sym (length-ways t s)) ∙ length-ways t s

    loose_at : (j : ℕ) → j < length t → get_or (loosened fs (ways t s)) j 3 ≡ cond (is_tried fs j) 2 (get_or (ways t s) j 3)
    loose_at j l = loosened-at fs (ways t s) j (omega (arith, tries.row-full)) (omega (arith, length-ways t s))

    pub oriented-length : (i : ℕ) → i ≤ length t → length (up_to fs (ways t s) i) ≡ length t
    oriented-length i l = simp (length-append, length-take, length-drop, length-ways, loose-length) (omega arith)

    pub oriented-below : (i j : ℕ) → i ≤ length t → j < i → get_or (up_to fs (ways t s) i) j 3 ≡ get_or (ways t s) j 3
    oriented-below i j l k = get_d_front (ways t s) (loosened fs (ways t s)) i j 3 (omega (arith, length-ways t s)) k

    oriented-above : (i j : ℕ) → i ≤ length t → i ≤ j → get_or (up_to fs (ways t s) i) j 3 ≡ get_or (loosened fs (ways t s)) j 3
    oriented-above i j l k = get_or-back (ways t s) (loosened fs (ways t s)) i j 3 (omega (arith, length-ways t s)) k

    -- a gate from i on that is tried is usable either way
    pub oriented-tried : (i j : ℕ) → i ≤ length t → i ≤ j → j < length t → is_tried fs j ≡ true → get_or (up_to fs (ways t s) i) j 3 ≡ 2
    oriented-tried i j l k jl y = oriented-above i j l k ∙ loose_at j jl ∙ ap (λ b. cond b 2 (get_or (ways t s) j 3)) y

    -- what is not tried has its way under s
    pub oriented-held : (i j : ℕ) → i ≤ length t → j < length t → is_tried fs j ≡ false → get_or (up_to fs (ways t s) i) j 3 ≡ get_or (ways t s) j 3
    oriented-held i j l jl n = go (dec_lt j i)
      where
        go : Dec (j < i) → get_or (up_to fs (ways t s) i) j 3 ≡ get_or (ways t s) j 3
        go (yes k) = oriented-below i j l k
        go (no k) = oriented-above i j l (omega arith) ∙ loose_at j jl ∙ ap (λ b. cond b 2 (get_or (ways t s) j 3)) n

    pub oriented-all : up_to fs (ways t s) (length t) ≡ ways t s
    oriented-all = ext_get_or 3 (up_to fs (ways t s) (length t)) (ways t s) (oriented-length (length t) (omega arith) ∙ sym (length-ways t s)) (λ j l. oriented-below (length t) j (omega arith) (omega (arith, oriented-length (length t) (omega arith))))

    -- no gate is oriented yet, where all are tried
    pub oriented-none : ((j : ℕ) → j < length t → is_tried fs j ≡ is_gated (reach_at N j).state) → up_to fs (ways t s) 0 ≡ ways t []
    oriented-none all = ext_get_or 3 (up_to fs (ways t s) 0) (ways t []) (oriented-length 0 (omega arith) ∙ sym (length-ways t [])) (λ j l. at j (omega (arith, oriented-length 0 (omega arith))))
      where
        at : (j : ℕ) → j < length t → get_or (up_to fs (ways t s) 0) j 3 ≡ get_or (ways t []) j 3
        at j l =
            ⊎_elim
            (λ y. oriented-tried 0 j (omega arith) (omega arith) l y ∙ sym (gate-way t [] j l (sym (all j l) ∙ y)).byte)
            (λ n. oriented-held 0 j (omega arith) l n ∙ same-plain N s [] j l (sym (all j l) ∙ n))
            (decide (is_tried fs j))

    -- a reach that is no gate is not tried
    pub plain-held : (j : ℕ) → j < length t → is_gated (reach_at N j).state ≡ false → is_tried fs j ≡ false
    plain-held j l n = Bool-eq-false {b = is_tried fs j} (λ y. clash (tries.only-gates j l y) n)

    -- the reaches that are no gates have the ways of their kinds
    pub oriented-shaped : (i : ℕ) → i ≤ length t → Shaped t (up_to fs (ways t s) i)
    oriented-shaped i l j jl n = oriented-held i j l jl (plain-held j jl n) ∙ plain-way t s j jl n

    -- one reach more: it gets its way under s
    pub oriented-more : (i : ℕ) → i < length t → set (up_to fs (ways t s) i) i (get_or (ways t s) i 3) ≡ up_to fs (ways t s) (suc i)
    oriented-more i l = ext_get_or 3 (set (up_to fs (ways t s) i) i x) (up_to fs (ways t s) (suc i)) (length-set (up_to fs (ways t s) i) i x ∙ oriented-length i (omega arith) ∙ sym (oriented-length (suc i) l)) at
      where
        x : ℕ
        x = get_or (ways t s) i 3

        at : (j : ℕ) → j < length (set (up_to fs (ways t s) i) i x) → get_or (set (up_to fs (ways t s) i) i x) j 3 ≡ get_or (up_to fs (ways t s) (suc i)) j 3
        at j jl = go (ℕ_discrete j i) (dec_lt j i)
          where
            go : Dec (j ≡ i) → Dec (j < i) → get_or (set (up_to fs (ways t s) i) i x) j 3 ≡ get_or (up_to fs (ways t s) (suc i)) j 3
            go (yes e) d = rw e (get_or-set_same (up_to fs (ways t s) i) i x 3 (omega (arith, oriented-length i (omega arith))) ∙ sym (oriented-below (suc i) i l (omega arith)))
            go (no n) (yes k) = get_or-set_other (up_to fs (ways t s) i) i j x 3 n ∙ oriented-below i j (omega arith) k ∙ sym (oriented-below (suc i) j l (omega arith))
            go (no n) (no k) = get_or-set_other (up_to fs (ways t s) i) i j x 3 n ∙ oriented-above i j (omega arith) (omega arith) ∙ sym (oriented-above (suc i) j l (omega arith))

    -- a reach that is not tried: nothing changes
    pub oriented-plain : (i : ℕ) → i < length t → is_tried fs i ≡ false → up_to fs (ways t s) (suc i) ≡ up_to fs (ways t s) i
    oriented-plain i l n =
        sym (oriented-more i l)
        ∙ ap (λ (x : ℕ). set (up_to fs (ways t s) i) i x) (sym (oriented-held i i (omega arith) l n))
        ∙ set-get_or (up_to fs (ways t s) i) i 3

  -- ---- no plan parts from the setting upwards at reach i or later

  alike-more : (q : List ℕ) (i : ℕ) → Alike N s q i → get_or (ways t q) i 3 ≡ get_or (ways t s) i 3 → Alike N s q (suc i)
  alike-more q i f e j l = go (ℕ_discrete j i)
    where
      go : Dec (j ≡ i) → get_or (ways t q) j 3 ≡ get_or (ways t s) j 3
      go (yes same) = rw same e
      go (no n) = f j (omega arith)

  module _ (fit : is_setting N s ≡ true) where
    order : (q : List ℕ) → is_plan N q ≡ true → before (ways t s) (ways t q) ≡ before s q
    order q e = ways-order 0 t s q (setting-length N s fit) (setting-length N q (plan-setting N q e))

    pub none-from-end : NoneFrom N s (length t)
    none-from-end q e later f =
        let same : ways t q ≡ ways t s = ext_get_or 3 (ways t q) (ways t s) (length-ways t q ∙ sym (length-ways t s)) (λ j l. f j (omega (arith, length-ways t q))) in
        clash (order q e ∙ later) (ap (λ (v : List ℕ). before (ways t s) v) same ∙ before-irrefl (ways t s))

    -- a later plan that is alike below i and not at i has the gate i turned, where s has it as drawn
    parts : (q : List ℕ) (i : ℕ) → i < length t → is_plan N q ≡ true → before s q ≡ true → Alike N s q i → (get_or (ways t q) i 3 ≡ get_or (ways t s) i 3 → ⊥) → get_or (ways t s) i 3 < get_or (ways t q) i 3
    parts q i l e later f n =
        let up : get_or (ways t s) i 3 ≤ get_or (ways t q) i 3 = before-up (ways t s) (ways t q) i 3 (omega (arith, length-ways t s)) (omega (arith, length-ways t q)) (λ j k. sym (f j k)) (order q e ∙ later) in
        go (ℕ_discrete (get_or (ways t q) i 3) (get_or (ways t s) i 3)) up
      where
        go : Dec (get_or (ways t q) i 3 ≡ get_or (ways t s) i 3) → get_or (ways t s) i 3 ≤ get_or (ways t q) i 3 → get_or (ways t s) i 3 < get_or (ways t q) i 3
        go (yes same) up = absurd (n same)
        go (no m) up = omega arith

    -- one reach less, if no plan can part there
    none_from : (i : ℕ) → i < length t → NoneFrom N s (suc i) → ((q : List ℕ) → is_plan N q ≡ true → Alike N s q i → get_or (ways t s) i 3 < get_or (ways t q) i 3 → ⊥) → NoneFrom N s i
    none_from i l more no_part q e later f = go (ℕ_discrete (get_or (ways t q) i 3) (get_or (ways t s) i 3))
      where
        go : Dec (get_or (ways t q) i 3 ≡ get_or (ways t s) i 3) → ⊥
        go (yes same) = more q e later (alike-more q i f same)
        go (no n) = no_part q e f (parts q i l e later f n)

    pub none-turned : (i : ℕ) → i < length t → NoneFrom N s (suc i) → is_gated (reach_at N i).state ≡ true → get_or (ways t s) i 3 ≡ 1 → NoneFrom N s i
    none-turned i l more g one = none_from i l more (λ q e f up. omega (arith, plan-gate-small N q i e l g))

    pub none-next : NoneFrom N s 0 → next_plan N s ≡ none
    none-next f = next-never N s (λ q e later. f q e later (λ j l. absurd (not-suc-le-zero l)))

    module _ (fs : List ℕ) (binds : Binds N fs (ways t s)) where
      -- a plan that is alike below i fits the ways oriented so far
      pub alike-fits : (q : List ℕ) → is_plan N q ≡ true → (i : ℕ) → i ≤ length t → Alike N s q i → Fits N q (up_to fs (ways t s) i)
      alike-fits q e i l f j jl = go (dec_lt j i)
        where
          go : Dec (j < i) → (get_or (up_to fs (ways t s) i) j 3 ≡ 2) ⊎ (get_or (up_to fs (ways t s) i) j 3 ≡ get_or (ways t q) j 3)
          go (yes k) = inr (oriented-below fs binds.tries i j l k ∙ sym (f j k))
          go (no k) =
              ⊎_elim
              (λ y. inl (oriented-tried fs binds.tries i j l (omega arith) jl y))
              (λ n. inr (oriented-held fs binds.tries i j l jl n ∙ sym (binds.bound j jl n q e)))
              (decide (is_tried fs j))

      pub none-held : (i : ℕ) → i < length t → NoneFrom N s (suc i) → is_tried fs i ≡ false → NoneFrom N s i
      none-held i l more n = none_from i l more (λ q e f up. omega (arith, binds.bound i l n q e))

      pub none-lost : (i : ℕ) → i < length t → NoneFrom N s (suc i) → is_gated (reach_at N i).state ≡ true → strongly_connected (basins_of N) (arcs t (set (up_to fs (ways t s) i) i 1)) ≡ false → NoneFrom N s i
      none-lost i l more g lost =
          none_from i l more
          (λ q e f up.
          let one : get_or (ways t q) i 3 ≡ 1 = omega (arith, plan-gate-small N q i e l g) in
          clash (fits-strong N q (set (up_to fs (ways t s) i) i 1) e (fits-set N q (up_to fs (ways t s) i) i 1 (omega (arith, oriented-length fs binds.tries i (omega arith))) (alike-fits q e i (omega arith) f) one)) lost)

      -- where the gate i cannot be oriented as s has it, no plan is alike below suc i
      pub none-stopped : (i : ℕ) → i < length t → strongly_connected (basins_of N) (arcs t (up_to fs (ways t s) (suc i))) ≡ false → NoneFrom N s (suc i)
      none-stopped i l lost q e later f = clash (fits-strong N q (up_to fs (ways t s) (suc i)) e (alike-fits q e (suc i) l f)) lost

      -- The least plan that parts upwards at the last gate at which one can is the next plan.
      pub least-next : (i : ℕ) → i < length t → NoneFrom N s (suc i) → is_gated (reach_at N i).state ≡ true → get_or (ways t s) i 3 ≡ 0 → (r : List ℕ) → LeastPlan N (set (up_to fs (ways t s) i) i 1) r → next_plan N s ≡ some r
      least-next i l more g zero-at r m = next-unique N s r m.is-plan later earliest
        where
          room : i < length (up_to fs (ways t s) i)
          room = omega (arith, oriented-length fs binds.tries i (omega arith))

          r-at : get_or (ways t r) i 3 ≡ 1
          r-at = fits-at N r (up_to fs (ways t s) i) i 1 room l (omega arith) m.fits

          r-alike : (j : ℕ) → j < i → get_or (ways t s) j 3 ≡ get_or (ways t r) j 3
          r-alike j k =
              ⊎_elim
              (λ y.
              ⊎_elim
              (λ two. absurd (omega (arith, two, get_or-set_other (up_to fs (ways t s) i) i j 1 3 (omega arith), oriented-below fs binds.tries i j (omega arith) k, setting-gate j k y)))
              (λ same. sym (oriented-below fs binds.tries i j (omega arith) k) ∙ sym (get_or-set_other (up_to fs (ways t s) i) i j 1 3 (omega arith)) ∙ same)
              (m.fits j (omega arith)))
              (λ n. same-plain N s r j (omega arith) n)
              (decide (is_gated (reach_at N j).state))
            where
              setting-gate : (j : ℕ) → j < i → is_gated (reach_at N j).state ≡ true → get_or (ways t s) j 3 ≤ 1
              setting-gate j k y = gate-byte N s fit j (omega arith) y

          later : before s r ≡ true
          later = sym (order r m.is-plan) ∙ before_at (ways t s) (ways t r) i 3 (omega (arith, length-ways t s)) (omega (arith, length-ways t r)) r-alike (omega (arith, r-at, zero-at))

          earliest : (q : List ℕ) → is_plan N q ≡ true → before s q ≡ true → before q r ≡ false
          earliest q e after-s = Bool-eq-false {b = before q r} (λ below-r. go below-r (ℕ_discrete (get_or (ways t q) i 3) (get_or (ways t s) i 3)))
            where
              q-alike : before q r ≡ true → Alike N s q i
              q-alike below-r =
                  between (ways t s) (ways t q) (ways t r) i 3 r-alike (order q e ∙ after-s)
                  (ways-order 0 t q r (setting-length N q (plan-setting N q e)) (setting-length N r (plan-setting N r m.is-plan)) ∙ below-r)

              go : before q r ≡ true → Dec (get_or (ways t q) i 3 ≡ get_or (ways t s) i 3) → ⊥
              go below-r (yes same) = more q e after-s (alike-more q i (q-alike below-r) same)
              go below-r (no n) =
                  let one : get_or (ways t q) i 3 ≡ 1 = omega (arith, plan-gate-small N q i e l g, parts q i l e after-s (q-alike below-r) n) in
                  clash below-r (m.least q e (fits-set N q (up_to fs (ways t s) i) i 1 room (alike-fits q e i (omega arith) (q-alike below-r)) one))
