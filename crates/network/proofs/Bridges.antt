-- Lone reaches: the side that only one reach crosses, that it stands in the way of every plan, and that it is the only one.
-- Assumes nothing.
use Prim.Native.Nat.{ℕ, zero, suc, ◌≤◌, ◌<◌}
use native.Mathlib.Omega.{arith}
use native.Mathlib.Decide.{ℕ_discrete, dec_lt}
use mathlib.Core.Path.{◌≡◌, refl, sym, ap, subst, subst⁻¹, ◌∙◌}
use mathlib.Core.Bool.{Bool, true, false, not, ◌&&◌, beq, false≢true}
use mathlib.Core.Logic.{inl, inr, ⊎_elim}
use mathlib.Core.Option
use mathlib.Core.Option.{Option, none, some}
use mathlib.Core.List.Memᴰ
use mathlib.Core.List.{List, [], ◌∷◌, map, Memᴰ}
use lib.ListN.{length, get_or, get_or-eq_default}
use lib.Dec.{eqb}
use borrow.Author.Tests.{eqb-true, eq-eqb, ne_eqb, not-false, not-true}
use mathlib.Mathlib.Data.Bool.Basic.{and_elim_left, and_elim_right, and_intro}
use Rattle.network.specs.declared.Reach.{Reach}
use Rattle.lists.specs.Lists.{range, some?, find, keep, elem}
use Rattle.network.specs.Networks.{Network, in_service, basins_of, lowest_basin, Accepted}
use Rattle.network.specs.Settings.{is_gated, gate_count, is_setting}
use Rattle.network.specs.Orientations.{Arc, arc, passing, arcs, ways, arcs_under}
use Rattle.network.specs.Plans.{strongly_connected, strongly_connected_under, is_plan}
use Rattle.network.specs.Bridges.{sides, is_cut, crosses_by, crosses, no_reach, reach_at, crosses_alone, is_bridge}
use Rattle.network.specs.Replies.{bridge_side}
use Rattle.network.specs.Certificates.{Alone}
use Rattle.lists.proofs.Bools.{decide, clash, beq-true, beq-make, both-differ, beq-not}
use Rattle.lists.proofs.Searches.{every-at, every-make, some-make, some-has, find-some, find_none, elem-keep}
use Rattle.lists.proofs.Ranges.{range-has, range-in}
use Rattle.network.proofs.Walks.{walk_inside}
use Rattle.network.proofs.Cuts.{strong-walks, one-crossing}
use Rattle.network.proofs.Ways.{passing_at, arcs-in, gate-small, gated-in-service, ShutOut, shut_out, arc-in-service}
use Rattle.network.proofs.Networks.{end-a-in, end-b-in, lowest-in, reach-alike, arc-alike}

-- ---- sides

-- the basins that pass a test are a side
pub side-of : (S : ℕ → Bool) (bs : List ℕ) → Memᴰ (keep S bs) (sides bs)
side-of S [] = Memᴰ.head refl
side-of S (b ∷ bs) = go (S b) refl (side-of S bs)
  where
    go : (x : Bool) → S b ≡ x → Memᴰ (keep S bs) (sides bs) → Memᴰ (keep S (b ∷ bs)) (sides (b ∷ bs))
    go true e m = rw e (Memᴰ.append_left (sides bs) (Memᴰ.map (λ X. b ∷ X) m))
    go false e m = rw e (Memᴰ.append_right (map (λ X. b ∷ X) (sides bs)) m)

-- a side holds basins only
pub side-basins : (bs S : List ℕ) → Memᴰ S (sides bs) → (b : ℕ) → Memᴰ b S → Memᴰ b bs
side-basins [] S m b mb = ⊎_elim (λ e. absurd (Memᴰ.not-nil (subst (λ (X : List ℕ). Memᴰ b X) e mb))) (λ n. absurd (Memᴰ.not-nil n)) (Memᴰ.cases_cons m)
side-basins (x ∷ bs) S m b mb =
    ⊎_elim
    (λ own.
    let k = Memᴰ.of_map (λ X. x ∷ X) (sides bs) own in
    ⊎_elim
    (λ e. Memᴰ.head e)
    (λ mb'. Memᴰ.tail (side-basins bs k.0 k.1 b mb'))
    (Memᴰ.cases_cons (subst⁻¹ (λ (X : List ℕ). Memᴰ b X) k.2 mb)))
    (λ other. Memᴰ.tail (side-basins bs S other b mb))
    (Memᴰ.append_cases (map (λ X. x ∷ X) (sides bs)) m)

-- ---- crossing

-- a reach that is shut, or has its ends on one side, does not cross
pub uncrossed : (S : ℕ → Bool) (r : Reach) → (in_service r.state ≡ true → S r.a ≡ S r.b) → crosses_by S r ≡ false
uncrossed S r f = go (in_service r.state) refl
  where
    go : (x : Bool) → in_service r.state ≡ x → x && not (beq (S r.a) (S r.b)) ≡ false
    go true e = ap not (beq-make _ _ (f e))
    go false e = refl

-- a reach that crosses has its ends on both sides
pub crossing-ends : (S : ℕ → Bool) (r : Reach) → crosses_by S r ≡ true → not (beq (S r.a) (S r.b)) ≡ true
crossing-ends S r e = and_elim_right (in_service r.state) _ e

-- a reach in service that does not cross has them on one
pub uncrossed-ends : (S : ℕ → Bool) (r : Reach) → crosses_by S r ≡ false → in_service r.state ≡ true → S r.a ≡ S r.b
uncrossed-ends S r e serves = beq-true (S r.a) (S r.b) (not-false _ (rw serves at e))

-- tests that agree on both ends, if the reach is in service, are crossed alike
crossed-same : (S S' : ℕ → Bool) (r : Reach) → (in_service r.state ≡ true → (S' r.a ≡ S r.a) × (S' r.b ≡ S r.b)) → crosses_by S' r ≡ crosses_by S r
crossed-same S S' r f = go (in_service r.state) refl
  where
    go : (x : Bool) → in_service r.state ≡ x → x && not (beq (S' r.a) (S' r.b)) ≡ x && not (beq (S r.a) (S r.b))
    go true e = rw ((f e).0, (f e).1)
    go false e = refl

-- ---- the only reach that crosses

-- the test and the facts
pub alone-facts : (N : Network) (S : List ℕ) (i : ℕ) → i < length N.reaches → crosses_alone N S i ≡ true → Alone N (λ b. elem b S) i
unfolding crosses_alone
alone-facts N S i l e =
    let at : (j : ℕ) → j < length N.reaches → crosses S (reach_at N j) ≡ eqb j i =
    λ j k. beq-true (crosses S (reach_at N j)) (eqb j i) (every-at (λ j. beq (crosses S (reach_at N j)) (eqb j i)) e (range-has 0 (length N.reaches) (omega arith) (omega arith))) in
    record { crossing = at i l ∙ eq-eqb i i refl; others = λ j k n. at j k ∙ ne_eqb j i n }

pub alone-test : (N : Network) (S : List ℕ) (i : ℕ) → Alone N (λ b. elem b S) i → crosses_alone N S i ≡ true
unfolding crosses_alone
alone-test N S i f = every-make (λ j. beq (crosses S (reach_at N j)) (eqb j i)) (range 0 (length N.reaches)) one
  where
    one : (j : ℕ) → Memᴰ j (range 0 (length N.reaches)) → beq (crosses S (reach_at N j)) (eqb j i) ≡ true
    one j m = go (ℕ_discrete j i)
      where
        go : Dec (j ≡ i) → beq (crosses S (reach_at N j)) (eqb j i) ≡ true
        go (yes e) = beq-make (crosses S (reach_at N j)) (eqb j i) (subst⁻¹ (λ (x : ℕ). crosses S (reach_at N x) ≡ true) e f.crossing ∙ sym (eq-eqb j i e))
        go (no n) = beq-make (crosses S (reach_at N j)) (eqb j i) (f.others j (omega (arith, (range-in 0 (length N.reaches) m).1)) n ∙ sym (ne_eqb j i n))

-- a side that agrees with S on the basins that count is crossed like S
pub alone-same : (N : Network) → Accepted N → (S S' : ℕ → Bool) (i : ℕ) → i < length N.reaches → ((b : ℕ) → Memᴰ b (basins_of N) → S' b ≡ S b) → Alone N S i → Alone N S' i
alone-same N ok S S' i l same f =
    let alike : (j : ℕ) → j < length N.reaches → crosses_by S' (reach_at N j) ≡ crosses_by S (reach_at N j) =
    λ j k. crossed-same S S' (reach_at N j) (λ e. (same _ (end-a-in N ok j k e), same _ (end-b-in N ok j k e))) in
    record { crossing = alike i l ∙ f.crossing; others = λ j k n. alike j k ∙ f.others j k n }

-- ---- lone reaches

-- a reach past the end of the table is not lone
pub bridge-below : (N : Network) (i : ℕ) → is_bridge N i ≡ true → i < length N.reaches
unfolding is_bridge
bridge-below N i e = go (dec_lt i (length N.reaches))
  where
    go : Dec (i < length N.reaches) → i < length N.reaches
    go (yes l) = l
    go (no n) =
        clash (and_elim_left (is_gated (reach_at N i).state) _ e)
        (ap (λ (r : Reach). is_gated r.state) (get_or-eq_default N.reaches no_reach {n = i} (omega arith)))

pub bridge-gated : (N : Network) (i : ℕ) → is_bridge N i ≡ true → is_gated (reach_at N i).state ≡ true
unfolding is_bridge
bridge-gated N i e = and_elim_left (is_gated (reach_at N i).state) _ e

-- a division that reach i crosses alone
pub record Cut (N : Network) (i : ℕ) (S : List ℕ) : Type 0 where
  pub side : Memᴰ S (sides (basins_of N))
  pub division : is_cut (basins_of N) S ≡ true
  pub alone : crosses_alone N S i ≡ true

pub bridge-cut : (N : Network) (i : ℕ) → is_bridge N i ≡ true → (S : List ℕ) × Cut N i S
unfolding is_bridge
bridge-cut N i e =
    let test : List ℕ → Bool = λ S. is_cut (basins_of N) S && crosses_alone N S i in
    let k = some-has test (sides (basins_of N)) (and_elim_right (is_gated (reach_at N i).state) _ e) in
    (k.0, record { side = k.1; division = and_elim_left (is_cut (basins_of N) k.0) _ k.2; alone = and_elim_right (is_cut (basins_of N) k.0) _ k.2 })

-- the basins that pass a test S are such a division if reach i alone crosses S
pub cut_of : (N : Network) → Accepted N → (i : ℕ) → i < length N.reaches → (S : ℕ → Bool) → Alone N S i → Cut N i (keep S (basins_of N))
cut_of N ok i l S f =
    record { side = side-of S bs; division = division; alone = alone-test N (keep S bs) i (alone-same N ok S (λ b. elem b (keep S bs)) i l (λ b m. elem-keep S m) f) }
  where
    bs : List ℕ
    bs = basins_of N

    serves : in_service (reach_at N i).state ≡ true
    serves = and_elim_left (in_service (reach_at N i).state) _ f.crossing

    ina : Memᴰ (reach_at N i).a (basins_of N)
    ina = end-a-in N ok i l serves

    inb : Memᴰ (reach_at N i).b (basins_of N)
    inb = end-b-in N ok i l serves

    inside : (x y : ℕ) → Memᴰ x (basins_of N) → Memᴰ y (basins_of N) → S x ≡ true → S y ≡ false → is_cut (basins_of N) (keep S (basins_of N)) ≡ true
    inside x y mx my px py =
        and_intro
        (some-make (λ b. elem b (keep S (basins_of N))) mx (elem-keep S mx ∙ px))
        (some-make (λ b. not (elem b (keep S (basins_of N)))) my (ap not (elem-keep S my ∙ py)))

    go : (x y : Bool) → S (reach_at N i).a ≡ x → S (reach_at N i).b ≡ y → not (beq x y) ≡ true → is_cut (basins_of N) (keep S (basins_of N)) ≡ true
    go true true ea eb e = absurd (false≢true e)
    go true false ea eb e = inside _ _ ina inb ea eb
    go false true ea eb e = inside _ _ inb ina eb ea
    go false false ea eb e = absurd (false≢true e)

    division : is_cut (basins_of N) (keep S (basins_of N)) ≡ true
    division = go (S (reach_at N i).a) (S (reach_at N i).b) refl refl (crossing-ends S (reach_at N i) f.crossing)

pub bridge-make : (N : Network) → Accepted N → (i : ℕ) → i < length N.reaches → is_gated (reach_at N i).state ≡ true → (S : ℕ → Bool) → Alone N S i → is_bridge N i ≡ true
unfolding is_bridge
bridge-make N ok i l g S f =
    let c = cut_of N ok i l S f in
    and_intro g (some-make (λ S. is_cut (basins_of N) S && crosses_alone N S i) c.side (and_intro c.division c.alone))

-- ---- no plan across a cut

-- a gate that is hung passes one arc
pub one-arc : (x a b : ℕ) → x ≤ 1 → (p : ℕ) × (q : ℕ) × ((y : Arc) → Memᴰ y (passing x a b) → y ≡ arc p q)
one-arc zero a b l = (a, b, λ y m. ⊎_elim (λ e. e) (λ n. absurd (Memᴰ.not-nil n)) (Memᴰ.cases_cons m))
one-arc (suc zero) a b l = (b, a, λ y m. ⊎_elim (λ e. e) (λ n. absurd (Memᴰ.not-nil n)) (Memᴰ.cases_cons m))
one-arc (suc (suc x)) a b l = absurd (omega arith)

pub plan-gate-small : (N : Network) (s : List ℕ) (i : ℕ) → is_plan N s ≡ true → i < length N.reaches → is_gated (reach_at N i).state ≡ true → get_or (ways N.reaches s) i 3 ≤ 1
unfolding is_plan is_setting
plan-gate-small N s i e l g =
    let set : is_setting N s ≡ true = and_elim_left (is_setting N s) _ e in
    gate-small N.reaches s i (eqb-true (length s) (gate_count N) (and_elim_left (eqb (length s) (gate_count N)) _ set)) (and_elim_right (eqb (length s) (gate_count N)) _ set) l g

-- If a reach alone crosses a division and passes one way only, not everything reaches everything.
pub cut_parts : (N : Network) (i : ℕ) (S : List ℕ) → i < length N.reaches → Cut N i S → (ws : List ℕ) → ShutOut N.reaches ws → get_or ws i 3 ≤ 1 → strongly_connected (basins_of N) (arcs N.reaches ws) ≡ true → ⊥
cut_parts N i S l cut ws out small e =
    let f = alone-facts N S i l cut.alone in
    let one = one-arc (get_or ws i 3) (reach_at N i).a (reach_at N i).b small in
    let u = some-has (λ b. elem b S) (basins_of N) (and_elim_left (some? (λ b. elem b S) (basins_of N)) _ cut.division) in
    let v = some-has (λ b. not (elem b S)) (basins_of N) (and_elim_right (some? (λ b. elem b S) (basins_of N)) _ cut.division) in
    let str = strong-walks (basins_of N) (arcs N.reaches ws) e in
    let alike : elem u.0 S ≡ elem v.0 S =
    one-crossing (arcs N.reaches ws) (λ b. elem b S) one.0 one.1 u.0 v.0
    (λ c d m.
    let src = arcs-in N.reaches ws (arc c d) m in
    elim (ℕ_discrete src.reach i) [
      | yes same ↦ inl (one.2 (arc c d) (subst (λ (j : ℕ). Memᴰ (arc c d) (passing_at N.reaches j (get_or ws j 3))) same src.passes))
      | no other ↦ inr (reach-alike (λ b. elem b S) (get_or ws src.reach 3) _ _ c d
          (uncrossed-ends (λ b. elem b S) (reach_at N src.reach) (f.others src.reach src.below other) (arc-in-service N.reaches ws out src.reach src.below (arc c d) src.passes)) src.passes)
    ])
    (str u.0 v.0 u.1 v.1) (str v.0 u.0 v.1 u.1) in
    clash (sym alike ∙ u.2) (not-true (elem v.0 S) v.2)

-- so no setting is a plan if a gated reach does
pub cut-blocks : (N : Network) (i : ℕ) (S : List ℕ) → i < length N.reaches → is_gated (reach_at N i).state ≡ true → Cut N i S → (s : List ℕ) → is_plan N s ≡ true → ⊥
unfolding is_plan strongly_connected_under
cut-blocks N i S l g cut s e = cut_parts N i S l cut (ways N.reaches s) (shut_out N.reaches s) (plan-gate-small N s i e l g) (and_elim_right (is_setting N s) _ e)

-- a lone reach that is hung, whatever else is
pub bridge-parts : (N : Network) (i : ℕ) → is_bridge N i ≡ true → (ws : List ℕ) → ShutOut N.reaches ws → get_or ws i 3 ≤ 1 → strongly_connected (basins_of N) (arcs N.reaches ws) ≡ true → ⊥
bridge-parts N i e = let c = bridge-cut N i e in cut_parts N i c.0 (bridge-below N i e) c.1

pub bridge-blocks : (N : Network) (i : ℕ) → is_bridge N i ≡ true → (s : List ℕ) → is_plan N s ≡ true → ⊥
bridge-blocks N i e = let c = bridge-cut N i e in cut-blocks N i c.0 (bridge-below N i e) (bridge-gated N i e) c.1

-- ---- the division is the only one

pub cut-unique : (N : Network) (h : List ℕ) → strongly_connected_under N h ≡ true → (i : ℕ) (S S' : ℕ → Bool) → Alone N S i → Alone N S' i → S (lowest_basin N) ≡ S' (lowest_basin N) → (b : ℕ) → Memᴰ b (basins_of N) → S b ≡ S' b
unfolding strongly_connected_under
cut-unique N h str i S S' f f' low b m =
    beq-true (S b) (S' b)
    (walk_inside (λ x. beq (S x) (S' x)) closed (strong-walks (basins_of N) (arcs_under N h) str (lowest_basin N) b (lowest-in N m) m) (beq-make (S (lowest_basin N)) (S' (lowest_basin N)) low))
  where
    alike : (j : ℕ) → j < length N.reaches → in_service (reach_at N j).state ≡ true → beq (S (reach_at N j).a) (S' (reach_at N j).a) ≡ beq (S (reach_at N j).b) (S' (reach_at N j).b)
    alike j l serves = go (ℕ_discrete j i)
      where
        go : Dec (j ≡ i) → beq (S (reach_at N j).a) (S' (reach_at N j).a) ≡ beq (S (reach_at N j).b) (S' (reach_at N j).b)
        go (yes e) =
            subst⁻¹ (λ (x : ℕ). beq (S (reach_at N x).a) (S' (reach_at N x).a) ≡ beq (S (reach_at N x).b) (S' (reach_at N x).b)) e
            (both-differ (S (reach_at N i).a) (S (reach_at N i).b) (S' (reach_at N i).a) (S' (reach_at N i).b) (crossing-ends S (reach_at N i) f.crossing) (crossing-ends S' (reach_at N i) f'.crossing))
        go (no n) = rw (uncrossed-ends S (reach_at N j) (f.others j l n) serves, uncrossed-ends S' (reach_at N j) (f'.others j l n) serves)

    closed : (c d : ℕ) → Memᴰ (arc c d) (arcs_under N h) → beq (S c) (S' c) ≡ true → beq (S d) (S' d) ≡ true
    closed c d m' e = sym (arc-alike (λ x. beq (S x) (S' x)) N.reaches (ways N.reaches h) (shut_out N.reaches h) alike c d m') ∙ e

-- ---- the side of a lone reach without the lowest wet basin

pub alone_rest : (N : Network) (S : ℕ → Bool) (i : ℕ) → Alone N S i → Alone N (λ b. not (S b)) i
alone_rest N S i f = record { crossing = alike i ∙ f.crossing; others = λ j l n. alike j ∙ f.others j l n }
  where
    alike : (j : ℕ) → crosses_by (λ b. not (S b)) (reach_at N j) ≡ crosses_by S (reach_at N j)
    alike j = rw (beq-not (S (reach_at N j).a) (S (reach_at N j).b))

pub record LoneSide (N : Network) (i : ℕ) (S : List ℕ) : Type 0 where
  pub cut : Cut N i S
  pub without : elem (lowest_basin N) S ≡ false

pub bridge-side : (N : Network) → Accepted N → (i : ℕ) → is_bridge N i ≡ true → LoneSide N i (bridge_side N i)
unfolding bridge_side
bridge-side N ok i e = found (find test (sides (basins_of N))) refl
  where
    test : List ℕ → Bool
    test S = not (elem (lowest_basin N) S) && (is_cut (basins_of N) S && crosses_alone N S i)

    passing-test : (S : List ℕ) → Cut N i S → elem (lowest_basin N) S ≡ false → find test (sides (basins_of N)) ≡ none → ⊥
    passing-test S c w n = clash (and_intro (ap not w) (and_intro c.division c.alone)) (find_none test n c.side)

    some-side : find test (sides (basins_of N)) ≡ none → ⊥
    some-side n =
        let c = bridge-cut N i e in
        let f = alone-facts N c.0 i (bridge-below N i e) c.1.alone in
        ⊎_elim
        (λ y.
        passing-test (keep (λ b. not (elem b c.0)) (basins_of N)) (cut_of N ok i (bridge-below N i e) (λ b. not (elem b c.0)) (alone_rest N (λ b. elem b c.0) i f))
        (elem-keep (λ b. not (elem b c.0)) (lowest-in N (end-a-in N ok i (bridge-below N i e) (gated-in-service (reach_at N i).state (bridge-gated N i e)))) ∙ ap not y) n)
        (λ w. passing-test c.0 c.1 w n)
        (decide (elem (lowest_basin N) c.0))

    found : (o : Option (List ℕ)) → find test (sides (basins_of N)) ≡ o → LoneSide N i (Option.get_or o [])
    found none n = absurd (some-side n)
    found (some S) y =
        let k = find-some test (sides (basins_of N)) y in
        record {
          cut =
              record {
                side = k.0;
                division = and_elim_left (is_cut (basins_of N) S) _ (and_elim_right (not (elem (lowest_basin N) S)) _ k.1);
                alone = and_elim_right (is_cut (basins_of N) S) _ (and_elim_right (not (elem (lowest_basin N) S)) _ k.1);
              };
          without = not-true (elem (lowest_basin N) S) (and_elim_left (not (elem (lowest_basin N) S)) _ k.1);
        }
