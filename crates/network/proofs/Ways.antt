-- The arcs of a table, reach by reach: which arcs there are, what one reach adds, and what a gate's byte changes.
-- Assumes nothing.
use Prim.Native.Nat.{ℕ, zero, suc, ◌+◌, ◌≤◌, ◌<◌}
use native.Mathlib.Nat.{not-suc-le-zero, le_of_suc-le-suc}
use native.Mathlib.Omega.{arith}
use native.Mathlib.Decide.{ℕ_discrete, dec_lt}
use mathlib.Core.Path.{◌≡◌, refl, sym, ap, subst, ◌∙◌}
use mathlib.Core.Bool.{true, false, true≢false, false≢true}
use mathlib.Core.Logic.{◌⊎◌, inl, inr, ⊎_elim}
use mathlib.Core.List.{List, [], ◌∷◌, Memᴰ}
use lib.ListN.{length, get_or, set, drop, length-set, get_or-eq_default}
use lib.Seq.{get_or-set_same, get_or-set_other}
use lib.Dec.{leb}
use borrow.Author.Tests.{leb-true}
use Rattle.lists.proofs.Searches.{every-get_or}
use Rattle.network.specs.declared.Kind.TheVariants.{Gated, Flap, TwoWay}
use Rattle.network.specs.declared.State.{State}
use Rattle.network.specs.declared.State.TheVariants.{InService, Shut}
use Rattle.network.specs.declared.Reach.{Reach}
use Rattle.network.specs.Networks.{in_service}
use Rattle.network.specs.Settings.{is_gated, gates_from}
use Rattle.network.specs.Orientations.{Arc, way, after, ways, passing, arcs}
use Rattle.network.specs.Bridges.{no_reach}
use Rattle.lists.specs.Lists.{every}
use Rattle.lists.proofs.Bools.{decide}
use Rattle.network.proofs.Walks.{Within}

-- ---- one reach of a table

-- the arcs that the reach with number i would pass if its way were x
abbrev pub passing_at : List Reach → ℕ → ℕ → List Arc
passing_at t i x = passing x (get_or t i no_reach).a (get_or t i no_reach).b

pub arcs-has : (t : List Reach) (ws : List ℕ) (i : ℕ) (y : Arc) → i < length t → Memᴰ y (passing_at t i (get_or ws i 3)) → Memᴰ y (arcs t ws)
arcs-has [] ws i y l m = absurd (not-suc-le-zero l)
arcs-has (r ∷ t) [] i y l m = absurd (mathlib.Core.List.Memᴰ.not-nil m)
arcs-has (r ∷ t) (w ∷ ws) zero y l m = mathlib.Core.List.Memᴰ.append_left (arcs t ws) m
arcs-has (r ∷ t) (w ∷ ws) (suc i) y l m = mathlib.Core.List.Memᴰ.append_right (passing w r.a r.b) (arcs-has t ws i y (le_of_suc-le-suc l) m)

-- where an arc comes from: the number of a reach that passes it
pub record Source (t : List Reach) (ws : List ℕ) (y : Arc) : Type 0 where
  pub reach : ℕ
  pub below : reach < length t
  pub passes : Memᴰ y (passing_at t reach (get_or ws reach 3))

pub arcs-in : (t : List Reach) (ws : List ℕ) (y : Arc) → Memᴰ y (arcs t ws) → Source t ws y
arcs-in [] ws y m = absurd (mathlib.Core.List.Memᴰ.not-nil m)
arcs-in (r ∷ t) [] y m = absurd (mathlib.Core.List.Memᴰ.not-nil m)
arcs-in (r ∷ t) (w ∷ ws) y m = pick (arcs-in t ws y) (mathlib.Core.List.Memᴰ.append_cases (passing w r.a r.b) m)
  where
    pick : (Memᴰ y (arcs t ws) → Source t ws y) → Memᴰ y (passing w r.a r.b) ⊎ Memᴰ y (arcs t ws) → Source (r ∷ t) (w ∷ ws) y
    pick f (inl here) = record { reach = 0; below = omega arith; passes = here }
    pick f (inr there) = let s = f there in record { reach = suc s.reach; below = omega arith; passes = s.passes }

-- with the reach i in way x there are just its arcs and those of the table without it (way 3)
pub split-in : (t : List Reach) (ws : List ℕ) (i x : ℕ) (y : Arc) → Memᴰ y (arcs t (set ws i x)) → Memᴰ y (passing_at t i x) ⊎ Memᴰ y (arcs t (set ws i 3))
split-in [] ws i x y m = absurd (mathlib.Core.List.Memᴰ.not-nil m)
split-in (r ∷ t) [] i x y m = absurd (mathlib.Core.List.Memᴰ.not-nil m)
split-in (r ∷ t) (w ∷ ws) zero x y m = mathlib.Core.List.Memᴰ.append_cases (passing x r.a r.b) m
split-in (r ∷ t) (w ∷ ws) (suc i) x y m =
    let rest : Memᴰ y (arcs t (set ws i x)) → Memᴰ y (passing_at t i x) ⊎ Memᴰ y (arcs t (set ws i 3)) = split-in t ws i x y in
    ⊎_elim
    (λ here. inr (mathlib.Core.List.Memᴰ.append_left (arcs t (set ws i 3)) here))
    (λ there. ⊎_elim (λ p. inl p) (λ q. inr (mathlib.Core.List.Memᴰ.append_right (passing w r.a r.b) q)) (rest there))
    (mathlib.Core.List.Memᴰ.append_cases (passing w r.a r.b) m)

pub split-own : (t : List Reach) (ws : List ℕ) (i x : ℕ) → i < length t → i < length ws → Within (passing_at t i x) (arcs t (set ws i x))
split-own [] ws i x l k y m = absurd (not-suc-le-zero l)
split-own (r ∷ t) [] i x l k y m = absurd (not-suc-le-zero k)
split-own (r ∷ t) (w ∷ ws) zero x l k y m = mathlib.Core.List.Memᴰ.append_left (arcs t ws) m
split-own (r ∷ t) (w ∷ ws) (suc i) x l k y m = mathlib.Core.List.Memᴰ.append_right (passing w r.a r.b) (split-own t ws i x (le_of_suc-le-suc l) (le_of_suc-le-suc k) y m)

pub split_rest : (t : List Reach) (ws : List ℕ) (i x : ℕ) → Within (arcs t (set ws i 3)) (arcs t (set ws i x))
split_rest [] ws i x y m = m
split_rest (r ∷ t) [] i x y m = m
split_rest (r ∷ t) (w ∷ ws) zero x y m = mathlib.Core.List.Memᴰ.append_right (passing x r.a r.b) m
split_rest (r ∷ t) (w ∷ ws) (suc i) x y m =
    let rest : Within (arcs t (set ws i 3)) (arcs t (set ws i x)) = split_rest t ws i x in
    ⊎_elim
    (λ here. mathlib.Core.List.Memᴰ.append_left (arcs t (set ws i x)) here)
    (λ there. mathlib.Core.List.Memᴰ.append_right (passing w r.a r.b) (rest y there))
    (mathlib.Core.List.Memᴰ.append_cases (passing w r.a r.b) m)

-- ---- ways and partial orientations

pub length-ways : (t : List Reach) (h : List ℕ) → length (ways t h) ≡ length t
length-ways [] h = refl
length-ways (r ∷ t) h = ap suc (length-ways t (after r.state h))

-- a reach that is no gate has the way of its state, whatever the partial orientation
pub plain_here : (d : State) (h : List ℕ) → is_gated d ≡ false → way d h ≡ way d []
plain_here (InService Gated) h e = absurd (true≢false e)
plain_here (InService Flap) h e = refl
plain_here (InService TwoWay) h e = refl
plain_here (Shut d) h e = refl

-- and has no byte
pub plain-after : (d : State) (h : List ℕ) → is_gated d ≡ false → after d h ≡ h
plain-after (InService Gated) h e = absurd (true≢false e)
plain-after (InService Flap) h e = refl
plain-after (InService TwoWay) h e = refl
plain-after (Shut d) h e = refl

-- the gate k of a table: the number of its reach, and what its byte decides
pub record Gate (o : ℕ) (t : List Reach) (h : List ℕ) (k : ℕ) : Type 0 where
  pub reach : ℕ
  pub below : reach < length t
  pub numbered : get_or (gates_from o t) k 0 ≡ o + reach
  pub gated : is_gated (get_or t reach no_reach).state ≡ true
  pub byte : get_or (ways t h) reach 3 ≡ get_or h k 2
  pub turn : (x : ℕ) → k < length h → ways t (set h k x) ≡ set (ways t h) reach x

abbrev pub reach_of : State → ℕ → ℕ → Reach
reach_of d a b = record { state = d; a = a; b = b }

-- a gate of the tail is a gate of the table, after a reach that is no gate
passed : (d : State) (a b o : ℕ) (t : List Reach) (h : List ℕ) (k : ℕ) → is_gated d ≡ false → Gate (suc o) t h k → Gate o (reach_of d a b ∷ t) h k
passed d a b o t h k e g =
    record {
      reach = suc g.reach;
      below = omega (arith, g.below);
      numbered = rw e (g.numbered ∙ omega arith);
      gated = g.gated;
      byte = rw (plain-after d h e) g.byte;
      turn = λ x l. rw (plain-after d (set h k x) e, plain-after d h e, plain_here d (set h k x) e, plain_here d h e) (ap (λ (ws : List ℕ). way d [] ∷ ws) (g.turn x l));
    }

first-gate : (a b o : ℕ) (t : List Reach) (h : List ℕ) → Gate o (reach_of (InService Gated) a b ∷ t) h 0
first-gate a b o t [] = record { reach = 0; below = omega arith; numbered = omega arith; gated = refl; byte = refl; turn = λ x l. absurd (not-suc-le-zero l) }
first-gate a b o t (y ∷ h) = record { reach = 0; below = omega arith; numbered = omega arith; gated = refl; byte = refl; turn = λ x l. refl }

later-gate : (a b o : ℕ) (t : List Reach) (h : List ℕ) (k : ℕ) → Gate (suc o) t (drop 1 h) k → Gate o (reach_of (InService Gated) a b ∷ t) h (suc k)
later-gate a b o t [] k g =
    record { reach = suc g.reach; below = omega (arith, g.below); numbered = g.numbered ∙ omega arith; gated = g.gated; byte = g.byte; turn = λ x l. absurd (not-suc-le-zero l) }
later-gate a b o t (y ∷ h) k g =
    record {
      reach = suc g.reach;
      below = omega (arith, g.below);
      numbered = g.numbered ∙ omega arith;
      gated = g.gated;
      byte = g.byte;
      turn = λ x l. ap (λ (l : List ℕ). y ∷ l) (g.turn x (le_of_suc-le-suc l));
    }

gate-step : (d : State) (a b o : ℕ) (t : List Reach) (h : List ℕ) (k : ℕ) → ((h' : List ℕ) (k' : ℕ) → k' < length (gates_from (suc o) t) → Gate (suc o) t h' k') → k < length (gates_from o (reach_of d a b ∷ t)) → Gate o (reach_of d a b ∷ t) h k
gate-step (InService Gated) a b o t h zero f l = first-gate a b o t h
gate-step (InService Gated) a b o t h (suc k) f l = later-gate a b o t h k (f (drop 1 h) k (le_of_suc-le-suc l))
gate-step (InService Flap) a b o t h k f l = passed (InService Flap) a b o t h k refl (f h k l)
gate-step (InService TwoWay) a b o t h k f l = passed (InService TwoWay) a b o t h k refl (f h k l)
gate-step (Shut d) a b o t h k f l = passed (Shut d) a b o t h k refl (f h k l)

pub gate-at : (o : ℕ) (t : List Reach) (h : List ℕ) (k : ℕ) → k < length (gates_from o t) → Gate o t h k
gate-at o [] h k l = absurd (not-suc-le-zero l)
gate-at o (r ∷ t) h k l = gate-step r.state r.a r.b o t h k (λ h' k' l'. gate-at (suc o) t h' k' l') l

-- every gated reach is a gate: its place among the gates
pub record Rank (o : ℕ) (t : List Reach) (i : ℕ) : Type 0 where
  pub place : ℕ
  pub below : place < length (gates_from o t)
  pub numbered : get_or (gates_from o t) place 0 ≡ o + i

rank_step : (d : State) (a b o : ℕ) (t : List Reach) (i : ℕ) → Rank (suc o) t i → Rank o (reach_of d a b ∷ t) (suc i)
rank_step (InService Gated) a b o t i r = record { place = suc r.place; below = omega (arith, r.below); numbered = r.numbered ∙ omega arith }
rank_step (InService Flap) a b o t i r = record { place = r.place; below = r.below; numbered = r.numbered ∙ omega arith }
rank_step (InService TwoWay) a b o t i r = record { place = r.place; below = r.below; numbered = r.numbered ∙ omega arith }
rank_step (Shut d) a b o t i r = record { place = r.place; below = r.below; numbered = r.numbered ∙ omega arith }

rank-here : (d : State) (a b o : ℕ) (t : List Reach) → is_gated d ≡ true → Rank o (reach_of d a b ∷ t) 0
rank-here (InService Gated) a b o t e = record { place = 0; below = omega arith; numbered = omega arith }
rank-here (InService Flap) a b o t e = absurd (false≢true e)
rank-here (InService TwoWay) a b o t e = absurd (false≢true e)
rank-here (Shut d) a b o t e = absurd (false≢true e)

pub rank-of : (o : ℕ) (t : List Reach) (i : ℕ) → i < length t → is_gated (get_or t i no_reach).state ≡ true → Rank o t i
rank-of o [] i l e = absurd (not-suc-le-zero l)
rank-of o (r ∷ t) zero l e = rank-here r.state r.a r.b o t e
rank-of o (r ∷ t) (suc i) l e = rank_step r.state r.a r.b o t i (rank-of (suc o) t i (le_of_suc-le-suc l) e)

-- so the way of each reach that is no gate
pub plain-way : (t : List Reach) (h : List ℕ) (i : ℕ) → i < length t → is_gated (get_or t i no_reach).state ≡ false → get_or (ways t h) i 3 ≡ way (get_or t i no_reach).state []
plain-way [] h i l e = absurd (not-suc-le-zero l)
plain-way (r ∷ t) h zero l e = plain_here r.state h e
plain-way (r ∷ t) h (suc i) l e = plain-way t (after r.state h) i (le_of_suc-le-suc l) e

-- a gated reach has the way that its byte says
pub record GateWay (t : List Reach) (h : List ℕ) (i : ℕ) : Type 0 where
  pub place : ℕ
  pub below : place < length (gates_from 0 t)
  pub numbered : get_or (gates_from 0 t) place 0 ≡ i
  pub byte : get_or (ways t h) i 3 ≡ get_or h place 2
  pub turn : (x : ℕ) → place < length h → ways t (set h place x) ≡ set (ways t h) i x

pub gate-way : (t : List Reach) (h : List ℕ) (i : ℕ) → i < length t → is_gated (get_or t i no_reach).state ≡ true → GateWay t h i
gate-way t h i l e =
    let r = rank-of 0 t i l e in
    let g = gate-at 0 t h r.place r.below in
    let same : g.reach ≡ i = omega (arith, g.numbered, r.numbered) in
    record {
      place = r.place;
      below = r.below;
      numbered = r.numbered ∙ omega arith;
      byte = subst (λ (j : ℕ). get_or (ways t h) j 3 ≡ get_or h r.place 2) same g.byte;
      turn = λ x k. subst (λ (j : ℕ). ways t (set h r.place x) ≡ set (ways t h) j x) same (g.turn x k);
    }

-- a reach in service that is no gate passes, a shut reach does not
pub plain-small : (d : State) → is_gated d ≡ false → in_service d ≡ true → way d [] ≤ 2
plain-small (InService Gated) e f = absurd (true≢false e)
plain-small (InService Flap) e f = omega arith
plain-small (InService TwoWay) e f = omega arith
plain-small (Shut d) e f = absurd (false≢true f)

pub shut-way : (d : State) → in_service d ≡ false → way d [] ≡ 3
shut-way (InService k) e = absurd (true≢false e)
shut-way (Shut k) e = refl

pub shut-plain : (d : State) → in_service d ≡ false → is_gated d ≡ false
shut-plain (InService k) e = absurd (true≢false e)
shut-plain (Shut k) e = refl

pub gated-in-service : (d : State) → is_gated d ≡ true → in_service d ≡ true
gated-in-service (InService k) e = refl
gated-in-service (Shut k) e = absurd (false≢true e)

-- Item 1: "While shut it passes no water". The shut reaches of the table have way 3.
abbrev pub ShutOut : List Reach → List ℕ → Type 0
ShutOut t ws = (j : ℕ) → j < length t → in_service (get_or t j no_reach).state ≡ false → get_or ws j 3 ≡ 3

-- so they are under every partial orientation
pub shut_out : (t : List Reach) (h : List ℕ) → ShutOut t (ways t h)
shut_out t h j l e = plain-way t h j l (shut-plain (get_or t j no_reach).state e) ∙ shut-way (get_or t j no_reach).state e

-- and with a reach left out
pub shut-left-out : (t : List Reach) (ws : List ℕ) (i : ℕ) → ShutOut t ws → ShutOut t (set ws i 3)
shut-left-out t ws i out j l e = go (ℕ_discrete j i) (dec_lt i (length ws))
  where
    go : Dec (j ≡ i) → Dec (i < length ws) → get_or (set ws i 3) j 3 ≡ 3
    go (yes same) (yes k) = rw (same, get_or-set_same ws i 3 3 k)
    go (yes same) (no k) = get_or-eq_default (set ws i 3) 3 {n = j} (omega (arith, length-set ws i 3, same))
    go (no n) d = get_or-set_other ws i j 3 3 n ∙ out j l e

-- an arc comes from a reach in service
pub arc-in-service : (t : List Reach) (ws : List ℕ) → ShutOut t ws → (j : ℕ) → j < length t → (y : Arc) → Memᴰ y (passing_at t j (get_or ws j 3)) → in_service (get_or t j no_reach).state ≡ true
arc-in-service t ws out j l y m =
    ⊎_elim (λ e. e) (λ n. absurd (mathlib.Core.List.Memᴰ.not-nil (subst (λ (x : ℕ). Memᴰ y (passing_at t j x)) (out j l n) m))) (decide (in_service (get_or t j no_reach).state))

-- under a partial orientation each reach in service has a way up to 2
pub way-small : (t : List Reach) (h : List ℕ) (i : ℕ) → length h ≡ length (gates_from 0 t) → every (λ x. leb x 2) h ≡ true → i < length t → in_service (get_or t i no_reach).state ≡ true → get_or (ways t h) i 3 ≤ 2
way-small t h i e all l serves = ⊎_elim gated plain (decide (is_gated (get_or t i no_reach).state))
  where
    gated : is_gated (get_or t i no_reach).state ≡ true → get_or (ways t h) i 3 ≤ 2
    gated y =
        let g = gate-way t h i l y in
        rw g.byte (leb-true (get_or h g.place 2) 2 (every-get_or (λ x. leb x 2) h g.place 2 all (omega (arith, g.below, e))))

    plain : is_gated (get_or t i no_reach).state ≡ false → get_or (ways t h) i 3 ≤ 2
    plain n = rw (plain-way t h i l n) (plain-small (get_or t i no_reach).state n serves)

-- under a setting each gated reach has a way up to 1
pub gate-small : (t : List Reach) (s : List ℕ) (i : ℕ) → length s ≡ length (gates_from 0 t) → every (λ x. leb x 1) s ≡ true → i < length t → is_gated (get_or t i no_reach).state ≡ true → get_or (ways t s) i 3 ≤ 1
gate-small t s i e all l y =
    let g = gate-way t s i l y in
    rw g.byte (leb-true (get_or s g.place 2) 1 (every-get_or (λ x. leb x 1) s g.place 2 all (omega (arith, g.below, e))))

-- ---- looser partial orientations

-- h' leaves a gate as h has it, or either
abbrev pub Looser : List ℕ → List ℕ → Type 0
Looser h h' = (k : ℕ) → (get_or h' k 2 ≡ 2) ⊎ (get_or h' k 2 ≡ get_or h k 2)

pub passing-either : (x a b : ℕ) → Within (passing x a b) (passing 2 a b)
passing-either zero a b y m = ⊎_elim (λ e. mathlib.Core.List.Memᴰ.head e) (λ n. absurd (mathlib.Core.List.Memᴰ.not-nil n)) (mathlib.Core.List.Memᴰ.cases_cons m)
passing-either (suc zero) a b y m = mathlib.Core.List.Memᴰ.tail m
passing-either (suc (suc zero)) a b y m = m
passing-either (suc (suc (suc x))) a b y m = absurd (mathlib.Core.List.Memᴰ.not-nil m)

pub looser-within : (t : List Reach) (h h' : List ℕ) → Looser h h' → Within (arcs t (ways t h)) (arcs t (ways t h'))
unfolding gate-way
looser-within t h h' f y m = go (arcs-in t (ways t h) y m)
  where
    gated : (i : ℕ) → i < length t → is_gated (get_or t i no_reach).state ≡ true → Memᴰ y (passing_at t i (get_or (ways t h) i 3)) → Memᴰ y (passing_at t i (get_or (ways t h') i 3))
    gated i l e p =
        let g = gate-way t h i l e in
        let g' = gate-way t h' i l e in
        ⊎_elim
        (λ free. subst (λ (x : ℕ). Memᴰ y (passing_at t i x)) (sym (g'.byte ∙ free)) (passing-either (get_or (ways t h) i 3) _ _ y p))
        (λ same. subst (λ (x : ℕ). Memᴰ y (passing_at t i x)) (g.byte ∙ sym (g'.byte ∙ same)) p)
        (f g'.place)

    plain : (i : ℕ) → i < length t → is_gated (get_or t i no_reach).state ≡ false → Memᴰ y (passing_at t i (get_or (ways t h) i 3)) → Memᴰ y (passing_at t i (get_or (ways t h') i 3))
    plain i l e p = subst (λ (x : ℕ). Memᴰ y (passing_at t i x)) (plain-way t h i l e ∙ sym (plain-way t h' i l e)) p

    go : Source t (ways t h) y → Memᴰ y (arcs t (ways t h'))
    go s =
        arcs-has t (ways t h') s.reach y s.below
        (⊎_elim (λ e. gated s.reach s.below e s.passes) (λ e. plain s.reach s.below e s.passes) (decide (is_gated (get_or t s.reach no_reach).state)))
