-- Demand 2: what is checked on the map leaves no plan, whoever marked the side; and the findings of an accepted network pass that check. Nothing passes out of a
-- shut-in side however the gates hang; a lone reach is the only one that crosses its side.
-- Assumes nothing.
use Prim.Native.Nat.{ℕ, ◌*◌, ◌<◌}
use native.Mathlib.Omega.{arith}
use native.Mathlib.Decide.{dec_lt}
use mathlib.Core.Path.{◌≡◌, refl, sym, ap, subst, subst⁻¹, ◌∙◌}
use mathlib.Core.Bool.{Bool, true, false, not, ◌&&◌, beq}
use mathlib.Core.Logic.{⊎_elim}
use mathlib.Core.Option
use mathlib.Core.Option.{Option, none, some}
use mathlib.Core.List.{List, [], Memᴰ}
use lib.ListN.{length, get_or}
use borrow.Author.Tests.{not-false, not-true}
use mathlib.Mathlib.Data.Bool.Basic.{and_elim_left}
use Rattle.network.specs.declared.Kind.TheVariants.{Gated, Flap, TwoWay}
use Rattle.network.specs.declared.State.{State}
use Rattle.network.specs.declared.State.TheVariants.{InService, Shut}
use Rattle.network.specs.declared.Reach.{Reach}
use Rattle.lists.specs.Lists.{keep, elem}
use Rattle.network.specs.Networks.{Network, in_service, is_wet, basins_of, lowest_basin, Accepted}
use Rattle.network.specs.Settings.{is_gated}
use Rattle.network.specs.Orientations.{Arc, arc, way, ways, passing, arcs_under, reached, unoriented}
use Rattle.network.specs.Plans.{reaches_all, strongly_connected_under, passable}
use Rattle.network.specs.Bridges.{crosses_by, reach_at, is_bridge, lowest_bridge}
use Rattle.network.specs.Marks.{mark_bytes, marks_of, marked, mark_count}
use Rattle.network.specs.Replies.{shut_in, lone, shut_in_basin, shut_in_side, bridge_side, shut_in_finding, lone_finding}
use Rattle.network.specs.Certificates.{NoPlan, FlapInto, InwardSide, ShutInShown, Alone, LoneAcross, BridgeShown}
use Rattle.lists.proofs.Bools.{decide, clash, same_test}
use Rattle.lists.proofs.Searches.{every-fails, find-some, find_none, find_first, keep-in, keep_same, elem_in, elem-keep}
use Rattle.network.proofs.Marks.{marked-is, unmarked-past, marks-same, count-is}
use Rattle.network.proofs.Cuts.{reached-on, strong-walks}
use Rattle.network.proofs.Ways.{passing_at, arcs-has, arcs-in, plain-way, gate-way, gated-in-service, shut_out, arc-in-service}
use Rattle.network.proofs.Networks.{accepted, basin-below, basin-wet, basins-kept, basins-found, end-a-in, end-b-in, lowest-in, reach-alike}
use Rattle.network.proofs.Bridges.{crossing-ends, uncrossed-ends, alone-facts, alone-same, side-basins, cut_of, cut-unique, cut-blocks, bridge-below, bridge-gated, bridge-side}
use Rattle.network.proofs.Theorem.{plan-reaches, unoriented-2}
use Rattle.network.proofs.Replies.{lowest-is-bridge}
use Rattle.network.proofs.Walks.{walk_inside, arc-from, reached-refl}

-- ---- marks of a set of basins

module _ (N : Network) (ok : Accepted N) (S : List ℕ) (basins : (b : ℕ) → Memᴰ b S → Memᴰ b (basins_of N)) where
  room : (b : ℕ) → Memᴰ b (basins_of N) → b < 8 * mark_bytes
  room b m = omega (arith, basin-below N b m, (accepted N ok).few-basins)

  -- the marks of S are the basins of S
  pub marked-in : (b : ℕ) → Memᴰ b (basins_of N) → marked (marks_of S) b ≡ elem b S
  marked-in b m = marked-is S b (room b m)

  -- only basins are marked
  pub marked-basin : (b : ℕ) → marked (marks_of S) b ≡ true → Memᴰ b (basins_of N)
  marked-basin b e = go (dec_lt b (8 * mark_bytes))
    where
      go : Dec (b < 8 * mark_bytes) → Memᴰ b (basins_of N)
      go (yes l) = basins b (elem_in b S (sym (marked-is S b l) ∙ e))
      go (no n) = clash e (unmarked-past S b (omega arith))

  -- the count is the number of marked basins
  pub marked-count : mark_count (marks_of S) ≡ length (keep (marked (marks_of S)) (basins_of N))
  marked-count =
      ap mark_count (marks-same S (keep (λ b. elem b S) (basins_of N)) (λ b l. same b))
      ∙ ap (λ (l : List ℕ). mark_count (marks_of l)) (basins-kept N (λ b. elem b S))
      ∙ count-is (λ b. is_wet N b && elem b S) N.basins (omega (arith, (accepted N ok).few-basins))
      ∙ ap (λ (l : List ℕ). length l) (sym (basins-kept N (λ b. elem b S)) ∙ keep_same (λ b. elem b S) (marked (marks_of S)) (basins_of N) (λ b m. sym (marked-in b m)))
    where
      same : (b : ℕ) → elem b S ≡ elem b (keep (λ b. elem b S) (basins_of N))
      same b =
          same_test (elem b S) (elem b (keep (λ b. elem b S) (basins_of N)))
          (λ e. elem-keep (λ b. elem b S) (basins b (elem_in b S e)) ∙ e)
          (λ e. (keep-in (λ b. elem b S) (basins_of N) (elem_in b (keep (λ b. elem b S) (basins_of N)) e)).1)

-- ---- what is checked on the map leaves no plan

module _ (N : Network) (S : ℕ → Bool) (crossing : (j : ℕ) → j < length N.reaches → crosses_by S (reach_at N j) ≡ true → FlapInto S (reach_at N j)) where
  -- a flap drawn into the side passes nothing out of it
  flap-shuts : (h : List ℕ) (j u v : ℕ) → j < length N.reaches → FlapInto S (reach_at N j) → Memᴰ (arc u v) (passing_at N.reaches j (get_or (ways N.reaches h) j 3)) → S u ≡ true → S v ≡ true
  flap-shuts h j u v l f m e =
      let drawn : get_or (ways N.reaches h) j 3 ≡ 0 = plain-way N.reaches h j l (ap is_gated f.flap) ∙ ap (λ (d : State). way d []) f.flap in
      let m' : Memᴰ (arc u v) (passing_at N.reaches j 0) = subst (λ (x : ℕ). Memᴰ (arc u v) (passing_at N.reaches j x)) drawn m in
      ⊎_elim (λ same. clash (sym (ap S (arc-from same)) ∙ e) f.from-outside) (λ n. absurd (mathlib.Core.List.Memᴰ.not-nil n)) (mathlib.Core.List.Memᴰ.cases_cons m')

  -- so nothing passes out of the side, however the gates hang
  pub side-closed : (h : List ℕ) (u v : ℕ) → Memᴰ (arc u v) (arcs_under N h) → S u ≡ true → S v ≡ true
  side-closed h u v m e =
      let s = arcs-in N.reaches (ways N.reaches h) (arc u v) m in
      let serves = arc-in-service N.reaches (ways N.reaches h) (shut_out N.reaches h) s.reach s.below (arc u v) s.passes in
      ⊎_elim
      (λ y. flap-shuts h s.reach u v s.below (crossing s.reach s.below y) s.passes e)
      (λ n. sym (reach-alike S (get_or (ways N.reaches h) s.reach 3) _ _ u v (uncrossed-ends S (reach_at N s.reach) n serves) s.passes) ∙ e)
      (decide (crosses_by S (reach_at N s.reach)))

-- A side that only flaps drawn into it cross leaves no plan,
pub shut-in-blocks : (N : Network) (S : ℕ → Bool) → InwardSide N S → NoPlan N
unfolding strongly_connected_under
shut-in-blocks N S f s e =
    let walk = strong-walks (basins_of N) (arcs_under N s) (plan-reaches N s e) f.inside.0 f.outside.0 f.inside.1 f.outside.1 in
    clash (walk_inside S (side-closed N S f.crossing s) walk f.inside.2) f.outside.2

-- and so does a side that one gated reach alone crosses.
pub lone-blocks : (N : Network) → Accepted N → (S : ℕ → Bool) (i : ℕ) → LoneAcross N S i → NoPlan N
lone-blocks N ok S i f = cut-blocks N i (keep S (basins_of N)) f.below f.gated (cut_of N ok i f.below S f.alone)

-- ---- shut in

-- the lowest-numbered wet basin that doesn't reach all
pub record ShutInAt (N : Network) (u : ℕ) : Type 0 where
  pub is-it : shut_in_basin N ≡ some u
  pub basin : Memᴰ u (basins_of N)
  pub misses : reaches_all (basins_of N) (arcs_under N (unoriented N)) u ≡ false
  pub lower-reach : (v : ℕ) → Memᴰ v (basins_of N) → v < u → reaches_all (basins_of N) (arcs_under N (unoriented N)) v ≡ true

pub shut-in-at : (N : Network) → passable N ≡ false → (u : ℕ) × ShutInAt N u
unfolding passable strongly_connected_under shut_in_basin
shut-in-at N n = go (shut_in_basin N) refl
  where
    test : ℕ → Bool
    test u = not (reaches_all (basins_of N) (arcs_under N (unoriented N)) u)

    go : (o : Option ℕ) → shut_in_basin N ≡ o → (u : ℕ) × ShutInAt N u
    go none e =
        let k = every-fails (reaches_all (basins_of N) (arcs_under N (unoriented N))) (basins_of N) n in
        clash (ap not k.2) (find_none test e k.1)
    go (some u) e =
        let k = find-some test (basins_of N) e in (
          u,
          record {
            is-it = e;
            basin = k.0;
            misses = not-true _ k.1;
            lower-reach = λ v m l.
                not-false _ (rw (basin-wet N v m) at (find_first (λ b. is_wet N b && test b) 0 N.basins (sym (basins-found N test) ∙ e) v (omega arith) l));
          },
        )

-- of two different values, the second true if the first is: the first is false, the second true
only-second : (x y : Bool) → not (beq x y) ≡ true → (x ≡ true → y ≡ true) → (x ≡ false) × (y ≡ true)
only-second true y d f = clash d (ap (λ z. not (beq true z)) (f refl))
only-second false true d f = (refl, refl)
only-second false false d f = clash d refl

-- what is reached from a basin, gates usable either way
module _ (N : Network) (u : ℕ) (S : ℕ → Bool) (j : ℕ) (l : j < length N.reaches)
    (at_a : S (reach_at N j).a ≡ reached (arcs_under N (unoriented N)) u (reach_at N j).a) (at_b : S (reach_at N j).b ≡ reached (arcs_under N (unoriented N)) u (reach_at N j).b) where
  abbrev A : List Arc
  A = arcs_under N (unoriented N)

  abbrev r : Reach
  r = reach_at N j

  -- a reach that passes from A to B, or from B to A, passes what is reached on
  on : (w : ℕ) → get_or (ways N.reaches (unoriented N)) j 3 ≡ w → Memᴰ (arc r.a r.b) (passing w r.a r.b) → S r.a ≡ true → S r.b ≡ true
  on w e m y = at_b ∙ reached-on A u r.a r.b (arcs-has N.reaches (ways N.reaches (unoriented N)) j _ l (subst⁻¹ (λ (x : ℕ). Memᴰ (arc r.a r.b) (passing x r.a r.b)) e m)) (sym at_a ∙ y)

  back : (w : ℕ) → get_or (ways N.reaches (unoriented N)) j 3 ≡ w → Memᴰ (arc r.b r.a) (passing w r.a r.b) → S r.b ≡ true → S r.a ≡ true
  back w e m y = at_a ∙ reached-on A u r.b r.a (arcs-has N.reaches (ways N.reaches (unoriented N)) j _ l (subst⁻¹ (λ (x : ℕ). Memᴰ (arc r.b r.a) (passing x r.a r.b)) e m)) (sym at_b ∙ y)

  -- so one that passes both ways does not cross it
  both_ways : get_or (ways N.reaches (unoriented N)) j 3 ≡ 2 → crosses_by S r ≡ true → ⊥
  both_ways e y =
      let p = only-second (S r.a) (S r.b) (crossing-ends S r y) (on 2 e (mathlib.Core.List.Memᴰ.head refl)) in
      clash (back 2 e (mathlib.Core.List.Memᴰ.tail (mathlib.Core.List.Memᴰ.head refl)) p.1) p.0

  -- and one that does is a flap drawn into it
  flap-into : crosses_by S r ≡ true → FlapInto S r
  flap-into y = go r.state refl
    where
      plain : (d : State) → r.state ≡ d → is_gated d ≡ false → get_or (ways N.reaches (unoriented N)) j 3 ≡ way d []
      plain d e n = plain-way N.reaches (unoriented N) j l (ap is_gated e ∙ n) ∙ ap (λ (x : State). way x []) e

      gated : r.state ≡ InService Gated → get_or (ways N.reaches (unoriented N)) j 3 ≡ 2
      gated e = let g = gate-way N.reaches (unoriented N) j l (ap is_gated e) in g.byte ∙ unoriented-2 N g.place

      go : (d : State) → r.state ≡ d → FlapInto S r
      go (InService Gated) e = absurd (both_ways (gated e) y)
      go (InService TwoWay) e = absurd (both_ways (plain (InService TwoWay) e refl) y)
      go (InService Flap) e =
          let p = only-second (S r.a) (S r.b) (crossing-ends S r y) (on 0 (plain (InService Flap) e refl) (mathlib.Core.List.Memᴰ.head refl)) in
          record { flap = e; from-outside = p.0; to_inside = p.1 }
      go (Shut k) e = clash (and_elim_left (in_service r.state) _ y) (ap in_service e)

pub shut-in-shown : (N : Network) → Accepted N → passable N ≡ false → (m : List ℕ) × (c : ℕ) × (shut_in_finding N ≡ shut_in m c) × ShutInShown N m c
unfolding shut_in_finding shut_in_side
shut-in-shown N ok n =
    let at = shut-in-at N n in
    let u = at.0 in
    let A = arcs_under N (unoriented N) in
    let is : shut_in_side N ≡ keep (reached A u) (basins_of N) = ap (λ (o : Option ℕ). keep (reached A (Option.get_or o 0)) (basins_of N)) at.1.is-it in
    let S = keep (reached A u) (basins_of N) in
    let basins : (b : ℕ) → Memᴰ b S → Memᴰ b (basins_of N) = λ b m. (keep-in (reached A u) (basins_of N) m).0 in
    let mark : (b : ℕ) → Memᴰ b (basins_of N) → marked (marks_of S) b ≡ reached A u b = λ b m. marked-in N ok S basins b m ∙ elem-keep (reached A u) m in
    let miss = every-fails (reached A u) (basins_of N) at.1.misses in
    let side : InwardSide N (marked (marks_of S)) =
    record {
      inside = (u, at.1.basin, mark u at.1.basin ∙ reached-refl A u);
      outside = (miss.0, miss.1, mark miss.0 miss.1 ∙ miss.2);
      crossing = λ j l y.
          let serves = and_elim_left (in_service (reach_at N j).state) _ y in
          flap-into N u (marked (marks_of S)) j l (mark _ (end-a-in N ok j l serves)) (mark _ (end-b-in N ok j l serves)) y;
    } in (
      marks_of S,
      mark_count (marks_of S),
      ap (λ (l : List ℕ). shut_in (marks_of l) (mark_count (marks_of l))) is,
      record {
        side = side;
        only-basins = marked-basin N ok S basins;
        count = marked-count N ok S basins;
        start = (u, at.1.is-it, mark);
        closed = λ s c d hs. side-closed N (marked (marks_of S)) side.crossing s c d;
        no-plan = shut-in-blocks N (marked (marks_of S)) side;
      },
    )

-- ---- lone reach

pub bridge-shown : (N : Network) → Accepted N → passable N ≡ true → (i : ℕ) → lowest_bridge N ≡ some i → (m : List ℕ) × (c : ℕ) × (lone_finding N i ≡ lone i m c) × BridgeShown N i m c
unfolding lone_finding passable lowest_bridge
bridge-shown N ok pass i low =
    let is-bridge = lowest-is-bridge N low in
    let l = bridge-below N i is-bridge in
    let S = bridge_side N i in
    let found = bridge-side N ok i is-bridge in
    let basins : (b : ℕ) → Memᴰ b S → Memᴰ b (basins_of N) = side-basins (basins_of N) S found.cut.side in
    let alone : Alone N (marked (marks_of S)) i = alone-same N ok (λ b. elem b S) (marked (marks_of S)) i l (marked-in N ok S basins) (alone-facts N S i l found.cut.alone) in
    let side : LoneAcross N (marked (marks_of S)) i = record { below = l; gated = bridge-gated N i is-bridge; alone = alone } in
    let lowest = lowest-in N (end-a-in N ok i l (gated-in-service (reach_at N i).state (bridge-gated N i is-bridge))) in
    let out : marked (marks_of S) (lowest_basin N) ≡ false = marked-in N ok S basins (lowest_basin N) lowest ∙ found.without in (
      marks_of S,
      mark_count (marks_of S),
      refl,
      record {
        side = side;
        only-basins = marked-basin N ok S basins;
        count = marked-count N ok S basins;
        without-lowest = out;
        only-side = λ S' f e. cut-unique N (unoriented N) pass i S' (marked (marks_of S)) f alone (e ∙ sym out);
        lowest = λ j k. find_first (is_bridge N) 0 (length N.reaches) low j (omega arith) k;
        no-plan = lone-blocks N ok (marked (marks_of S)) i side;
      },
    )
