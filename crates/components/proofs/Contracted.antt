-- Laws of the contracted network: it is accepted and never larger, a component is wet exactly if one of its basins is, it has the same plans, and contracting it again
-- changes nothing.
-- Assumes nothing.
use Prim.Native.Nat.{ℕ, zero, suc, ◌≤◌, ◌<◌}
use native.Mathlib.Nat.{not-suc-le-zero, le_of_suc-le-suc, zero-add}
use native.Mathlib.Omega.{arith}
use mathlib.Core.Path.{◌≡◌, refl, sym, ap, ap₂, subst, ◌∙◌}
use mathlib.Core.Bool.{Bool, true, false, not, ◌&&◌, true≢false, false≢true}
use mathlib.Core.Logic.{◌⊎◌, inl, inr, ⊎_elim}
use mathlib.Core.Option.{Option, none, some}
use mathlib.Core.List.{List, [], ◌∷◌, Memᴰ}
use mathlib.Mathlib.Data.Bool.Basic.{and_elim_left, and_elim_right, and_intro, or_inl, or_inr, Bool-eq-false}
use lib.ListN.{length, get_or, take, length-take}
use lib.Seq.{get_or-take}
use lib.Dec.{eqb}
use borrow.Author.Tests.{le-leb, lt-ltb, eqb-true, eq-eqb}
use Rattle.lists.specs.Lists.{range, some?, find, keep}
use Rattle.lists.proofs.Bools.{or_cases, decide, clash, same_test}
use Rattle.lists.proofs.Ranges.{range-has, range-in}
use Rattle.lists.proofs.Searches.{every-make, some-make, some-has, some_at, find-some, find_none, find_first}
use Rattle.network.specs.declared.Kind.TheVariants.{Gated, Flap, TwoWay}
use Rattle.network.specs.declared.State.{State}
use Rattle.network.specs.declared.State.TheVariants.{InService, Shut}
use Rattle.network.specs.declared.Reach.{Reach}
use Rattle.network.specs.Networks.{Network, net, in_service, ends_at, is_wet, basins_of, max_basins, max_reaches, Accepted}
use Rattle.network.specs.Settings.{gate_count, is_setting}
use Rattle.network.specs.Orientations.{arc, arcs_under, Walk, stay, step, unoriented, ways}
use Rattle.network.specs.Plans.{strongly_connected_under, is_plan, passable, first_plan, next_plan}
use Rattle.network.specs.Bridges.{no_reach, reach_at}
use Rattle.network.specs.Choices.{bound_bytes}
use Rattle.network.proofs.Walks.{walk-trans, walk-within, walk-alike}
use Rattle.network.proofs.Ways.{shut_out}
use Rattle.network.proofs.Cuts.{strong-walks, walks-strong}
use Rattle.network.proofs.Order.{same_first, same_next}
use Rattle.network.proofs.Choices.{same-plans, same-bound}
use Rattle.network.proofs.Networks.{ends_below, fault-none, accepted, wet-make, wet-by, basin-in, basin-wet, basin-below, arcs-in-basins}
use Rattle.components.specs.Components.{is_two_way, two_way_arcs, connected, representative, is_representative, component_number, component_count, is_singleton}
use Rattle.components.specs.Contracted.{none_before, stays, contracted_reach, contracted_from, contracted}
use Rattle.components.proofs.Components.{count_next, number_at, connected-refl, connected-trans, connected-walk, two-way-connects, representative-is, number_same, same_number, number-below, count-few, singleton-other, singleton-is, arc-source}
use Rattle.components.proofs.Kept.{stays-serves, inner, stayed-few, StayedFrom, stayed-from, kept-has, kept-gates, Mapped, kept-arcs, arcs-kept, two-way-passed}

-- ---- its reaches

module _ (N : Network) where
  -- they come from the reaches that stay
  pub contracted-from : (r : Reach) → Memᴰ r (contracted N).reaches → StayedFrom N 0 N.reaches r
  unfolding contracted
  contracted-from r m = stayed-from N 0 N.reaches r m

  -- what stays of reach i is there
  pub contracted-has : (i : ℕ) → i < length N.reaches → stays N i (reach_at N i).state (reach_at N i).a (reach_at N i).b ≡ true → Memᴰ (contracted_reach N (reach_at N i)) (contracted N).reaches
  unfolding contracted
  contracted-has i l e = kept-has N 0 N.reaches i l (rw zero-add e)

  -- ---- never larger, and accepted

  pub fewer-basins : (contracted N).basins ≤ N.basins
  unfolding contracted
  fewer-basins = count-few N

  pub fewer-reaches : length (contracted N).reaches ≤ length N.reaches
  unfolding contracted
  fewer-reaches = stayed-few N 0 N.reaches

  pub below-count : (v : ℕ) → v < N.basins → component_number N v < (contracted N).basins
  unfolding contracted
  below-count v l = number-below N v l

  module _ (ok : Accepted N) where
    ends-below : (r : Reach) → Memᴰ r (contracted N).reaches → ends_below (contracted N).basins r ≡ true
    ends-below r m =
        let k = contracted-from r m in
        let f = accepted N ok in
        let i = k.number in
        let a = below-count (reach_at N i).a (f.end-a i k.below) in
        let b = below-count (reach_at N i).b (f.end-b i k.below) in
        rw k.is (and_intro (lt-ltb (component_number N (reach_at N i).a) (contracted N).basins a) (lt-ltb (component_number N (reach_at N i).b) (contracted N).basins b))

    -- and so it is accepted
    pub contracted-accepted : Accepted (contracted N)
    contracted-accepted =
        let f = accepted N ok in
        let some-basin : 1 ≤ (contracted N).basins = omega (arith, below-count 0 f.some-basin) in
        fault-none (contracted N) (and_intro (le-leb 1 (contracted N).basins some-basin) (le-leb (contracted N).basins max_basins (omega (arith, fewer-basins, f.few-basins))))
        (le-leb (length (contracted N).reaches) max_reaches (omega (arith, fewer-reaches, f.few-reaches))) (every-make (ends_below (contracted N).basins) (contracted N).reaches ends-below)

  -- ---- gates

  pub contracted-gates : gate_count (contracted N) ≡ gate_count N
  unfolding contracted
  contracted-gates = kept-gates N 0 0 0 N.reaches

  -- ---- wet components

  -- a two-way reach in service of b's component
  abbrev joining : ℕ → Reach → Bool
  joining b r = is_two_way r.state && connected N r.a b

  record Joining (b : ℕ) : Type 0 where
    number : ℕ
    below : number < length N.reaches
    joins : joining b (reach_at N number) ≡ true

  -- the first step of a way to another basin is along one
  step-out : (b v : ℕ) → Walk (two_way_arcs N.reaches) b v → (v ≡ b → ⊥) → Joining b
  step-out b v stay n = absurd (n refl)
  step-out b v (step {v = d} m p) n =
      let k = arc-source N.reaches b d m in
      let r = reach_at N k.number in
      let near : connected N r.a b ≡ true =
      ⊎_elim (λ q. rw q.0 (connected-refl N b)) (λ q. subst (λ (x : ℕ). connected N r.a x ≡ true) q.0 (two-way-connects N k.number k.below k.two-way)) k.ends in
      record { number = k.number; below = k.below; joins = and_intro k.two-way near }

  -- a reach in service that drops is within a component that has a two-way reach
  dropped-joining : (i : ℕ) (d : State) (a b : ℕ) → in_service d ≡ true → (is_two_way d ≡ true → (connected N a b ≡ true) × Joining a) → stays N i d a b ≡ false → (connected N a b ≡ true) × Joining a
  dropped-joining i (InService Gated) a b s f e = absurd (true≢false e)
  dropped-joining i (InService Flap) a b s f e =
      let other = singleton-other N a (Bool-eq-false {b = is_singleton N a} (λ y. clash (or_inr (not (connected N a b)) _ y) e)) in
      (inner N a b (is_singleton N a) e, step-out a other.0 (connected-walk N a other.0 other.2) other.3)
  dropped-joining i (InService TwoWay) a b s f e = f refl
  dropped-joining i (Shut k) a b s f e = absurd (false≢true s)

  -- the lowest-numbered of a component's two-way reaches stays
  none_before-found : (b i : ℕ) → find (λ j. joining b (reach_at N j)) (range 0 (length N.reaches)) ≡ some i → connected N (reach_at N i).a b ≡ true → none_before N i (reach_at N i).a ≡ true
  unfolding none_before
  none_before-found b i e c =
      let a = (reach_at N i).a in
      let test : Reach → Bool = λ r. is_two_way r.state && connected N r.a a in
      ap not
      (Bool-eq-false {b = some? test (take i N.reaches)}
      (λ y.
      let j = some_at test (take i N.reaches) no_reach y in
      let lower : j.0 < i = omega (arith, j.1, length-take i N.reaches) in
      let passes : test (reach_at N j.0) ≡ true = rw (get_or-take i N.reaches j.0 no_reach lower) at j.2 in
      let two = is_two_way (reach_at N j.0).state in
      clash (and_intro (and_elim_left two _ passes) (connected-trans N (reach_at N j.0).a a b (and_elim_right two _ passes) c))
      (find_first (λ k. joining b (reach_at N k)) 0 (length N.reaches) e j.0 (omega arith) lower)))

  record FirstOf (b : ℕ) : Type 0 where
    number : ℕ
    below : number < length N.reaches
    two-way : is_two_way (reach_at N number).state ≡ true
    near : connected N (reach_at N number).a b ≡ true
    first : none_before N number (reach_at N number).a ≡ true

  first_of : (b : ℕ) → Joining b → FirstOf b
  first_of b k = go (find (λ j. joining b (reach_at N j)) (range 0 (length N.reaches))) refl
    where
      go : (o : Option ℕ) → find (λ j. joining b (reach_at N j)) (range 0 (length N.reaches)) ≡ o → FirstOf b
      go none e = clash k.joins (find_none (λ j. joining b (reach_at N j)) e (range-has 0 (length N.reaches) (omega arith) (omega (arith, k.below))))
      go (some i) e =
          let found = find-some (λ j. joining b (reach_at N j)) (range 0 (length N.reaches)) e in
          let two = is_two_way (reach_at N i).state in
          let c = and_elim_right two _ found.1 in
          record {
            number = i;
            below = omega (arith, range-in 0 (length N.reaches) found.0);
            two-way = and_elim_left two _ found.1;
            near = c;
            first = none_before-found b i e c;
          }

  two-way-stays : (i : ℕ) (d : State) (a b : ℕ) → is_two_way d ≡ true → none_before N i a ≡ true → stays N i d a b ≡ true
  two-way-stays i (InService Gated) a b e f = absurd (false≢true e)
  two-way-stays i (InService Flap) a b e f = absurd (false≢true e)
  two-way-stays i (InService TwoWay) a b e f = or_inr (is_singleton N a) _ f
  two-way-stays i (Shut k) a b e f = absurd (false≢true e)

  -- a reach that stays keeps the components of its ends wet
  stays-wet : (i : ℕ) → i < length N.reaches → stays N i (reach_at N i).state (reach_at N i).a (reach_at N i).b ≡ true → (b : ℕ)
      → (component_number N (reach_at N i).a ≡ component_number N b) ⊎ (component_number N (reach_at N i).b ≡ component_number N b) → is_wet (contracted N) (component_number N b) ≡ true
  unfolding is_wet
  stays-wet i l e b q =
      let r = reach_at N i in
      let c = component_number N b in
      some-make (ends_at c) (contracted-has i l e)
      (and_intro (stays-serves N i r.state r.a r.b e)
      (⊎_elim (λ p. or_inl _ _ (eq-eqb (component_number N r.a) c p)) (λ p. or_inr (eqb (component_number N r.a) c) _ (eq-eqb (component_number N r.b) c p)) q))

  joining-wet : (b : ℕ) → Joining b → is_wet (contracted N) (component_number N b) ≡ true
  joining-wet b k =
      let f = first_of b k in
      let r = reach_at N f.number in
      stays-wet f.number f.below (two-way-stays f.number r.state r.a r.b f.two-way f.first) b (inl (number_same N r.a b f.near))

  -- the component of a wet basin is wet
  pub wet-on : (b : ℕ) → is_wet N b ≡ true → is_wet (contracted N) (component_number N b) ≡ true
  wet-on b e =
      let w = wet-by N b e in
      let i = w.reach in
      let r = reach_at N i in
      let own : is_two_way r.state ≡ true → (connected N r.a r.b ≡ true) × Joining r.a =
      λ y. (two-way-connects N i w.below y, record { number = i; below = w.below; joins = and_intro y (connected-refl N r.a) }) in
      ⊎_elim
      (λ y. stays-wet i w.below y b (⊎_elim (λ q. inl (ap (component_number N) q)) (λ q. inr (ap (component_number N) q)) w.ends))
      (λ n.
      let d = dropped-joining i r.state r.a r.b w.serves own n in
      let same : component_number N r.a ≡ component_number N b =
      ⊎_elim (λ q. ap (component_number N) q) (λ q. number_same N r.a r.b d.0 ∙ ap (component_number N) q) w.ends in
      subst (λ (c : ℕ). is_wet (contracted N) c ≡ true) same (joining-wet r.a d.1))
      (decide (stays N i r.state r.a r.b))

  -- and a wet component has a wet basin
  pub record WetMember (c : ℕ) : Type 0 where
    pub basin : ℕ
    pub below : basin < N.basins
    pub wet : is_wet N basin ≡ true
    pub is : component_number N basin ≡ c

  pub wet-member : Accepted N → (c : ℕ) → is_wet (contracted N) c ≡ true → WetMember c
  unfolding is_wet
  wet-member ok c e =
      let x = some-has (ends_at c) (contracted N).reaches e in
      let k = contracted-from x.0 x.1 in
      let i = k.number in
      let r = reach_at N i in
      let serves = stays-serves N i r.state r.a r.b (rw zero-add at k.stayed) in
      let f = accepted N ok in
      let ends = and_elim_right (in_service x.0.state) _ x.2 in
      ⊎_elim
      (λ q. record { basin = r.a; below = f.end-a i k.below; wet = wet-make N r.a (record { reach = i; below = k.below; serves = serves; ends = inl refl }); is = sym (ap (λ (y : Reach). y.a) k.is) ∙ eqb-true _ c q })
      (λ q. record { basin = r.b; below = f.end-b i k.below; wet = wet-make N r.b (record { reach = i; below = k.below; serves = serves; ends = inr refl }); is = sym (ap (λ (y : Reach). y.b) k.is) ∙ eqb-true _ c q })
      (or_cases (eqb x.0.a c) _ ends)

  -- so a component is wet exactly if one of its basins is
  pub contracted-wet : Accepted N → (c : ℕ) → is_wet (contracted N) c ≡ some? (λ b. is_wet N b && eqb (component_number N b) c) (range 0 N.basins)
  contracted-wet ok c =
      same_test (is_wet (contracted N) c) (some? (λ b. is_wet N b && eqb (component_number N b) c) (range 0 N.basins))
      (λ e.
      let w = wet-member ok c e in
      let among : Memᴰ w.basin (range 0 N.basins) = range-has 0 N.basins (omega arith) (omega (arith, w.below)) in
      some-make (λ b. is_wet N b && eqb (component_number N b) c) among (and_intro w.wet (eq-eqb (component_number N w.basin) c w.is)))
      (λ e.
      let k = some-has (λ b. is_wet N b && eqb (component_number N b) c) (range 0 N.basins) e in
      let wet = is_wet N k.0 in
      subst (λ (x : ℕ). is_wet (contracted N) x ≡ true) (eqb-true (component_number N k.0) c (and_elim_right wet _ k.2)) (wet-on k.0 (and_elim_left wet _ k.2)))

  -- ---- plans

  -- water gets between the components of basins as between the basins: along what stays, or within a component
  walk-on : (h : List ℕ) {u v : ℕ} → Walk (arcs_under N h) u v → Walk (arcs_under (contracted N) h) (component_number N u) (component_number N v)
  unfolding contracted
  walk-on h stay = stay
  walk-on h (step {u = c} {v = d} {w = w} m p) =
      ⊎_elim
      (λ k. step k (walk-on h p))
      (λ e. subst (λ (x : ℕ). Walk (arcs_under (contracted N) h) x (component_number N w)) (sym e) (walk-on h p))
      (arcs-kept N 0 N.reaches h (two-way-connects N) c d m)

  -- within a component it gets everywhere, whatever is hung
  within : (h : List ℕ) (u v : ℕ) → connected N u v ≡ true → Walk (arcs_under N h) u v
  within h u v e = walk-within (two-way-passed N.reaches h) (connected-walk N u v e)

  mapped : (h : List ℕ) (c d : ℕ) → Memᴰ (arc c d) (arcs_under (contracted N) h) → Mapped N (arcs_under N h) c d
  unfolding contracted
  mapped h c d m = kept-arcs N 0 N.reaches h c d m

  module _ (ok : Accepted N) where
    arc-below : (h : List ℕ) (c d : ℕ) → Memᴰ (arc c d) (arcs_under N h) → (c < N.basins) × (d < N.basins)
    arc-below h c d m =
        let k = arcs-in-basins N ok (ways N.reaches h) (shut_out N.reaches h) c d m in
        (basin-below N c k.0, basin-below N d k.1)

    walk-back : (h : List ℕ) {x y : ℕ} → Walk (arcs_under (contracted N) h) x y → (u v : ℕ) → u < N.basins → v < N.basins → component_number N u ≡ x → component_number N v ≡ y → Walk (arcs_under N h) u v
    walk-back h stay u v l m e f = within h u v (same_number N u v l m (e ∙ sym f))
    walk-back h (step {u = c} {v = d} k p) u v l m e f =
        let a = mapped h c d k in
        let b = arc-below h a.from a.to a.has in
        walk-trans (within h u a.from (same_number N u a.from l b.0 (e ∙ a.from_is))) (step a.has (walk-back h p a.to v b.1 m (sym a.to_is) f))

    -- a component counts exactly if a basin in it does
    counted-on : (b : ℕ) → Memᴰ b (basins_of N) → Memᴰ (component_number N b) (basins_of (contracted N))
    counted-on b m = basin-in (contracted N) (component_number N b) (below-count b (basin-below N b m)) (wet-on b (basin-wet N b m))

    counted_back : (c : ℕ) → Memᴰ c (basins_of (contracted N)) → (b : ℕ) × Memᴰ b (basins_of N) × (component_number N b ≡ c)
    counted_back c m = let w = wet-member ok c (basin-wet (contracted N) c m) in (w.basin, basin-in N w.basin w.below w.wet, w.is)

    -- so the one is strongly connected exactly if the other is, whatever is hung
    pub contracted-strong : (h : List ℕ) → strongly_connected_under (contracted N) h ≡ strongly_connected_under N h
    unfolding strongly_connected_under
    contracted-strong h =
        same_test (strongly_connected_under (contracted N) h) (strongly_connected_under N h)
        (λ e. walks-strong (basins_of N) (arcs_under N h)
        (λ u v mu mv. walk-back h (strong-walks (basins_of (contracted N)) (arcs_under (contracted N) h) e (component_number N u) (component_number N v) (counted-on u mu) (counted-on v mv)) u v (basin-below N u mu) (basin-below N v mv) refl refl))
        (λ e. walks-strong (basins_of (contracted N)) (arcs_under (contracted N) h)
        (λ c d mc md.
        let u = counted_back c mc in
        let v = counted_back d md in
        rw (← u.2, ← v.2) (walk-on h (strong-walks (basins_of N) (arcs_under N h) e u.0 v.0 u.1 v.1))))

    -- "A setting is a plan of the folded network exactly if it is one of the first."
    pub contracted-plan : (s : List ℕ) → is_plan (contracted N) s ≡ is_plan N s
    unfolding is_plan is_setting
    contracted-plan s = rw (contracted-gates, contracted-strong s)

    pub contracted-setting : (s : List ℕ) → is_setting (contracted N) s ≡ is_setting N s
    unfolding is_setting
    contracted-setting s = rw contracted-gates

    pub contracted-passable : passable (contracted N) ≡ passable N
    unfolding passable
    contracted-passable = rw contracted-gates (contracted-strong (unoriented N))

    -- so it has the same first plan, the same next plan of every setting, and the same bound gates
    pub contracted-first : first_plan (contracted N) ≡ first_plan N
    contracted-first = same_first (contracted N) N contracted-gates contracted-plan

    pub contracted-next : (s : List ℕ) → next_plan (contracted N) s ≡ next_plan N s
    contracted-next = same_next (contracted N) N contracted-gates contracted-plan

    pub contracted-bound : bound_bytes (contracted N) ≡ bound_bytes N
    contracted-bound = same-bound (contracted N) N contracted-gates (same-plans (contracted N) N contracted-gates contracted-plan)

-- ---- contracting again

-- A network whose reaches are in service, its two-way reaches loops, and whose ends are below the basin count.
record Settled (M : Network) : Type 0 where
  serves : (i : ℕ) → i < length M.reaches → in_service (reach_at M i).state ≡ true
  loops : (i : ℕ) → i < length M.reaches → is_two_way (reach_at M i).state ≡ true → (reach_at M i).a ≡ (reach_at M i).b
  end-a : (i : ℕ) → i < length M.reaches → (reach_at M i).a < M.basins
  end-b : (i : ℕ) → i < length M.reaches → (reach_at M i).b < M.basins

module _ (M : Network) (settled : Settled M) where
  -- no basin of it is connected with another
  arc-loop : (c d : ℕ) → Memᴰ (arc c d) (two_way_arcs M.reaches) → c ≡ d
  arc-loop c d m =
      let k = arc-source M.reaches c d m in
      let same = settled.loops k.number k.below k.two-way in
      ⊎_elim (λ e. sym e.0 ∙ same ∙ e.1) (λ e. sym e.0 ∙ sym same ∙ e.1) k.ends

  alone : (u v : ℕ) → connected M u v ≡ true → u ≡ v
  alone u v e = walk-alike (λ w. w) arc-loop (connected-walk M u v e)

  -- so each has its own number, and every reach stays as it is
  represents : (v : ℕ) → v < M.basins → representative M v ≡ v
  represents v l = representative-is M v v l (connected-refl M v) (λ u m e. omega (arith, alone v u e))

  all-below : (k : ℕ) → k ≤ M.basins → length (keep (is_representative M) (range 0 k)) ≡ k
  all-below zero l = refl
  all-below (suc k) l = count_next (is_representative M) k (eq-eqb (representative M k) k (represents k (omega arith))) ∙ ap suc (all-below k (omega arith))

  number-own : (v : ℕ) → v < M.basins → component_number M v ≡ v
  number-own v l = number_at M v (represents v l) ∙ all-below v (omega arith)

  single : (v : ℕ) → is_singleton M v ≡ true
  single v = singleton-is M v (λ u l e. sym (alone v u e))

  all_stay : (i : ℕ) (d : State) (a b : ℕ) → in_service d ≡ true → stays M i d a b ≡ true
  all_stay i (InService Gated) a b e = refl
  all_stay i (InService Flap) a b e = or_inr (not (connected M a b)) _ (single a)
  all_stay i (InService TwoWay) a b e = or_inl _ _ (single a)
  all_stay i (Shut k) a b e = absurd (false≢true e)

  same-reach : (r : Reach) → r.a < M.basins → r.b < M.basins → contracted_reach M r ≡ r
  same-reach r l m = rw (number-own r.a l, number-own r.b m)

  same-reaches : (o : ℕ) (t : List Reach) → ((i : ℕ) → i < length t → (in_service (get_or t i no_reach).state ≡ true) × ((get_or t i no_reach).a < M.basins) × ((get_or t i no_reach).b < M.basins)) → contracted_from M o t ≡ t
  same-reaches o [] f = refl
  same-reaches o (r ∷ t) f =
      let k = f 0 (omega arith) in
      rw (all_stay o r.state r.a r.b k.0) (ap₂ {C = List Reach} (λ x xs. x ∷ xs) (same-reach r k.1 k.2) (same-reaches (suc o) t (λ i l. f (suc i) (omega arith))))

  settled_same : contracted M ≡ M
  unfolding contracted component_count
  settled_same = ap₂ net (all-below M.basins (omega arith)) (same-reaches 0 M.reaches (λ i l. (settled.serves i l, settled.end-a i l, settled.end-b i l)))

-- what is contracted is such a network
get_or-in : {A : Type 0} (l : List A) (i : ℕ) (d : A) → i < length l → Memᴰ (get_or l i d) l
get_or-in [] i d h = absurd (not-suc-le-zero h)
get_or-in (x ∷ l) zero d h = mathlib.Core.List.Memᴰ.head refl
get_or-in (x ∷ l) (suc i) d h = mathlib.Core.List.Memᴰ.tail (get_or-in l i d (le_of_suc-le-suc h))

module _ (N : Network) (ok : Accepted N) where
  abbrev source : (i : ℕ) → i < length (contracted N).reaches → StayedFrom N 0 N.reaches (reach_at (contracted N) i)
  source i l = contracted-from N (reach_at (contracted N) i) (get_or-in (contracted N).reaches i no_reach l)

  contracted-settled : Settled (contracted N)
  contracted-settled =
      let f = accepted (contracted N) (contracted-accepted N ok) in
      record {
        serves = λ i l.
            let k = source i l in
            let r = reach_at N k.number in
            rw k.is (stays-serves N k.number r.state r.a r.b (rw zero-add at k.stayed));
        loops = λ i l e.
            let k = source i l in
            let r = reach_at N k.number in
            rw k.is (number_same N r.a r.b (two-way-connects N k.number k.below (subst (λ (x : Reach). is_two_way x.state ≡ true) k.is e)));
        end-a = f.end-a;
        end-b = f.end-b;
      }

  -- "Folding again changes nothing."
  pub contracted-again : contracted (contracted N) ≡ contracted N
  contracted-again = settled_same (contracted N) contracted-settled
