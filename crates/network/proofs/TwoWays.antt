-- Document 01: "A two-way reach is never lone: it counts as two flaps, one each way." Exchanged for these, it leaves plans, findings and replies as they are.
-- Assumes nothing.
use Prim.Native.Nat.{ℕ, zero, suc, ◌<◌}
use native.Mathlib.Omega.{arith}
use native.Mathlib.Decide.{dec_lt}
use mathlib.Core.Path.{◌≡◌, refl, sym, ap, ap₂, subst, ◌∙◌, fun_ext}
use mathlib.Core.Bool.{Bool, true, false, cond, not, ◌&&◌, ◌||◌, or_comm, false≢true}
use mathlib.Core.Logic.{⊎_elim, ◌≢◌}
use mathlib.Core.Option
use mathlib.Core.Option.{Option}
use mathlib.Core.List.Memᴰ
use mathlib.Core.List.{List, [], ◌∷◌, ◌++◌, append_assoc}
use lib.ListN.{length, get_or, set, replicate, length-set, length-append, get_or-append, get_or-map}
use lib.Seq.{get_or_at, map-set_same, set-get_or}
use lib.Dec.{eqb}
use borrow.Author.Tests.{le-leb}
use mathlib.Mathlib.Data.Bool.Basic.{Bool-eq-false}
use Rattle.lists.specs.Lists.{every, some?, find, keep, elem}
use Rattle.lists.proofs.Bools.{clash, same_test}
use Rattle.lists.proofs.Searches.{every-at, every-make, every-get_or, some-make, some-has, some-get_or}
use Rattle.network.specs.declared.Kind.TheVariants.{Flap, TwoWay}
use Rattle.network.specs.declared.State.TheVariants.{InService}
use Rattle.network.specs.declared.Reach.{Reach}
use Rattle.network.specs.Networks.{Network, max_reaches, ends_at, is_wet, basins_of, good_length, good_ends, Accepted}
use Rattle.network.specs.Settings.{is_gated, gates_from, gates, gate_count, is_setting, setting_fault}
use Rattle.network.specs.Orientations.{Arc, arc, way, after, ways, passing, arcs, arcs_under, reached, unoriented}
use Rattle.network.specs.Plans.{strongly_connected_under, is_plan, passable, first_plan, next_plan}
use Rattle.network.specs.Bridges.{sides, is_cut, crosses_by, no_reach, reach_at, crosses_alone, is_bridge, lowest_bridge}
use Rattle.network.specs.Marks.{marks_of, mark_count}
use Rattle.network.specs.Replies.{shut_in, shut_in_basin, shut_in_side, bridge_side, shut_in_finding, lone_finding, answer, first_answer, next_answer, room_fault, first_reply, next_reply}
use Rattle.network.specs.Choices.{plans, bound_bytes, flap_reach, flap_at}
use Rattle.network.specs.TwoWays.{two_flaps_at}
use Rattle.network.proofs.Walks.{Within, reached-same}
use Rattle.network.proofs.Ways.{reach_of, passing_at, split-in, split-own, split_rest, passing-either, length-ways, plain-after, plain-way}
use Rattle.network.proofs.Networks.{ends_below, fault-none, tests-passed, same-basins}
use Rattle.network.specs.Certificates.{Alone}
use Rattle.network.proofs.Bridges.{uncrossed, uncrossed-ends, alone-facts, alone-test, bridge-gated}
use Rattle.network.proofs.Order.{same_first, same_next}
use Rattle.network.proofs.Replies.{same-lowest, same-answers}
use Rattle.network.proofs.Choices.{same-plans, same-bound, flap-ends, flap-accepted}

-- ---- a list with one member replaced, and one more at its end

module _ {A : Type 0} where
  -- what f says of each member, if it says the same of the new one, and of the last what it says past the end
  set-alike : {X : Type 0} (f : A → X) (l : List A) (i k : ℕ) (x d : A) → f x ≡ f (get_or l i d) → f (get_or (set l i x) k d) ≡ f (get_or l k d)
  set-alike {X} f l i k x d e = sym (get_or-map f (set l i x) k d) ∙ ap (λ (m : List X). get_or m k (f d)) (map-set_same f l i x d e) ∙ get_or-map f l k d

  more-alike : {X : Type 0} (f : A → X) (l : List A) (k : ℕ) (x d : A) → f x ≡ f d → f (get_or (l ++ x ∷ []) k d) ≡ f (get_or l k d)
  more-alike f [] zero x d e = e
  more-alike f [] (suc k) x d e = refl
  more-alike f (y ∷ l) zero x d e = refl
  more-alike f (y ∷ l) (suc k) x d e = more-alike f l k x d e

  -- whether some member passes a test
  some-set : (p : A → Bool) (l : List A) (i : ℕ) (x d : A) → p x ≡ p (get_or l i d) → some? p (set l i x) ≡ some? p l
  some-set p [] i x d e = refl
  some-set p (y ∷ l) zero x d e = ap (λ (b : Bool). b || some? p l) e
  some-set p (y ∷ l) (suc i) x d e = ap (λ (b : Bool). p y || b) (some-set p l i x d e)

  some_more : (p : A → Bool) (l : List A) (x : A) → (p x ≡ true → some? p l ≡ true) → some? p (l ++ x ∷ []) ≡ some? p l
  some_more p l x f =
      same_test (some? p (l ++ x ∷ [])) (some? p l)
      (λ e.
      let k = some-has p (l ++ x ∷ []) e in
      ⊎_elim (λ m. some-make p m k.2) (λ m. f (subst (λ (y : A). p y ≡ true) (Memᴰ.eq_of_singleton m) k.2)) (Memᴰ.append_cases l k.1))
      (λ e. let k = some-has p l e in some-make p (Memᴰ.append_left (x ∷ []) k.1) k.2)

-- ---- a table

-- a reach that is no gate made a flap as drawn: the gates, the ways and the arcs
flap-gates : (o : ℕ) (t : List Reach) (i : ℕ) → is_gated (get_or t i no_reach).state ≡ false → gates_from o (set t i (flap_reach false (get_or t i no_reach))) ≡ gates_from o t
flap-gates o [] i e = refl
flap-gates o (r ∷ t) zero e = rw e
flap-gates o (r ∷ t) (suc i) e = ap (λ (g : List ℕ). cond (is_gated r.state) (o ∷ g) g) (flap-gates (suc o) t i e)

flap-ways : (t : List Reach) (h : List ℕ) (i : ℕ) → is_gated (get_or t i no_reach).state ≡ false → ways (set t i (flap_reach false (get_or t i no_reach))) h ≡ set (ways t h) i 0
flap-ways [] h i e = refl
flap-ways (r ∷ t) h zero e = rw (plain-after r.state h e)
flap-ways (r ∷ t) h (suc i) e = ap (λ (ws : List ℕ). way r.state h ∷ ws) (flap-ways t (after r.state h) i e)

flap-arcs : (t : List Reach) (ws : List ℕ) (i : ℕ) → arcs (set t i (flap_reach false (get_or t i no_reach))) ws ≡ arcs t ws
flap-arcs [] ws i = refl
flap-arcs (r ∷ t) [] zero = refl
flap-arcs (r ∷ t) [] (suc i) = refl
flap-arcs (r ∷ t) (w ∷ ws) zero = refl
flap-arcs (r ∷ t) (w ∷ ws) (suc i) = ap (λ (A : List Arc). passing w r.a r.b ++ A) (flap-arcs t ws i)

-- a flap more at the end
more-gates : (o : ℕ) (t : List Reach) (a b : ℕ) → gates_from o (t ++ reach_of (InService Flap) a b ∷ []) ≡ gates_from o t
more-gates o [] a b = refl
more-gates o (r ∷ t) a b = ap (λ (g : List ℕ). cond (is_gated r.state) (o ∷ g) g) (more-gates (suc o) t a b)

more-arcs : (t : List Reach) (h : List ℕ) (a b : ℕ) → arcs (t ++ reach_of (InService Flap) a b ∷ []) (ways (t ++ reach_of (InService Flap) a b ∷ []) h) ≡ arcs t (ways t h) ++ arc a b ∷ []
more-arcs [] h a b = refl
more-arcs (r ∷ t) h a b =
    let here = passing (way r.state h) r.a r.b in
    ap (λ (A : List Arc). here ++ A) (more-arcs t (after r.state h) a b) ∙ sym (append_assoc here (arcs t (ways t (after r.state h))) (arc a b ∷ []))

-- what stands past the end is no gate
gated-below : (t : List Reach) (k : ℕ) → is_gated (get_or t k no_reach).state ≡ true → k < length t
gated-below [] k e = absurd (false≢true e)
gated-below (r ∷ t) zero e = omega arith
gated-below (r ∷ t) (suc k) e = omega (arith, gated-below t k e)

-- ---- the network with its reach i as two flaps

module _ (N : Network) (i : ℕ) (l : i < length N.reaches) (two-way : (reach_at N i).state ≡ InService TwoWay) where
  abbrev M : Network
  M = two_flaps_at N i

  abbrev first : List Reach
  first = set N.reaches i (flap_reach false (reach_at N i))

  plain : is_gated (reach_at N i).state ≡ false
  plain = rw two-way

  -- gates and settings
  pub two-flaps-gates : gates M ≡ gates N
  two-flaps-gates = more-gates 0 first (reach_at N i).b (reach_at N i).a ∙ flap-gates 0 N.reaches i plain

  two-flaps-count : gate_count M ≡ gate_count N
  two-flaps-count = ap length two-flaps-gates

  pub two-flaps-setting : (s : List ℕ) → is_setting M s ≡ is_setting N s
  unfolding is_setting
  two-flaps-setting s = rw two-flaps-count

  -- wet basins
  pub two-flaps-basins : basins_of M ≡ basins_of N
  unfolding is_wet
  two-flaps-basins = same-basins M N refl wet
    where
      wet : (b : ℕ) → is_wet M b ≡ is_wet N b
      wet b =
          let same = some-set (ends_at b) N.reaches i (flap_reach false (reach_at N i)) no_reach (rw two-way) in
          some_more (ends_at b) first (flap_reach true (reach_at N i))
          (λ e. same ∙ some-get_or (ends_at b) N.reaches i no_reach l (rw two-way (or_comm (eqb (reach_at N i).a b) (eqb (reach_at N i).b b) ∙ e)))
          ∙ same

  -- the same arcs, in another order, and so the same basins reached
  module _ (h : List ℕ) where
    abbrev ws : List ℕ
    ws = ways N.reaches h

    abbrev split : List Arc
    split = arcs N.reaches (set ws i 0) ++ arc (reach_at N i).b (reach_at N i).a ∷ []

    abbrev whole : List Arc
    whole = arcs N.reaches (set ws i 2)

    split-is : arcs_under M h ≡ split
    split-is =
        more-arcs first h (reach_at N i).b (reach_at N i).a
        ∙ ap (λ (A : List Arc). A ++ arc (reach_at N i).b (reach_at N i).a ∷ []) (flap-arcs N.reaches (ways first h) i ∙ ap (arcs N.reaches) (flap-ways N.reaches h i plain))

    whole_is : arcs_under N h ≡ whole
    whole_is = ap (arcs N.reaches) (sym (set-get_or ws i 3) ∙ ap (set ws i) (plain-way N.reaches h i l plain ∙ rw two-way))

    own : (x : ℕ) → Within (passing_at N.reaches i x) (arcs N.reaches (set ws i x))
    own x = split-own N.reaches ws i x l (omega (arith, length-ways N.reaches h))

    forth : Within split whole
    forth y m =
        ⊎_elim
        (λ k. ⊎_elim (λ o. own 2 y (passing-either 0 _ _ y o)) (λ o. split_rest N.reaches ws i 2 y o) (split-in N.reaches ws i 0 y k))
        (λ k. own 2 y (Memᴰ.tail k))
        (Memᴰ.append_cases (arcs N.reaches (set ws i 0)) m)

    back : Within whole split
    back y m =
        ⊎_elim
        (λ k. ⊎_elim (λ e. Memᴰ.append_left _ (own 0 y (Memᴰ.head e))) (λ o. Memᴰ.append_right (arcs N.reaches (set ws i 0)) o) (Memᴰ.cases_cons k))
        (λ o. Memᴰ.append_left _ (split_rest N.reaches ws i 0 y o))
        (split-in N.reaches ws i 2 y m)

    same-reached : reached (arcs_under M h) ≡ reached (arcs_under N h)
    same-reached = rw (split-is, whole_is) (fun_ext (λ u. fun_ext (λ v. reached-same split whole u v forth back)))

    same-strong : strongly_connected_under M h ≡ strongly_connected_under N h
    unfolding strongly_connected_under
    same-strong = ap₂ (λ (bs : List ℕ) (R : ℕ → ℕ → Bool). every (λ u. every (R u) bs) bs) two-flaps-basins same-reached

  -- plans
  pub two-flaps-plan : (s : List ℕ) → is_plan M s ≡ is_plan N s
  unfolding is_plan
  two-flaps-plan s = ap₂ ◌&&◌ (two-flaps-setting s) (same-strong s)

  pub two-flaps-first : first_plan M ≡ first_plan N
  two-flaps-first = same_first M N two-flaps-count two-flaps-plan

  pub two-flaps-next : (s : List ℕ) → next_plan M s ≡ next_plan N s
  two-flaps-next = same_next M N two-flaps-count two-flaps-plan

  pub two-flaps-plans : plans M ≡ plans N
  two-flaps-plans = same-plans M N two-flaps-count two-flaps-plan

  pub two-flaps-bound : bound_bytes M ≡ bound_bytes N
  two-flaps-bound = same-bound M N two-flaps-count two-flaps-plans

  -- with every gate usable either way
  pub two-flaps-passable : passable M ≡ passable N
  unfolding passable
  two-flaps-passable = ap (λ (g : ℕ). strongly_connected_under M (replicate g 2)) two-flaps-count ∙ same-strong (unoriented N)

  pub two-flaps-shut-in : shut_in_finding M ≡ shut_in_finding N
  unfolding shut_in_finding shut_in_side shut_in_basin
  two-flaps-shut-in =
      ap₂ (λ (bs : List ℕ) (R : ℕ → ℕ → Bool). let m = marks_of (keep (R (Option.get_or (find (λ u. not (every (R u) bs)) bs) 0)) bs) in shut_in m (mark_count m))
      two-flaps-basins (ap (λ (g : ℕ). reached (arcs_under M (replicate g 2))) two-flaps-count ∙ same-reached (unoriented N))

  -- ---- lone reaches

  longer : length M.reaches ≡ suc (length N.reaches)
  longer = omega (arith, length-append first (flap_reach true (reach_at N i) ∷ []), length-set N.reaches i (flap_reach false (reach_at N i)))

  -- both flaps cross what the two-way reach crosses, and the other reaches are as they were
  crossed : (S : ℕ → Bool) (j : ℕ) → j < length N.reaches → crosses_by S (reach_at M j) ≡ crosses_by S (reach_at N j)
  crossed S j jl =
      ap (crosses_by S) (get_or-append first (flap_reach true (reach_at N i) ∷ []) no_reach j (omega (arith, length-set N.reaches i (flap_reach false (reach_at N i)))))
      ∙ set-alike (crosses_by S) N.reaches i j (flap_reach false (reach_at N i)) no_reach (rw two-way)

  uncrossed-last : (S : ℕ → Bool) → crosses_by S (reach_at N i) ≡ false → crosses_by S (reach_at M (length N.reaches)) ≡ false
  uncrossed-last S e =
      ap (crosses_by S) (get_or_at first (flap_reach true (reach_at N i)) [] no_reach (length N.reaches) (length-set N.reaches i (flap_reach false (reach_at N i))))
      ∙ uncrossed S (flap_reach true (reach_at N i)) (λ s. sym (uncrossed-ends S (reach_at N i) e (rw two-way)))

  same-gated : (k : ℕ) → is_gated (reach_at M k).state ≡ is_gated (reach_at N k).state
  same-gated k =
      more-alike (λ r. is_gated r.state) first k (flap_reach true (reach_at N i)) no_reach refl
      ∙ set-alike (λ r. is_gated r.state) N.reaches i k (flap_reach false (reach_at N i)) no_reach (sym plain)

  module _ (k : ℕ) (gated : is_gated (reach_at N k).state ≡ true) where
    other : i ≢ k
    other same = clash gated (subst (λ (j : ℕ). is_gated (reach_at N j).state ≡ false) same plain)

    below : k < length N.reaches
    below = gated-below N.reaches k gated

    -- a gate that alone crosses a side still does, and none does that did not
    alone-new : (S : ℕ → Bool) → Alone N S k → Alone M S k
    alone-new S f = record { crossing = crossed S k below ∙ f.crossing; others = λ j jl n. at j jl n (dec_lt j (length N.reaches)) }
      where
        at : (j : ℕ) → j < length M.reaches → j ≢ k → Dec (j < length N.reaches) → crosses_by S (reach_at M j) ≡ false
        at j jl n (yes m) = crossed S j m ∙ f.others j m n
        at j jl n (no m) = let last : j ≡ length N.reaches = omega (arith, longer, jl) in rw last (uncrossed-last S (f.others i l other))

    alone-old : (S : ℕ → Bool) → Alone M S k → Alone N S k
    alone-old S f = record { crossing = sym (crossed S k below) ∙ f.crossing; others = λ j jl n. sym (crossed S j jl) ∙ f.others j (omega (arith, longer)) n }

    same-alone : (S : List ℕ) → crosses_alone M S k ≡ crosses_alone N S k
    same-alone S =
        same_test (crosses_alone M S k) (crosses_alone N S k)
        (λ e. alone-test N S k (alone-old (λ b. elem b S) (alone-facts M S k (omega (arith, longer, below)) e)))
        (λ e. alone-test M S k (alone-new (λ b. elem b S) (alone-facts N S k below e)))

    pub two-flaps-side : bridge_side M k ≡ bridge_side N k
    unfolding bridge_side
    two-flaps-side =
        ap₂ (λ (bs : List ℕ) (alone : List ℕ → Bool). Option.get_or (find (λ S. not (elem (get_or bs 0 0) S) && (is_cut bs S && alone S)) (sides bs)) [])
        two-flaps-basins (fun_ext same-alone)

  pub two-flaps-bridge : (k : ℕ) → is_bridge M k ≡ is_bridge N k
  unfolding is_bridge
  two-flaps-bridge k = rw (same-gated k) (go (is_gated (reach_at N k).state) refl)
    where
      go : (g : Bool) → is_gated (reach_at N k).state ≡ g → g && some? (λ S. is_cut (basins_of M) S && crosses_alone M S k) (sides (basins_of M)) ≡ g && some? (λ S. is_cut (basins_of N) S && crosses_alone N S k) (sides (basins_of N))
      go false e = refl
      go true e = ap₂ (λ (bs : List ℕ) (alone : List ℕ → Bool). some? (λ S. is_cut bs S && alone S) (sides bs)) two-flaps-basins (fun_ext (same-alone k e))

  pub two-flaps-lowest : lowest_bridge M ≡ lowest_bridge N
  two-flaps-lowest = same-lowest M N two-flaps-bridge

  same-lone : (k : ℕ) → is_bridge N k ≡ true → lone_finding M k ≡ lone_finding N k
  unfolding lone_finding
  same-lone k e = rw (two-flaps-side k (bridge-gated N k e))

  -- "A two-way reach is never lone"
  pub two-way-never-lone : is_bridge N i ≡ false
  two-way-never-lone = Bool-eq-false {b = is_bridge N i} (λ e. clash (bridge-gated N i e) plain)

  -- ---- replies

  pub two-flaps-answer : (p : Option (List ℕ)) → answer M p ≡ answer N p
  two-flaps-answer = same-answers M N two-flaps-passable two-flaps-bridge two-flaps-shut-in same-lone

  -- the table has one reach more
  module _ (ok : Accepted N) (room : length N.reaches < max_reaches) where
    pub two-flaps-accepted : Accepted M
    two-flaps-accepted =
        let good = tests-passed N ok in
        let few : good_length M ≡ true = le-leb (length M.reaches) max_reaches (omega (arith, longer)) in
        let one = (tests-passed (flap_at N i false) (flap-accepted N ok i l false)).2 in
        let last = flap-ends N.basins true (reach_at N i) (every-get_or (ends_below N.basins) N.reaches i no_reach good.2 l) in
        let ends : good_ends M ≡ true =
        every-make (ends_below N.basins) M.reaches
        (λ r m. ⊎_elim (every-at (ends_below N.basins) one) (λ k. ap (ends_below N.basins) (Memᴰ.eq_of_singleton k) ∙ last) (Memᴰ.append_cases first m)) in
        fault-none M good.0 few ends

    pub two-flaps-first-reply : (plan_length marks_length : ℕ) → first_reply M plan_length marks_length ≡ first_reply N plan_length marks_length
    unfolding first_reply first_answer room_fault
    two-flaps-first-reply plan_length marks_length = rw (two-flaps-accepted, ok, two-flaps-count, two-flaps-first, two-flaps-answer)

    pub two-flaps-next-reply : (s : List ℕ) (plan_length marks_length : ℕ) → next_reply M s plan_length marks_length ≡ next_reply N s plan_length marks_length
    unfolding next_reply next_answer room_fault setting_fault
    two-flaps-next-reply s plan_length marks_length = rw (two-flaps-accepted, ok, two-flaps-setting s, two-flaps-count, two-flaps-next s, two-flaps-answer)
