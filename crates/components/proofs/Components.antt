-- Laws of components: being connected is an equivalence, the representative is the lowest member, and the numbers of components tell them apart.
-- Assumes nothing.
use Prim.Native.Nat.{ℕ, zero, suc, ◌+◌, ◌-◌, ◌≤◌, ◌<◌}
use native.Mathlib.Numerals.{add-one}
use native.Mathlib.Omega.{arith}
use mathlib.Core.Path.{◌≡◌, refl, sym, ap, subst, ◌∙◌}
use mathlib.Core.Bool.{Bool, true, false, cond, not, ◌&&◌}
use mathlib.Core.Logic.{◌⊎◌, inl, inr, ⊎_elim}
use mathlib.Core.List.{List, [], ◌∷◌, ◌++◌, append_assoc, Memᴰ}
use native.Mathlib.Nat.{not-suc-le-zero, le_of_suc-le-suc, zero-add}
use mathlib.Core.Option.{Option, none, some}
use mathlib.Mathlib.Data.Bool.Basic.{and_elim_left, and_elim_right, and_intro, Bool-eq-false}
use lib.ListN.{length, get_or}
use lib.Dec.{eqb}
use borrow.Author.Tests.{eqb-true, eqb-false, eq-eqb, not-true, not-false}
use Rattle.lists.specs.Lists.{range, some?, find, keep}
use Rattle.lists.proofs.Bools.{decide, clash, same_test}
use Rattle.lists.proofs.Ranges.{range-has, range-in, range-add, length-range}
use Rattle.lists.proofs.Searches.{find-lowest, find-some, find_none, find_first, keep-first, keep_same, count-append, length-keep, some-has, some-none}
use Rattle.network.specs.declared.Reach.{Reach}
use Rattle.network.specs.Networks.{Network}
use Rattle.network.specs.Orientations.{Arc, arc, passing, Walk, stay, step}
use Rattle.network.specs.Bridges.{no_reach, reach_at}
use Rattle.network.proofs.Walks.{walk-trans, walk-arc, walk-reached, reached-walk, arc-from, arc-to}
use Rattle.components.specs.Components.{is_two_way, two_way_arcs, connected, component, representative, is_representative, component_number, component_count, is_singleton}

-- ---- how many numbers below another pass a test

module _ (p : ℕ → Bool) where
  pub count-split : (i d : ℕ) → length (keep p (range 0 (i + d))) ≡ length (keep p (range 0 i)) + length (keep p (range i d))
  count-split i d = ap (λ (l : List ℕ). length (keep p l)) (range-add 0 i d) ∙ count-append p (range 0 i) (range (0 + i) d) ∙ ap (λ (j : ℕ). length (keep p (range 0 i)) + length (keep p (range j d))) (zero-add i)

  -- one more, as it passes or not
  pub count_yes : (i : ℕ) → p i ≡ true → length (keep p (range 0 (i + 1))) ≡ length (keep p (range 0 i)) + 1
  count_yes i e = count-split i 1 ∙ rw e

  pub count_no : (i : ℕ) → p i ≡ false → length (keep p (range 0 (i + 1))) ≡ length (keep p (range 0 i))
  count_no i e = count-split i 1 ∙ rw e (omega arith)

  pub count_next : (i : ℕ) → p i ≡ true → length (keep p (range 0 (suc i))) ≡ suc (length (keep p (range 0 i)))
  count_next i e = ap (λ (k : ℕ). length (keep p (range 0 k))) (sym (add-one i)) ∙ count_yes i e ∙ add-one (length (keep p (range 0 i)))

  -- above one that passes there are more
  pub count-rises : (i j : ℕ) → p i ≡ true → i < j → length (keep p (range 0 i)) < length (keep p (range 0 j))
  count-rises i j e l =
      let same : j ≡ (i + 1) + (j - (i + 1)) = omega arith in
      omega (arith, ap (λ (k : ℕ). length (keep p (range 0 k))) same, count-split (i + 1) (j - (i + 1)), count_yes i e)

-- ---- the arcs of two-way reaches

pub two-way-append : (t u : List Reach) → two_way_arcs (t ++ u) ≡ two_way_arcs t ++ two_way_arcs u
two-way-append [] u = refl
two-way-append (r ∷ t) u =
    ap (λ (A : List Arc). cond (is_two_way r.state) (passing 2 r.a r.b) [] ++ A) (two-way-append t u)
    ∙ sym (append_assoc (cond (is_two_way r.state) (passing 2 r.a r.b) []) (two_way_arcs t) (two_way_arcs u))

-- with an arc there is the arc back
back-here : (b : Bool) (x y c d : ℕ) → Memᴰ (arc c d) (cond b (passing 2 x y) []) → Memᴰ (arc d c) (cond b (passing 2 x y) [])
back-here false x y c d m = absurd (mathlib.Core.List.Memᴰ.not-nil m)
back-here true x y c d m =
    ⊎_elim
    (λ e. mathlib.Core.List.Memᴰ.tail (mathlib.Core.List.Memᴰ.head (let p = arc-from e in let q = arc-to e in rw (p, q))))
    (λ n. ⊎_elim (λ e. mathlib.Core.List.Memᴰ.head (let p = arc-from e in let q = arc-to e in rw (p, q))) (λ o. absurd (mathlib.Core.List.Memᴰ.not-nil o)) (mathlib.Core.List.Memᴰ.cases_cons n))
    (mathlib.Core.List.Memᴰ.cases_cons m)

arc-back : (t : List Reach) (c d : ℕ) → Memᴰ (arc c d) (two_way_arcs t) → Memᴰ (arc d c) (two_way_arcs t)
arc-back [] c d m = absurd (mathlib.Core.List.Memᴰ.not-nil m)
arc-back (r ∷ t) c d m =
    let here = cond (is_two_way r.state) (passing 2 r.a r.b) [] in
    ⊎_elim
    (λ n. mathlib.Core.List.Memᴰ.append_left (two_way_arcs t) (back-here (is_two_way r.state) r.a r.b c d n))
    (λ n. mathlib.Core.List.Memᴰ.append_right here (arc-back t c d n))
    (mathlib.Core.List.Memᴰ.append_cases here m)

pub walk-back : (t : List Reach) {u v : ℕ} → Walk (two_way_arcs t) u v → Walk (two_way_arcs t) v u
walk-back t stay = stay
walk-back t (step {u = c} {v = d} m p) = walk-trans (walk-back t p) (walk-arc (arc-back t c d m))

arc-here : (b : Bool) (x y : ℕ) → b ≡ true → Memᴰ (arc x y) (cond b (passing 2 x y) [])
arc-here b x y e = rw e (mathlib.Core.List.Memᴰ.head refl)

two-way-arc : (t : List Reach) (i : ℕ) → i < length t → is_two_way (get_or t i no_reach).state ≡ true → Memᴰ (arc (get_or t i no_reach).a (get_or t i no_reach).b) (two_way_arcs t)
two-way-arc [] i l e = absurd (not-suc-le-zero l)
two-way-arc (r ∷ t) zero l e = mathlib.Core.List.Memᴰ.append_left (two_way_arcs t) (arc-here (is_two_way r.state) r.a r.b e)
two-way-arc (r ∷ t) (suc i) l e = mathlib.Core.List.Memᴰ.append_right (cond (is_two_way r.state) (passing 2 r.a r.b) []) (two-way-arc t i (le_of_suc-le-suc l) e)

-- an arc comes from a two-way reach between its ends
pub record TwoWayArc (t : List Reach) (c d : ℕ) : Type 0 where
  pub number : ℕ
  pub below : number < length t
  pub two-way : is_two_way (get_or t number no_reach).state ≡ true
  pub ends : (((get_or t number no_reach).a ≡ c) × ((get_or t number no_reach).b ≡ d)) ⊎ (((get_or t number no_reach).b ≡ c) × ((get_or t number no_reach).a ≡ d))

pub arc-source : (t : List Reach) (c d : ℕ) → Memᴰ (arc c d) (two_way_arcs t) → TwoWayArc t c d
arc-source [] c d m = absurd (mathlib.Core.List.Memᴰ.not-nil m)
arc-source (r ∷ t) c d m = ⊎_elim first (λ n. let k = arc-source t c d n in record { number = suc k.number; below = omega (arith, k.below); two-way = k.two-way; ends = k.ends })
    (mathlib.Core.List.Memᴰ.append_cases (cond (is_two_way r.state) (passing 2 r.a r.b) []) m)
  where
    ends : Memᴰ (arc c d) (passing 2 r.a r.b) → ((r.a ≡ c) × (r.b ≡ d)) ⊎ ((r.b ≡ c) × (r.a ≡ d))
    ends n =
        ⊎_elim (λ e. inl (sym (arc-from e), sym (arc-to e)))
        (λ o. ⊎_elim (λ e. inr (sym (arc-from e), sym (arc-to e))) (λ z. absurd (mathlib.Core.List.Memᴰ.not-nil z)) (mathlib.Core.List.Memᴰ.cases_cons o)) (mathlib.Core.List.Memᴰ.cases_cons n)

    first : Memᴰ (arc c d) (cond (is_two_way r.state) (passing 2 r.a r.b) []) → TwoWayArc (r ∷ t) c d
    first n =
        ⊎_elim
        (λ y. record { number = 0; below = omega arith; two-way = y; ends = ends (rw y at n) })
        (λ y. absurd (mathlib.Core.List.Memᴰ.not-nil (rw y at n)))
        (decide (is_two_way r.state))

-- ---- connected basins

module _ (N : Network) where
  pub connected-walk : (u v : ℕ) → connected N u v ≡ true → Walk (two_way_arcs N.reaches) u v
  unfolding connected
  connected-walk u v e = reached-walk (two_way_arcs N.reaches) u v e

  pub walk-connected : (u v : ℕ) → Walk (two_way_arcs N.reaches) u v → connected N u v ≡ true
  unfolding connected
  walk-connected u v p = walk-reached p

  pub connected-refl : (u : ℕ) → connected N u u ≡ true
  connected-refl u = walk-connected u u stay

  pub connected-sym : (u v : ℕ) → connected N u v ≡ true → connected N v u ≡ true
  connected-sym u v e = walk-connected v u (walk-back N.reaches (connected-walk u v e))

  pub connected-trans : (u v w : ℕ) → connected N u v ≡ true → connected N v w ≡ true → connected N u w ≡ true
  connected-trans u v w e f = walk-connected u w (walk-trans (connected-walk u v e) (connected-walk v w f))

  -- connected basins are connected with the same
  connected-alike : (u v : ℕ) → connected N u v ≡ true → (w : ℕ) → connected N u w ≡ connected N v w
  connected-alike u v e w = same_test (connected N u w) (connected N v w) (λ f. connected-trans v u w (connected-sym u v e) f) (λ f. connected-trans u v w e f)

  -- the ends of a two-way reach in service are
  pub two-way-connects : (i : ℕ) → i < length N.reaches → is_two_way (reach_at N i).state ≡ true → connected N (reach_at N i).a (reach_at N i).b ≡ true
  two-way-connects i l e = walk-connected _ _ (walk-arc (two-way-arc N.reaches i l e))

  -- ---- the representative

  -- it is what is found first among the basins
  pub representative-is : (v r : ℕ) → r < N.basins → connected N v r ≡ true → ((u : ℕ) → u < N.basins → connected N v u ≡ true → r ≤ u) → representative N v ≡ r
  unfolding representative component
  representative-is v r l e f =
      keep-first (connected N v) 0 (range 0 N.basins)
      (find-lowest (connected N v) 0 N.basins r (omega arith) (omega arith) e (λ j a b. Bool-eq-false {b = connected N v j} (λ g. absurd (omega (arith, f j (omega arith) g)))))

  -- and there is one, since a basin is in its own component
  record Lowest (v : ℕ) : Type 0 where
    it : ℕ
    below : it < N.basins
    connects : connected N v it ≡ true
    least : (u : ℕ) → u < N.basins → connected N v u ≡ true → it ≤ u

  lowest : (v : ℕ) → v < N.basins → Lowest v
  lowest v l = go (find (connected N v) (range 0 N.basins)) refl
    where
      go : (o : Option ℕ) → find (connected N v) (range 0 N.basins) ≡ o → Lowest v
      go none e = clash (connected-refl v) (find_none (connected N v) e (range-has 0 N.basins (omega arith) (omega arith)))
      go (some k) e =
          let found = find-some (connected N v) (range 0 N.basins) e in
          let in-range = range-in 0 N.basins found.0 in
          record {
            it = k;
            below = omega (arith, in-range.1);
            connects = found.1;
            least = λ u m g. let lower : u < k → ⊥ = λ h. clash g (find_first (connected N v) 0 N.basins e u (omega arith) h) in omega (arith, lower);
          }

  represents : (v : ℕ) (l : v < N.basins) → representative N v ≡ (lowest v l).it
  represents v l = let w = lowest v l in representative-is v w.it w.below w.connects w.least

  pub representative-connected : (v : ℕ) → v < N.basins → connected N v (representative N v) ≡ true
  representative-connected v l = rw (represents v l) (lowest v l).connects

  pub representative-below : (v : ℕ) → v < N.basins → representative N v < N.basins
  representative-below v l = rw (represents v l) (lowest v l).below

  -- connected basins have the same
  pub representative-same : (u v : ℕ) → connected N u v ≡ true → representative N u ≡ representative N v
  unfolding representative component
  representative-same u v e = ap (λ (l : List ℕ). get_or l 0 0) (keep_same (connected N u) (connected N v) (range 0 N.basins) (λ w m. connected-alike u v e w))

  pub representative-least : (v u : ℕ) → u < N.basins → connected N v u ≡ true → representative N v ≤ u
  representative-least v u l e = rw (representative-same v u e, represents u l) ((lowest u l).least u l (connected-refl u))

  -- it is its own
  pub representative-own : (v : ℕ) → v < N.basins → representative N (representative N v) ≡ representative N v
  representative-own v l = sym (representative-same v (representative N v) (representative-connected v l))

  -- ---- the numbers of components

  own-passes : (v : ℕ) → representative N v ≡ v → is_representative N v ≡ true
  own-passes v e = eq-eqb (representative N v) v e

  pub number_same : (u v : ℕ) → connected N u v ≡ true → component_number N u ≡ component_number N v
  unfolding component_number
  number_same u v e = ap (λ (r : ℕ). length (keep (is_representative N) (range 0 r))) (representative-same u v e)

  pub number_at : (v : ℕ) → representative N v ≡ v → component_number N v ≡ length (keep (is_representative N) (range 0 v))
  unfolding component_number
  number_at v e = ap (λ (r : ℕ). length (keep (is_representative N) (range 0 r))) e

  -- of two lowest members the lower has the lower number
  number-rises : (u v : ℕ) → u < N.basins → representative N u < representative N v → component_number N u < component_number N v
  unfolding component_number
  number-rises u v l h = count-rises (is_representative N) (representative N u) (representative N v) (own-passes (representative N u) (representative-own u l)) h

  pub same_number : (u v : ℕ) → u < N.basins → v < N.basins → component_number N u ≡ component_number N v → connected N u v ≡ true
  same_number u v l m e =
      let up : representative N u < representative N v → ⊥ = λ h. omega (arith, e, number-rises u v l h) in
      let down : representative N v < representative N u → ⊥ = λ h. omega (arith, e, number-rises v u m h) in
      let same : representative N u ≡ representative N v = omega (arith, up, down) in
      connected-trans u (representative N u) v (representative-connected u l) (rw same (connected-sym v (representative N v) (representative-connected v m)))

  pub connected-eqb : (u v : ℕ) → u < N.basins → v < N.basins → connected N u v ≡ eqb (component_number N u) (component_number N v)
  connected-eqb u v l m =
      same_test (connected N u v) (eqb (component_number N u) (component_number N v)) (λ e. eq-eqb (component_number N u) (component_number N v) (number_same u v e))
      (λ e. same_number u v l m (eqb-true (component_number N u) (component_number N v) e))

  -- they are those below the count, and each of these is the number of a component
  pub number-below : (v : ℕ) → v < N.basins → component_number N v < component_count N
  unfolding component_number component_count
  number-below v l = count-rises (is_representative N) (representative N v) N.basins (own-passes (representative N v) (representative-own v l)) (representative-below v l)

  pub count-few : component_count N ≤ N.basins
  unfolding component_count
  count-few = omega (arith, length-keep (is_representative N) (range 0 N.basins), length-range 0 N.basins)

  -- ---- components of one

  pub singleton-alone : (b v : ℕ) → is_singleton N b ≡ true → v < N.basins → connected N b v ≡ true → v ≡ b
  unfolding is_singleton
  singleton-alone b v e l f =
      let among : Memᴰ v (range 0 N.basins) = range-has 0 N.basins (omega arith) (omega arith) in
      let no_other = some-none (λ w. connected N b w && not (eqb w b)) (not-true _ e) among in
      ⊎_elim (λ y. eqb-true v b y) (λ n. clash (and_intro f (ap not n)) no_other) (decide (eqb v b))

  -- in a component that is not of one there is another
  pub singleton-other : (b : ℕ) → is_singleton N b ≡ false → (v : ℕ) × (v < N.basins) × (connected N b v ≡ true) × (v ≡ b → ⊥)
  unfolding is_singleton
  singleton-other b e =
      let k = some-has (λ w. connected N b w && not (eqb w b)) (range 0 N.basins) (not-false _ e) in
      let c = connected N b k.0 in
      (k.0, omega (arith, range-in 0 N.basins k.1), and_elim_left c _ k.2, eqb-false k.0 b (not-true _ (and_elim_right c _ k.2)))

  pub singleton-is : (b : ℕ) → ((v : ℕ) → v < N.basins → connected N b v ≡ true → v ≡ b) → is_singleton N b ≡ true
  unfolding is_singleton
  singleton-is b f =
      ap not
      (Bool-eq-false {b = some? (λ w. connected N b w && not (eqb w b)) (range 0 N.basins)}
      (λ e.
      let k = some-has (λ w. connected N b w && not (eqb w b)) (range 0 N.basins) e in
      let c = connected N b k.0 in
      clash (eq-eqb k.0 b (f k.0 (omega (arith, range-in 0 N.basins k.1)) (and_elim_left c _ k.2))) (not-true _ (and_elim_right c _ k.2))))

  pub singleton-not : (b v : ℕ) → v < N.basins → connected N b v ≡ true → (v ≡ b → ⊥) → is_singleton N b ≡ false
  singleton-not b v l e n = Bool-eq-false {b = is_singleton N b} (λ s. n (singleton-alone b v s l e))

  pub singleton-same : (u v : ℕ) → u < N.basins → v < N.basins → connected N u v ≡ true → is_singleton N u ≡ is_singleton N v
  singleton-same u v l m e =
      same_test (is_singleton N u) (is_singleton N v) (λ s. subst (λ (w : ℕ). is_singleton N w ≡ true) (sym (singleton-alone u v s m e)) s)
      (λ s. subst (λ (w : ℕ). is_singleton N w ≡ true) (sym (singleton-alone v u s l (connected-sym u v e))) s)
