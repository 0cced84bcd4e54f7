-- What stays of a table: its reaches, its gates, and what it passes.
-- Assumes nothing.
use Prim.Native.Nat.{ℕ, zero, suc, ◌+◌, ◌≤◌, ◌<◌}
use native.Mathlib.Nat.{not-suc-le-zero, le_of_suc-le-suc, add-zero, add-suc, suc-add}
use native.Mathlib.Omega.{arith}
use mathlib.Core.Path.{◌≡◌, refl, sym, ap, ap₂, ◌∙◌}
use mathlib.Core.Bool.{Bool, true, false, cond, not, ◌||◌, true≢false, false≢true}
use mathlib.Core.Logic.{◌⊎◌, inl, inr, ⊎_elim}
use mathlib.Core.List.{List, [], ◌∷◌, ◌++◌, Memᴰ}
use lib.ListN.{length, get_or}
use Rattle.lists.proofs.Bools.{decide, clash}
use Rattle.lists.proofs.Lists.{length-cond-le}
use Rattle.network.specs.declared.Kind.TheVariants.{Gated, Flap, TwoWay}
use Rattle.network.specs.declared.State.{State}
use Rattle.network.specs.declared.State.TheVariants.{InService, Shut}
use Rattle.network.specs.declared.Reach.{Reach}
use Rattle.network.specs.Networks.{Network, in_service}
use Rattle.network.specs.Settings.{is_gated, gates_from}
use Rattle.network.specs.Orientations.{Arc, arc, way, after, ways, passing, arcs}
use Rattle.network.specs.Bridges.{no_reach}
use Rattle.network.proofs.Walks.{Within, arc-from, arc-to}
use Rattle.network.proofs.Ways.{reach_of, plain-after}
use Rattle.network.proofs.Networks.{passing-ends}
use Rattle.components.specs.Components.{is_two_way, two_way_arcs, connected, component_number, is_singleton}
use Rattle.components.specs.Contracted.{stays, contracted_reach, contracted_from}
use Rattle.components.proofs.Components.{number_same}

module _ (N : Network) where
  -- ---- which reaches stay

  -- a gate does; what drops and is in service has its ends in one component, if a two-way reach has
  dropped-plain : (i : ℕ) (d : State) (a b : ℕ) → stays N i d a b ≡ false → is_gated d ≡ false
  dropped-plain i (InService Gated) a b e = absurd (true≢false e)
  dropped-plain i (InService Flap) a b e = refl
  dropped-plain i (InService TwoWay) a b e = refl
  dropped-plain i (Shut k) a b e = refl

  -- what stays is in service
  pub stays-serves : (i : ℕ) (d : State) (a b : ℕ) → stays N i d a b ≡ true → in_service d ≡ true
  stays-serves i (InService k) a b e = refl
  stays-serves i (Shut k) a b e = absurd (false≢true e)

  pub inner : (a b : ℕ) (s : Bool) → not (connected N a b) || s ≡ false → connected N a b ≡ true
  inner a b s e = ⊎_elim (λ y. y) (λ n. clash (ap (λ (x : Bool). not x || s) n) e) (decide (connected N a b))

  dropped-alike : (i : ℕ) (d : State) (a b : ℕ) → (is_two_way d ≡ true → connected N a b ≡ true) → in_service d ≡ true → stays N i d a b ≡ false → component_number N a ≡ component_number N b
  dropped-alike i (InService Gated) a b f s e = absurd (true≢false e)
  dropped-alike i (InService Flap) a b f s e = number_same N a b (inner a b (is_singleton N a) e)
  dropped-alike i (InService TwoWay) a b f s e = number_same N a b (f refl)
  dropped-alike i (Shut k) a b f s e = absurd (false≢true s)

  -- ---- the reaches that stay

  pub stayed-few : (o : ℕ) (t : List Reach) → length (contracted_from N o t) ≤ length t
  stayed-few o [] = omega arith
  stayed-few o (r ∷ t) = length-cond-le (stays N o r.state r.a r.b) (contracted_reach N r) (contracted_from N (suc o) t) (length t) (stayed-few (suc o) t)

  -- each is what stays of a reach of the table
  abbrev pub stays_at : ℕ → Reach → Bool
  stays_at i r = stays N i r.state r.a r.b

  pub record StayedFrom (o : ℕ) (t : List Reach) (r : Reach) : Type 0 where
    pub number : ℕ
    pub below : number < length t
    pub stayed : stays_at (o + number) (get_or t number no_reach) ≡ true
    pub is : r ≡ contracted_reach N (get_or t number no_reach)

  later : (o : ℕ) (x : Reach) (t : List Reach) (r : Reach) → StayedFrom (suc o) t r → StayedFrom o (x ∷ t) r
  later o x t r k = record { number = suc k.number; below = omega (arith, k.below); stayed = rw add-suc (rw suc-add at k.stayed); is = k.is }

  pub stayed-from : (o : ℕ) (t : List Reach) (r : Reach) → Memᴰ r (contracted_from N o t) → StayedFrom o t r
  stayed-from o [] r m = absurd (mathlib.Core.List.Memᴰ.not-nil m)
  stayed-from o (x ∷ t) r m =
      let rest : Memᴰ r (contracted_from N (suc o) t) → StayedFrom o (x ∷ t) r = λ n. later o x t r (stayed-from (suc o) t r n) in
      ⊎_elim
      (λ e. ⊎_elim (λ q. record { number = 0; below = omega arith; stayed = rw add-zero e; is = q }) rest (mathlib.Core.List.Memᴰ.cases_cons (rw e at m)))
      (λ e. rest (rw e at m))
      (decide (stays_at o x))

  -- and what stays of a reach is there
  kept_more : (o : ℕ) (x y : Reach) (t : List Reach) → Memᴰ y (contracted_from N (suc o) t) → Memᴰ y (contracted_from N o (x ∷ t))
  kept_more o x y t m = ⊎_elim (λ e. rw e (mathlib.Core.List.Memᴰ.tail m)) (λ e. rw e m) (decide (stays_at o x))

  pub kept-has : (o : ℕ) (t : List Reach) (i : ℕ) → i < length t → stays_at (o + i) (get_or t i no_reach) ≡ true → Memᴰ (contracted_reach N (get_or t i no_reach)) (contracted_from N o t)
  kept-has o [] i l e = absurd (not-suc-le-zero l)
  kept-has o (x ∷ t) zero l e = rw (rw add-zero at e) (mathlib.Core.List.Memᴰ.head refl)
  kept-has o (x ∷ t) (suc i) l e = kept_more o x _ t (kept-has (suc o) t i (le_of_suc-le-suc l) (rw suc-add (rw add-suc at e)))

  -- ---- gates

  -- the gates are as many, whatever numbers they have
  gates-step : (d : State) (a b o p q : ℕ) (t : List Reach) → ((p q : ℕ) → length (gates_from p (contracted_from N (suc o) t)) ≡ length (gates_from q t))
      → length (gates_from p (contracted_from N o (reach_of d a b ∷ t))) ≡ length (gates_from q (reach_of d a b ∷ t))
  gates-step (InService Gated) a b o p q t f = ap suc (f (suc p) (suc q))
  gates-step (InService Flap) a b o p q t f = ⊎_elim (λ e. rw e (f (suc p) (suc q))) (λ e. rw e (f p (suc q))) (decide (stays N o (InService Flap) a b))
  gates-step (InService TwoWay) a b o p q t f = ⊎_elim (λ e. rw e (f (suc p) (suc q))) (λ e. rw e (f p (suc q))) (decide (stays N o (InService TwoWay) a b))
  gates-step (Shut k) a b o p q t f = f p (suc q)

  pub kept-gates : (o p q : ℕ) (t : List Reach) → length (gates_from p (contracted_from N o t)) ≡ length (gates_from q t)
  kept-gates o p q [] = refl
  kept-gates o p q (r ∷ t) = gates-step r.state r.a r.b o p q t (λ i j. kept-gates (suc o) i j t)

  -- ---- what is passed

  -- An arc between components that comes from an arc of A between basins.
  pub record Mapped (A : List Arc) (c d : ℕ) : Type 0 where
    pub from : ℕ
    pub to : ℕ
    pub has : Memᴰ (arc from to) A
    pub from_is : c ≡ component_number N from
    pub to_is : d ≡ component_number N to

  mapped-arc : (c d x y : ℕ) → arc c d ≡ arc x y → arc (component_number N c) (component_number N d) ≡ arc (component_number N x) (component_number N y)
  mapped-arc c d x y e = ap₂ {C = Arc} arc (ap (component_number N) (arc-from e)) (ap (component_number N) (arc-to e))

  mapped-make : (A : List Arc) (x y c d : ℕ) → Memᴰ (arc x y) A → arc c d ≡ arc (component_number N x) (component_number N y) → Mapped A c d
  mapped-make A x y c d m e = record { from = x; to = y; has = m; from_is = arc-from e; to_is = arc-to e }

  passing-back : (w a b c d : ℕ) → Memᴰ (arc c d) (passing w (component_number N a) (component_number N b)) → Mapped (passing w a b) c d
  passing-back zero a b c d m = ⊎_elim (λ e. mapped-make _ a b c d (mathlib.Core.List.Memᴰ.head refl) e) (λ n. absurd (mathlib.Core.List.Memᴰ.not-nil n)) (mathlib.Core.List.Memᴰ.cases_cons m)
  passing-back (suc zero) a b c d m = ⊎_elim (λ e. mapped-make _ b a c d (mathlib.Core.List.Memᴰ.head refl) e) (λ n. absurd (mathlib.Core.List.Memᴰ.not-nil n)) (mathlib.Core.List.Memᴰ.cases_cons m)
  passing-back (suc (suc zero)) a b c d m =
      ⊎_elim (λ e. mapped-make _ a b c d (mathlib.Core.List.Memᴰ.head refl) e)
      (λ n. ⊎_elim (λ e. mapped-make _ b a c d (mathlib.Core.List.Memᴰ.tail (mathlib.Core.List.Memᴰ.head refl)) e) (λ o. absurd (mathlib.Core.List.Memᴰ.not-nil o)) (mathlib.Core.List.Memᴰ.cases_cons n)) (mathlib.Core.List.Memᴰ.cases_cons m)
  passing-back (suc (suc (suc w))) a b c d m = absurd (mathlib.Core.List.Memᴰ.not-nil m)

  passing-on : (w a b c d : ℕ) → Memᴰ (arc c d) (passing w a b) → Memᴰ (arc (component_number N c) (component_number N d)) (passing w (component_number N a) (component_number N b))
  passing-on zero a b c d m = ⊎_elim (λ e. mathlib.Core.List.Memᴰ.head (mapped-arc c d a b e)) (λ n. absurd (mathlib.Core.List.Memᴰ.not-nil n)) (mathlib.Core.List.Memᴰ.cases_cons m)
  passing-on (suc zero) a b c d m = ⊎_elim (λ e. mathlib.Core.List.Memᴰ.head (mapped-arc c d b a e)) (λ n. absurd (mathlib.Core.List.Memᴰ.not-nil n)) (mathlib.Core.List.Memᴰ.cases_cons m)
  passing-on (suc (suc zero)) a b c d m =
      ⊎_elim (λ e. mathlib.Core.List.Memᴰ.head (mapped-arc c d a b e))
      (λ n. ⊎_elim (λ e. mathlib.Core.List.Memᴰ.tail (mathlib.Core.List.Memᴰ.head (mapped-arc c d b a e))) (λ o. absurd (mathlib.Core.List.Memᴰ.not-nil o)) (mathlib.Core.List.Memᴰ.cases_cons n)) (mathlib.Core.List.Memᴰ.cases_cons m)
  passing-on (suc (suc (suc w))) a b c d m = absurd (mathlib.Core.List.Memᴰ.not-nil m)

  -- what a table passes under h
  abbrev passed : List Reach → List ℕ → List Arc
  passed t h = arcs t (ways t h)

  wider : (x : List Arc) (A : List Arc) (c d : ℕ) → Mapped A c d → Mapped (x ++ A) c d
  wider x A c d k = record { from = k.from; to = k.to; has = mathlib.Core.List.Memᴰ.append_right x k.has; from_is = k.from_is; to_is = k.to_is }

  -- what the reaches that stay pass comes from what the table passes
  narrower : (x A : List Arc) (c d : ℕ) → Mapped x c d → Mapped (x ++ A) c d
  narrower x A c d k = record { from = k.from; to = k.to; has = mathlib.Core.List.Memᴰ.append_left A k.has; from_is = k.from_is; to_is = k.to_is }

  pub kept-arcs : (o : ℕ) (t : List Reach) (h : List ℕ) (c d : ℕ) → Memᴰ (arc c d) (passed (contracted_from N o t) h) → Mapped (passed t h) c d
  kept-arcs o [] h c d m = absurd (mathlib.Core.List.Memᴰ.not-nil m)
  kept-arcs o (r ∷ t) h c d m =
      let w = way r.state h in
      let here = passing w r.a r.b in
      let rest : (k : List ℕ) → after r.state h ≡ k → Memᴰ (arc c d) (passed (contracted_from N (suc o) t) k) → Mapped (passed (r ∷ t) h) c d =
      λ k q n. wider here (passed t (after r.state h)) c d (rw q (kept-arcs (suc o) t k c d n)) in
      ⊎_elim
      (λ e. ⊎_elim (λ n. narrower here (passed t (after r.state h)) c d (passing-back w r.a r.b c d n)) (rest (after r.state h) refl)
      (mathlib.Core.List.Memᴰ.append_cases (passing w (component_number N r.a) (component_number N r.b)) (rw e at m)))
      (λ e. rest h (plain-after r.state h (dropped-plain o r.state r.a r.b e)) (rw e at m))
      (decide (stays_at o r))

  -- what the table passes those reaches pass too, or it is within a component
  shut-passes : (s : State) (h : List ℕ) (a b : ℕ) (y : Arc) → in_service s ≡ false → Memᴰ y (passing (way s h) a b) → ⊥
  shut-passes (InService k) h a b y e m = true≢false e
  shut-passes (Shut k) h a b y e m = mathlib.Core.List.Memᴰ.not-nil m

  -- a reach that drops passes only within a component
  dropped-arc : (o : ℕ) (s : State) (h : List ℕ) (a b c d : ℕ) → (is_two_way s ≡ true → connected N a b ≡ true) → stays N o s a b ≡ false → Memᴰ (arc c d) (passing (way s h) a b)
      → component_number N c ≡ component_number N d
  dropped-arc o s h a b c d f e m = ⊎_elim serves (λ n. absurd (shut-passes s h a b (arc c d) n m)) (decide (in_service s))
    where
      serves : in_service s ≡ true → component_number N c ≡ component_number N d
      serves y =
          let same = dropped-alike o s a b f y e in
          ⊎_elim
          (λ q. ap (component_number N) (arc-from q) ∙ same ∙ sym (ap (component_number N) (arc-to q)))
          (λ q. ap (component_number N) (arc-from q) ∙ sym same ∙ sym (ap (component_number N) (arc-to q)))
          (passing-ends (way s h) a b c d m)

  pub arcs-kept : (o : ℕ) (t : List Reach) (h : List ℕ) → ((i : ℕ) → i < length t → is_two_way (get_or t i no_reach).state ≡ true → connected N (get_or t i no_reach).a (get_or t i no_reach).b ≡ true)
      → (c d : ℕ) → Memᴰ (arc c d) (passed t h) → Memᴰ (arc (component_number N c) (component_number N d)) (passed (contracted_from N o t) h) ⊎ (component_number N c ≡ component_number N d)
  arcs-kept o [] h f c d m = absurd (mathlib.Core.List.Memᴰ.not-nil m)
  arcs-kept o (r ∷ t) h f c d m =
      let w = way r.state h in
      let here = passing w (component_number N r.a) (component_number N r.b) in
      let rest = arcs-kept (suc o) t (after r.state h) (λ i l. f (suc i) (omega arith)) c d in
      ⊎_elim
      (λ e. rw e (⊎_elim (λ n. inl (mathlib.Core.List.Memᴰ.append_left (passed (contracted_from N (suc o) t) (after r.state h)) (passing-on w r.a r.b c d n)))
      (λ n. ⊎_elim (λ k. inl (mathlib.Core.List.Memᴰ.append_right here k)) (λ q. inr q) (rest n)) (mathlib.Core.List.Memᴰ.append_cases (passing w r.a r.b) m)))
      (λ e. rw e (⊎_elim (λ n. inr (dropped-arc o r.state h r.a r.b c d (f 0 (omega arith)) e n))
      (λ n. rw (plain-after r.state h (dropped-plain o r.state r.a r.b e)) at (rest n)) (mathlib.Core.List.Memᴰ.append_cases (passing w r.a r.b) m)))
      (decide (stays_at o r))

-- the two-way reaches in service of a table pass whatever is hung
here-passed : (s : State) (h : List ℕ) (a b : ℕ) (y : Arc) → Memᴰ y (cond (is_two_way s) (passing 2 a b) []) → Memᴰ y (passing (way s h) a b)
here-passed (InService Gated) h a b y m = absurd (mathlib.Core.List.Memᴰ.not-nil m)
here-passed (InService Flap) h a b y m = absurd (mathlib.Core.List.Memᴰ.not-nil m)
here-passed (InService TwoWay) h a b y m = m
here-passed (Shut k) h a b y m = absurd (mathlib.Core.List.Memᴰ.not-nil m)

pub two-way-passed : (t : List Reach) (h : List ℕ) → Within (two_way_arcs t) (arcs t (ways t h))
two-way-passed [] h y m = m
two-way-passed (r ∷ t) h y m =
    ⊎_elim
    (λ n. mathlib.Core.List.Memᴰ.append_left (arcs t (ways t (after r.state h))) (here-passed r.state h r.a r.b y n))
    (λ n. mathlib.Core.List.Memᴰ.append_right (passing (way r.state h) r.a r.b) (two-way-passed t (after r.state h) y n))
    (mathlib.Core.List.Memᴰ.append_cases (cond (is_two_way r.state) (passing 2 r.a r.b) []) m)
