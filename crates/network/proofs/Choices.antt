-- Document 02, item 2: what the byte of a bound gate says of all plans, which search decides it, what a gated reach made a flap leaves, and that a gated loop is
-- not bound.
-- Assumes nothing.
use Prim.Native.Nat.compare
use Prim.Native.Nat.{ℕ, zero, suc, ◌+◌, ◌≤◌, ◌<◌}
use native.Mathlib.Omega.{arith}
use native.Mathlib.Decide.{ℕ_discrete}
use mathlib.Core.Path.{◌≡◌, refl, sym, ap, ap₂, subst, ◌∙◌}
use mathlib.Core.Bool.{Bool, true, false, cond, ◌&&◌, ◌||◌, and_comm, or_comm}
use mathlib.Core.Logic.{◌⊎◌, inl, inr, ⊎_elim, ◌↔◌}
use mathlib.Core.List.{List, [], ◌∷◌, ◌++◌, map}
use mathlib.Core.Option.{some}
use lib.ListN.{length, get_or, set, length-set, length-replicate, length-map}
use lib.Seq.{get_or-set_same, get_or-set_other, set-get_or}
use lib.Dec.{leb, ltb, eqb}
use borrow.Author.Tests.{eqb-true, eqb-false, eq-eqb, le-leb}
use mathlib.Mathlib.Data.Bool.Basic.{and_elim_left, and_elim_right, and_intro}
use Rattle.network.specs.declared.Kind.TheVariants.{Gated, Flap, TwoWay}
use Rattle.network.specs.declared.State.{State}
use Rattle.network.specs.declared.State.TheVariants.{InService, Shut}
use Rattle.network.specs.declared.Reach.{Reach}
use Rattle.lists.specs.Lists.{range, every, some?}
use Rattle.lists.proofs.Bools.{decide, clash}
use Rattle.lists.proofs.Searches.{every-at, every-fails, every-get_or, keep-in, keep-has, keep_same}
use Rattle.lists.proofs.Ranges.{length-range, map-range-at}
use Rattle.network.specs.Networks.{Network, ends_at, is_wet, basins_of, Accepted}
use Rattle.network.specs.Settings.{is_gated, gates_from, gates, gate_count, is_setting, settings}
use Rattle.network.specs.Orientations.{Arc, arc, way, ways, passing, arcs, arcs_under, reached, unoriented}
use Rattle.network.specs.Plans.{strongly_connected, strongly_connected_under, is_plan, passable, first_plan, next_plan}
use Rattle.network.specs.Bridges.{no_reach, reach_at}
use Rattle.network.specs.Replies.{plan, first_answer}
use Rattle.network.specs.Choices.{plans, hung_alike, bound_byte, bound_bytes, flap_reach, flap_at}
use Rattle.network.proofs.Networks.{ends_below, fault-none, tests-passed, same-basins}
use Rattle.network.proofs.Bridges.{bridge-blocks}
use Rattle.network.proofs.Ways.{Gate, gate-at, plain_here, plain-after, reach_of, Looser}
use Rattle.network.proofs.Order.{setting-length, plan-in, plan-setting, first-is-plan, next-is-plan}
use Rattle.network.proofs.Replies.{given-if-plan}
use Rattle.network.proofs.Theorem.{setting-byte, orient-set, unoriented-2, unoriented-oriented, looser-strong, plan-reaches, plan-passable, arcs_without, as-drawn, as-turned, completion}

-- a plan that hangs the k-th gate so
pub record HungIn (N : Network) (k x : ℕ) : Type 0 where
  pub setting : List ℕ
  pub is-plan : is_plan N setting ≡ true
  pub hung : get_or setting k 2 ≡ x

module _ (N : Network) where
  -- what is hung alike in all plans is hung so in each; what is not, is hung otherwise in one
  alike-each : (k x : ℕ) → hung_alike N k x ≡ true → (p : List ℕ) → is_plan N p ≡ true → get_or p k 2 ≡ x
  unfolding plans
  alike-each k x e p y = eqb-true (get_or p k 2) x (every-at (λ q. eqb (get_or q k 2) x) e (keep-has (is_plan N) (plan-in N p y) y))

  alike-not : (k x : ℕ) → hung_alike N k x ≡ false → (p : List ℕ) × (is_plan N p ≡ true) × (get_or p k 2 ≡ x → ⊥)
  unfolding plans
  alike-not k x e =
      let f = every-fails (λ q. eqb (get_or q k 2) x) (plans N) e in
      (f.0, (keep-in (is_plan N) (settings (gate_count N)) f.1).1, eqb-false (get_or f.0 k 2) x f.2)

  -- the byte, by whether all plans hang the gate as drawn, and whether all hang it turned
  byte-is : (k : ℕ) (c d : Bool) → hung_alike N k 0 ≡ c → hung_alike N k 1 ≡ d → bound_byte N k ≡ cond c 0 (cond d 1 2)
  unfolding bound_byte
  byte-is k c d e f = rw (e, f)

  -- it is up to 2
  byte_small : (k : ℕ) → bound_byte N k ≤ 2
  byte_small k = go (hung_alike N k 0) (hung_alike N k 1) (byte-is k (hung_alike N k 0) (hung_alike N k 1) refl refl)
    where
      go : (c d : Bool) → bound_byte N k ≡ cond c 0 (cond d 1 2) → bound_byte N k ≤ 2
      go true d e = omega arith
      go false true e = omega arith
      go false false e = omega arith

  -- "0 always as drawn, 1 always turned": a byte 0 or 1 is what every plan has there
  pub bound-plan : (k : ℕ) (p : List ℕ) → is_plan N p ≡ true → bound_byte N k ≤ 1 → get_or p k 2 ≡ bound_byte N k
  bound-plan k p y l = go (hung_alike N k 0) refl (hung_alike N k 1) refl
    where
      go : (c : Bool) → hung_alike N k 0 ≡ c → (d : Bool) → hung_alike N k 1 ≡ d → get_or p k 2 ≡ bound_byte N k
      go true e d f = alike-each k 0 e p y ∙ sym (byte-is k true d e f)
      go false e true f = alike-each k 1 f p y ∙ sym (byte-is k false true e f)
      go false e false f = absurd (omega (arith, byte-is k false false e f))

  -- what all plans hang so has that byte, if there is a plan
  alike-byte : (k x : ℕ) → x ≤ 1 → (p : List ℕ) → is_plan N p ≡ true → hung_alike N k x ≡ true → bound_byte N k ≡ x
  alike-byte k zero l p y e = byte-is k true (hung_alike N k 1) e refl
  alike-byte k (suc zero) l p y e = ⊎_elim (λ d. absurd (omega (arith, alike-each k 0 d p y, alike-each k 1 e p y))) (λ d. byte-is k false true d e) (decide (hung_alike N k 0))
  alike-byte k (suc (suc x)) l p y e = absurd (omega arith)

  -- "a byte for each gated reach", in reach order
  pub bound-length : length (bound_bytes N) ≡ gate_count N
  unfolding bound_bytes
  bound-length = length-map (range 0 (gate_count N)) (bound_byte N) ∙ length-range 0 (gate_count N)

  pub bound-get_or : (k : ℕ) → k < gate_count N → get_or (bound_bytes N) k 2 ≡ bound_byte N k
  unfolding bound_bytes
  bound-get_or k l = map-range-at (bound_byte N) 2 0 (gate_count N) k l ∙ ap (bound_byte N) (omega arith)

  -- so every plan that first or next gives has the byte of a bound gate there
  pub bound-first : (k : ℕ) {p : List ℕ} → first_plan N ≡ some p → bound_byte N k ≤ 1 → get_or p k 2 ≡ bound_byte N k
  bound-first k {p} e = bound-plan k p (first-is-plan N e)

  pub bound-next : (k : ℕ) (s : List ℕ) {p : List ℕ} → next_plan N s ≡ some p → bound_byte N k ≤ 1 → get_or p k 2 ≡ bound_byte N k
  bound-next k s {p} e = bound-plan k p (next-is-plan N s e)

  module _ (k : ℕ) (l : k < gate_count N) (p : List ℕ) (y : is_plan N p ≡ true) where
    -- a gate's byte is not that of the one way exactly if some plan hangs it the other
    not_alike : (x z : ℕ) → x + z ≡ 1 → (bound_byte N k ≡ z → ⊥) ↔ HungIn N k x
    not_alike x z e = (λ n. ⊎_elim (λ a. absurd (n (alike-byte k z (omega arith) p y a))) other (decide (hung_alike N k z)), λ c b. omega (arith, c.hung, bound-plan k c.setting c.is-plan (omega arith)))
      where
        other : hung_alike N k z ≡ false → HungIn N k x
        other a =
            let c = alike-not k z a in
            record { setting = c.0; is-plan = c.1; hung = omega (arith, setting-byte N c.0 (plan-setting N c.0 c.1) k l, c.2) }

    -- the byte isn't 1 exactly if some plan hangs the gate as drawn, isn't 0 exactly if some plan hangs it turned
    pub not-turned : (bound_byte N k ≡ 1 → ⊥) ↔ HungIn N k 0
    not-turned = not_alike 0 1 (omega arith)

    pub not-drawn : (bound_byte N k ≡ 0 → ⊥) ↔ HungIn N k 1
    not-drawn = not_alike 1 0 (omega arith)

  module _ (ok : Accepted N) (p : List ℕ) (y : is_plan N p ≡ true) (k : ℕ) (l : k < gate_count N) where
    -- the partial orientation that hangs the gate k alone has its byte there, and is looser than all that hang it so
    here : (x : ℕ) → get_or (set (unoriented N) k x) k 2 ≡ x
    here x = get_or-set_same (unoriented N) k x 2 (omega (arith, length-replicate {A = ℕ} (gate_count N) 2))

    looser-one : (s : List ℕ) (x : ℕ) → get_or s k 2 ≡ x → Looser s (set (unoriented N) k x)
    looser-one s x e j = go (ℕ_discrete j k)
      where
        go : Dec (j ≡ k) → (get_or (set (unoriented N) k x) j 2 ≡ 2) ⊎ (get_or (set (unoriented N) k x) j 2 ≡ get_or s j 2)
        go (yes q) = inr (rw q (here x ∙ sym e))
        go (no n) = inl (get_or-set_other (unoriented N) k j x 2 n ∙ unoriented-2 N j)

    -- some plan hangs it so exactly if everything reaches everything with it alone hung so
    hung-strong : (x : ℕ) → x ≤ 1 → HungIn N k x ↔ (strongly_connected_under N (set (unoriented N) k x) ≡ true)
    hung-strong x small = (
      λ c. looser-strong N c.setting (set (unoriented N) k x) (looser-one c.setting x c.hung) (plan-reaches N c.setting c.is-plan),
      λ e.
          let c = completion N ok (λ i b. bridge-blocks N i b p y) (set (unoriented N) k x) (orient-set N (unoriented N) k x (omega arith) (unoriented-oriented N)) e in
          record { setting = c.setting; is-plan = c.is-plan; hung = ⊎_elim (λ free. absurd (omega (arith, here x))) (λ same. sym same ∙ here x) (c.looser k) },
    )

    -- so its byte, if the plan p hangs it one way, is decided by the other
    bound-other : (x z : ℕ) → x + z ≡ 1 → get_or p k 2 ≡ x → bound_byte N k ≡ cond (strongly_connected_under N (set (unoriented N) k z)) 2 x
    bound-other x z one e = ⊎_elim (λ t. rw t (omega (arith, byte_small k, not-x t, not-z))) (λ t. rw t (always t (ℕ_discrete (bound_byte N k) x))) (decide (strongly_connected_under N (set (unoriented N) k z)))
      where
        not-z : bound_byte N k ≡ z → ⊥
        not-z = (not_alike k l p y x z one).1 (record { setting = p; is-plan = y; hung = e })

        not-x : strongly_connected_under N (set (unoriented N) k z) ≡ true → bound_byte N k ≡ x → ⊥
        not-x t = (not_alike k l p y z x (omega arith)).1 ((hung-strong z (omega arith)).1 t)

        always : strongly_connected_under N (set (unoriented N) k z) ≡ false → Dec (bound_byte N k ≡ x) → bound_byte N k ≡ x
        always t (yes q) = q
        always t (no n) = clash ((hung-strong z (omega arith)).0 ((not_alike k l p y z x (omega arith)).0 n)) t

    -- a network with a plan is passable
    passes : strongly_connected_under N (unoriented N) ≡ true
    unfolding passable
    passes = plan-passable N p y

    -- What one search decides: a gate that the plan p hangs as drawn is bound unless its end A leads to its end B without it; turned, unless B leads to A.
    pub bound-drawn : get_or p k 2 ≡ 0 →
        bound_byte N k ≡ cond (reached (arcs_without N (unoriented N) (get_or (gates N) k 0)) (reach_at N (get_or (gates N) k 0)).a (reach_at N (get_or (gates N) k 0)).b) 2 0
    bound-drawn e = bound-other 0 1 (omega arith) e ∙ ap (λ (c : Bool). cond c 2 0) (as-turned N ok (unoriented N) (unoriented-oriented N) k l (unoriented-2 N k) passes)

    pub bound-turned : get_or p k 2 ≡ 1 →
        bound_byte N k ≡ cond (reached (arcs_without N (unoriented N) (get_or (gates N) k 0)) (reach_at N (get_or (gates N) k 0)).b (reach_at N (get_or (gates N) k 0)).a) 2 1
    bound-turned e = bound-other 1 0 (omega arith) e ∙ ap (λ (c : Bool). cond c 2 1) (as-drawn N ok (unoriented N) (unoriented-oriented N) k l (unoriented-2 N k) passes)

-- Networks with as many gates and the same plans have the same list of plans, and the same bound gates.
pub same-plans : (N M : Network) → gate_count N ≡ gate_count M → ((s : List ℕ) → is_plan N s ≡ is_plan M s) → plans N ≡ plans M
unfolding plans
same-plans N M e f = rw e (keep_same (is_plan N) (is_plan M) (settings (gate_count M)) (λ s m. f s))

pub same-bound : (N M : Network) → gate_count N ≡ gate_count M → plans N ≡ plans M → bound_bytes N ≡ bound_bytes M
unfolding bound_bytes bound_byte
same-bound N M e f =
    ap₂ (λ (g : ℕ) (ps : List (List ℕ)). map (λ k. cond (every (λ p. eqb (get_or p k 2) 0) ps) 0 (cond (every (λ p. eqb (get_or p k 2) 1) ps) 1 2)) (range 0 g)) e f

-- ---- a gated reach made a flap

-- a setting with the byte x put in at place k
abbrev put_in : ℕ → ℕ → List ℕ → List ℕ
put_in zero x s = x ∷ s
put_in (suc k) x [] = []
put_in (suc k) x (z ∷ s) = z ∷ put_in k x s

-- its length, the byte, and a test that this byte passes
put-length : (k x : ℕ) (s : List ℕ) → k ≤ length s → length (put_in k x s) ≡ suc (length s)
put-length zero x s l = refl
put-length (suc k) x [] l = absurd (omega arith)
put-length (suc k) x (z ∷ s) l = ap suc (put-length k x s (omega arith))

put-get_or : (k x : ℕ) (s : List ℕ) → k ≤ length s → get_or (put_in k x s) k 2 ≡ x
put-get_or zero x s l = refl
put-get_or (suc k) x [] l = absurd (omega arith)
put-get_or (suc k) x (z ∷ s) l = put-get_or k x s (omega arith)

put-every : (t : ℕ → Bool) (k x : ℕ) (s : List ℕ) → t x ≡ true → every t (put_in k x s) ≡ every t s
put-every t zero x s e = rw e
put-every t (suc k) x [] e = refl
put-every t (suc k) x (z ∷ s) e = ap (λ (c : Bool). t z && c) (put-every t k x s e)

-- each byte of a setting is put in so
put-from : (k : ℕ) (p : List ℕ) → k < length p → (s : List ℕ) × (k ≤ length s) × (put_in k (get_or p k 2) s ≡ p)
put-from k [] l = absurd (omega arith)
put-from zero (z ∷ p) l = (p, omega arith, refl)
put-from (suc k) (z ∷ p) l = let r = put-from k p (omega arith) in (z ∷ r.0, omega (arith, r.1), ap (λ (q : List ℕ). z ∷ q) r.2)

-- a table with its reach i made a flap
abbrev flap_in : Bool → List Reach → ℕ → List Reach
flap_in turned t i = set t i (flap_reach turned (get_or t i no_reach))

-- the gate k of a table made a flap: there is one gate less, the table passes what it passed with the gate hung so, and the same basins are wet
record Flapped (turned : Bool) (o : ℕ) (t : List Reach) (k : ℕ) : Type 0 where
  reach : ℕ
  numbered : get_or (gates_from o t) k 0 ≡ o + reach
  fewer : length (gates_from o t) ≡ suc (length (gates_from o (flap_in turned t reach)))
  same : (s : List ℕ) → k ≤ length s → arcs t (ways t (put_in k (cond turned 1 0) s)) ≡ arcs (flap_in turned t reach) (ways (flap_in turned t reach) s)
  wet : (b : ℕ) → some? (ends_at b) t ≡ some? (ends_at b) (flap_in turned t reach)

-- so it is of the first gate, of a later gate, and of a gate behind a reach that is none: of every gate
flap-first : (turned : Bool) (a b o : ℕ) (t : List Reach) → Flapped turned o (reach_of (InService Gated) a b ∷ t) 0
flap-first false a b o t = record { reach = 0; numbered = omega arith; fewer = refl; same = λ s l. refl; wet = λ v. refl }
flap-first true a b o t =
    record { reach = 0; numbered = omega arith; fewer = refl; same = λ s l. refl; wet = λ v. ap (λ (c : Bool). c || some? (ends_at v) t) (or_comm (eqb a v) (eqb b v)) }

flap-later : (turned : Bool) (a b o : ℕ) (t : List Reach) (k : ℕ) → Flapped turned (suc o) t k → Flapped turned o (reach_of (InService Gated) a b ∷ t) (suc k)
flap-later turned a b o t k g = record { reach = suc g.reach; numbered = g.numbered ∙ omega arith; fewer = ap suc g.fewer; same = same; wet = λ v. ap (λ (c : Bool). (eqb a v || eqb b v) || c) (g.wet v) }
  where
    same : (s : List ℕ) → suc k ≤ length s → arcs (reach_of (InService Gated) a b ∷ t) (ways (reach_of (InService Gated) a b ∷ t) (put_in (suc k) (cond turned 1 0) s)) ≡ arcs (reach_of (InService Gated) a b ∷ flap_in turned t g.reach) (ways (reach_of (InService Gated) a b ∷ flap_in turned t g.reach) s)
    same [] l = absurd (omega arith)
    same (z ∷ s) l = ap (λ (A : List Arc). passing z a b ++ A) (g.same s (omega arith))

flap-passed : (turned : Bool) (d : State) (a b o : ℕ) (t : List Reach) (k : ℕ) → is_gated d ≡ false → Flapped turned (suc o) t k → Flapped turned o (reach_of d a b ∷ t) k
flap-passed turned d a b o t k e g =
    record {
      reach = suc g.reach;
      numbered = rw e (g.numbered ∙ omega arith);
      fewer = rw e g.fewer;
      same = λ s l. rw (plain_here d (put_in k (cond turned 1 0) s) e, plain_here d s e, plain-after d (put_in k (cond turned 1 0) s) e, plain-after d s e) (ap (λ (A : List Arc). passing (way d []) a b ++ A) (g.same s l));
      wet = λ v. ap (λ (c : Bool). ends_at v (reach_of d a b) || c) (g.wet v);
    }

flap-step : (turned : Bool) (d : State) (a b o : ℕ) (t : List Reach) (k : ℕ) → ((j : ℕ) → j < length (gates_from (suc o) t) → Flapped turned (suc o) t j) → k < length (gates_from o (reach_of d a b ∷ t)) → Flapped turned o (reach_of d a b ∷ t) k
flap-step turned (InService Gated) a b o t zero f l = flap-first turned a b o t
flap-step turned (InService Gated) a b o t (suc k) f l = flap-later turned a b o t k (f k (omega arith))
flap-step turned (InService Flap) a b o t k f l = flap-passed turned (InService Flap) a b o t k refl (f k l)
flap-step turned (InService TwoWay) a b o t k f l = flap-passed turned (InService TwoWay) a b o t k refl (f k l)
flap-step turned (Shut d) a b o t k f l = flap-passed turned (Shut d) a b o t k refl (f k l)

flap-at : (turned : Bool) (o : ℕ) (t : List Reach) (k : ℕ) → k < length (gates_from o t) → Flapped turned o t k
flap-at turned o [] k l = absurd (omega arith)
flap-at turned o (r ∷ t) k l = flap-step turned r.state r.a r.b o t k (flap-at turned (suc o) t) l

-- of the bytes of the two ways one is 0, the other 1
one_way : (turned : Bool) → cond turned 1 0 + cond turned 0 1 ≡ 1
one_way false = omega arith
one_way true = omega arith

module _ (N : Network) (k : ℕ) (l : k < gate_count N) (turned : Bool) where
  -- the gate's reach, and how many gates are left
  g : Flapped turned 0 N.reaches k
  g = flap-at turned 0 N.reaches k l

  number : get_or (gates N) k 0 ≡ g.reach
  number = omega (arith, g.numbered)

  flap-count : gate_count N ≡ suc (gate_count (flap_at N (get_or (gates N) k 0) turned))
  flap-count = rw number g.fewer

  flap-basins : basins_of N ≡ basins_of (flap_at N (get_or (gates N) k 0) turned)
  unfolding is_wet
  flap-basins = same-basins N (flap_at N (get_or (gates N) k 0) turned) refl (λ b. rw number (g.wet b))

  -- a setting is a plan of the changed network exactly if it is one of N with the byte put in
  flap-same : (s : List ℕ) → k ≤ length s → is_plan N (put_in k (cond turned 1 0) s) ≡ is_plan (flap_at N (get_or (gates N) k 0) turned) s
  unfolding is_plan is_setting strongly_connected_under
  flap-same s m =
      rw (put-length k (cond turned 1 0) s m, flap-count, compare.suc-suc, put-every (λ x. leb x 1) k (cond turned 1 0) s (le-leb (cond turned 1 0) 1 (omega (arith, one_way turned))), flap-basins, number, g.same s m)

  -- the plans of the network with the gate made a flap are those that hang it so, without its byte
  pub flap-plan : HungIn N k (cond turned 1 0) ↔ ((q : List ℕ) × (is_plan (flap_at N (get_or (gates N) k 0) turned) q ≡ true))
  flap-plan = (
    λ c.
        let r = put-from k c.setting (omega (arith, setting-length N c.setting (plan-setting N c.setting c.is-plan))) in
        (r.0, sym (flap-same r.0 r.1) ∙ rw (← c.hung, r.2) c.is-plan),
    λ q.
        let m : k ≤ length q.0 = omega (arith, flap-count, setting-length (flap_at N (get_or (gates N) k 0) turned) q.0 (plan-setting (flap_at N (get_or (gates N) k 0) turned) q.0 q.1)) in
        record { setting = put_in k (cond turned 1 0) q.0; is-plan = flap-same q.0 m ∙ q.1; hung = put-get_or k (cond turned 1 0) q.0 m },
  )

-- a test of every member of a list with one member replaced
every_set : {A : Type 0} (t : A → Bool) (l : List A) (i : ℕ) {x : A} → every t l ≡ true → t x ≡ true → every t (set l i x) ≡ true
every_set t [] i e f = refl
every_set t (y ∷ l) zero e f = and_intro f (and_elim_right (t y) _ e)
every_set t (y ∷ l) (suc i) e f = and_intro (and_elim_left (t y) _ e) (every_set t l i (and_elim_right (t y) _ e) f)

-- a reach made a flap has the same ends, and so an accepted network stays accepted
pub flap-ends : (n : ℕ) (turned : Bool) (r : Reach) → ends_below n r ≡ true → ends_below n (flap_reach turned r) ≡ true
flap-ends n false r e = e
flap-ends n true r e = and_comm (ltb r.b n) (ltb r.a n) ∙ e

pub flap-accepted : (N : Network) → Accepted N → (i : ℕ) → i < length N.reaches → (turned : Bool) → Accepted (flap_at N i turned)
flap-accepted N ok i l turned =
    let good = tests-passed N ok in
    fault-none (flap_at N i turned) good.0 (rw (length-set N.reaches i (flap_reach turned (reach_at N i))) good.1)
    (every_set (ends_below N.basins) N.reaches i good.2 (flap-ends N.basins turned (reach_at N i) (every-get_or (ends_below N.basins) N.reaches i no_reach good.2 l)))

-- "A reach made a flap as drawn leaves a plan exactly if its byte isn't 1, made a flap turned exactly if it isn't 0."
pub bound-flap : (N : Network) → Accepted N → (p : List ℕ) → is_plan N p ≡ true → (k : ℕ) → k < gate_count N → (turned : Bool) →
    ((q : List ℕ) × (first_answer (flap_at N (get_or (gates N) k 0) turned) ≡ plan q)) ↔ (bound_byte N k ≡ cond turned 0 1 → ⊥)
bound-flap N ok p y k l turned = (λ a. hung.1 ((flap-plan N k l turned).1 (gives.0 a)), λ n. gives.1 ((flap-plan N k l turned).0 (hung.0 n)))
  where
    below : get_or (gates N) k 0 < length N.reaches
    below = let g = gate-at 0 N.reaches p k l in omega (arith, g.numbered, g.below)

    gives : ((q : List ℕ) × (first_answer (flap_at N (get_or (gates N) k 0) turned) ≡ plan q)) ↔ ((q : List ℕ) × (is_plan (flap_at N (get_or (gates N) k 0) turned) q ≡ true))
    gives = given-if-plan (flap_at N (get_or (gates N) k 0) turned) (flap-accepted N ok (get_or (gates N) k 0) below turned)

    hung : (bound_byte N k ≡ cond turned 0 1 → ⊥) ↔ HungIn N k (cond turned 1 0)
    hung = not_alike N k l p y (cond turned 1 0) (cond turned 0 1) (one_way turned)

-- ---- gated loops

-- hung either way a loop passes the same
loop-passes : (x a b : ℕ) → x ≤ 1 → a ≡ b → passing x a b ≡ arc a b ∷ []
loop-passes zero a b l e = refl
loop-passes (suc zero) a b l e = rw e
loop-passes (suc (suc x)) a b l e = absurd (omega arith)

loop-arcs : (t : List Reach) (ws : List ℕ) (i x y : ℕ) → x ≤ 1 → y ≤ 1 → (get_or t i no_reach).a ≡ (get_or t i no_reach).b → arcs t (set ws i x) ≡ arcs t (set ws i y)
loop-arcs [] ws i x y l m e = refl
loop-arcs (r ∷ t) [] i x y l m e = refl
loop-arcs (r ∷ t) (w ∷ ws) zero x y l m e = ap (λ (A : List Arc). A ++ arcs t ws) (loop-passes x r.a r.b l e ∙ sym (loop-passes y r.a r.b m e))
loop-arcs (r ∷ t) (w ∷ ws) (suc i) x y l m e = ap (λ (A : List Arc). passing w r.a r.b ++ A) (loop-arcs t ws i x y l m e)

-- "A may equal B; such a loop still has both settings if gated."
module _ (N : Network) (p : List ℕ) (is-plan : is_plan N p ≡ true) (k : ℕ) (l : k < gate_count N) (loop : (reach_at N (get_or (gates N) k 0)).a ≡ (reach_at N (get_or (gates N) k 0)).b) where
  setting : is_setting N p ≡ true
  setting = plan-setting N p is-plan

  long : length p ≡ gate_count N
  long = setting-length N p setting

  -- a plan with the loop hung either way is a plan
  pub loop-turned : (x : ℕ) → x ≤ 1 → is_plan N (set p k x) ≡ true
  unfolding is_plan is_setting strongly_connected_under
  loop-turned x small = and_intro (and_intro (eq-eqb (length (set p k x)) (gate_count N) (length-set p k x ∙ long)) bytes) (ap (strongly_connected (basins_of N)) same ∙ plan-reaches N p is-plan)
    where
      bytes : every (λ z. leb z 1) (set p k x) ≡ true
      bytes = every_set (λ z. leb z 1) p k (and_elim_right (eqb (length p) (gate_count N)) _ setting) (le-leb x 1 small)

      gate : Gate 0 N.reaches p k
      gate = gate-at 0 N.reaches p k l

      same : arcs_under N (set p k x) ≡ arcs_under N p
      same =
          ap (arcs N.reaches) (gate.turn x (omega (arith, long)))
          ∙ loop-arcs N.reaches (ways N.reaches p) gate.reach x (get_or (ways N.reaches p) gate.reach 3) small (omega (arith, gate.byte, setting-byte N p setting k l))
          (subst (λ (i : ℕ). (reach_at N i).a ≡ (reach_at N i).b) (omega (arith, gate.numbered)) loop)
          ∙ ap (arcs N.reaches) (set-get_or (ways N.reaches p) gate.reach 3)

  hung-loop : (x : ℕ) → x ≤ 1 → HungIn N k x
  hung-loop x small = record { setting = set p k x; is-plan = loop-turned x small; hung = get_or-set_same p k x 2 (omega (arith, long)) }

  -- so its byte is 2
  pub loop-either : bound_byte N k ≡ 2
  loop-either = omega (arith, byte_small N k, (not-turned N k l p is-plan).1 (hung-loop 0 (omega arith)), (not-drawn N k l p is-plan).1 (hung-loop 1 (omega arith)))
