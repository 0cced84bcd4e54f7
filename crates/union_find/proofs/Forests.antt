-- The parents of a network's basins, one reach after the other.
-- Assumes nothing.
use Prim.Native.Nat.{ℕ, zero, suc, ◌+◌, ◌≤◌, ◌<◌}
use native.Mathlib.Omega.{arith}
use native.Mathlib.Decide.{ℕ_discrete, dec_le}
use native.Mathlib.Numerals.{add-one}
use mathlib.Core.Path.{◌≡◌, refl, sym, ap, subst, ◌∙◌}
use mathlib.Core.Bool.{Bool, true, false}
use mathlib.Core.Logic.{inl, inr, ⊎_elim}
use mathlib.Core.List.Memᴰ
use mathlib.Core.List.{List, [], ◌∷◌, ◌++◌, append-nil, Memᴰ}
use lib.ListN.{length, get_or, set, take, length-set}
use lib.Seq.{get_or-set_same, get_or-set_other, take-suc, take_all}
use Rattle.lists.specs.Lists.{range, keep}
use Rattle.network.specs.declared.Reach.{Reach}
use Rattle.network.specs.Networks.{Network, net}
use Rattle.network.specs.Tables.{state_of, table_of}
use Rattle.network.specs.Orientations.{Arc, arc, passing, Walk, reached}
use Rattle.network.specs.Bridges.{no_reach}
use Rattle.network.proofs.Walks.{walk-arc, walk-within, arc-from, arc-to, walk-alike}
use Rattle.network.proofs.Networks.{passing-ends}
use Rattle.tables.specs.Rows.{net_of}
use Rattle.tables.proofs.Laws.{reach_of_numbers, table_at, row-length}
use Rattle.components.specs.Components.{is_two_way, two_way_arcs, connected, component, representative}
use Rattle.components.specs.Labels.{Joinable}
use Rattle.components.proofs.Components.{two-way-append, connected-walk, walk-connected, connected-refl, connected-sym, connected-trans, representative-is, representative-same, representative-connected, representative-least}
use Rattle.union_find.specs.Forests.{Separate, Root, top, joined_root, Joined, Forest}
use Rattle.union_find.proofs.Roots.{root-unique, joined-one, joined-other}

-- ---- which numbers join

-- only 2 is the number of a two-way reach in service
pub two-way-test : (b : Bool) (k : ℕ) → (b ≡ true → k ≡ 2) → (b ≡ false → k ≡ 2 → ⊥) → b ≡ is_two_way (state_of k)
two-way-test true k f g = rw (f refl)
two-way-test false zero f g = refl
two-way-test false (suc zero) f g = refl
two-way-test false (suc (suc zero)) f g = absurd (g refl refl)
two-way-test false (suc (suc (suc zero))) f g = refl
two-way-test false (suc (suc (suc (suc zero)))) f g = refl
two-way-test false (suc (suc (suc (suc (suc k))))) f g = refl

-- ---- each basin alone

-- The basins below v are their own parents.
pub record Separating (n : ℕ) (p₀ p : List ℕ) (v : ℕ) : Type 0 where
  pub within : v ≤ n
  pub kept : length p ≡ length p₀
  pub own : (u : ℕ) → u < v → get_or p u 0 ≡ u

module _ {n : ℕ} (p₀ : List ℕ) (long : n ≤ length p₀) where
  pub separating-none : Separating n p₀ p₀ 0
  separating-none = record { within = omega arith; kept = refl; own = λ u l. absurd (omega arith) }

  pub separating-more : (p : List ℕ) (v : ℕ) → v < n → Separating n p₀ p v → Separating n p₀ (set p v v) (v + 1)
  separating-more p v l s = record { within = omega arith; kept = length-set p v v ∙ s.kept; own = λ u m. go u m (ℕ_discrete u v) }
    where
      go : (u : ℕ) → u < v + 1 → Dec (u ≡ v) → get_or (set p v v) u 0 ≡ u
      go u m (yes same) = rw same (get_or-set_same p v v 0 (omega (arith, s.kept)))
      go u m (no other) = get_or-set_other p v u v 0 other ∙ s.own u (omega arith)

  pub separating-all : (p : List ℕ) (v : ℕ) → n ≤ v → Separating n p₀ p v → Separate n p
  separating-all p v l s = record { long = omega (arith, s.kept); own = λ u m. s.own u (omega arith) }

-- ---- no reach

walk-nowhere : {u v : ℕ} → Walk [] u v → u ≡ v
walk-nowhere p = walk-alike (λ v. v) (λ c d m. absurd (Memᴰ.not-nil m)) p

forest-separate : (n : ℕ) {p : List ℕ} → Separate n p → Forest (net n []) p
forest-separate n {p} s =
    record {
      rising = record { long = s.long; parent = λ v l. omega (arith, s.own v l) };
      roots = λ v l. subst (λ (r : ℕ). Root p v r) (sym (representative-is (net n []) v v l (connected-refl (net n []) v) (λ u m e. omega (arith, walk-nowhere (connected-walk (net n []) v u e))))) (top (s.own v l));
    }

-- ---- a reach that joins nothing

-- the same arcs, the same lowest members
unjoined-representative : (n : ℕ) (t t' : List Reach) → two_way_arcs t ≡ two_way_arcs t' → (v : ℕ) → representative (net n t) v ≡ representative (net n t') v
unfolding representative component connected
unjoined-representative n t t' e v = ap (λ (A : List Arc). get_or (keep (reached A v) (range 0 n)) 0 0) e

module _ (n : ℕ) (t : List Reach) (r : Reach) where
  forest-other : {p : List ℕ} → is_two_way r.state ≡ false → Forest (net n t) p → Forest (net n (t ++ r ∷ [])) p
  forest-other {p} e f = record { rising = f.rising; roots = λ v l. subst (λ (s : ℕ). Root p v s) (unjoined-representative n t (t ++ r ∷ []) same v) (f.roots v l) }
    where
      same : two_way_arcs t ≡ two_way_arcs (t ++ r ∷ [])
      same = sym (two-way-append t (r ∷ []) ∙ rw e (append-nil (two_way_arcs t)))

-- ---- a reach that joins its ends

module _ (n : ℕ) (t : List Reach) (r : Reach) (joins : is_two_way r.state ≡ true) (a_in : r.a < n) (b-in : r.b < n) where
  -- the network without the reach, and with it
  abbrev N : Network
  N = net n t

  abbrev N' : Network
  N' = net n (t ++ r ∷ [])

  arcs-more : two_way_arcs (t ++ r ∷ []) ≡ two_way_arcs t ++ passing 2 r.a r.b
  arcs-more = two-way-append t (r ∷ []) ∙ rw joins

  -- what was connected is, and the ends are
  still : (u v : ℕ) → connected N u v ≡ true → connected N' u v ≡ true
  still u v e = walk-connected N' u v (subst (λ (A : List Arc). Walk A u v) (sym arcs-more) (walk-within (λ x m. Memᴰ.append_left (passing 2 r.a r.b) m) (connected-walk N u v e)))

  across : connected N' r.a r.b ≡ true
  across = walk-connected N' r.a r.b (subst (λ (A : List Arc). Walk A r.a r.b) (sym arcs-more) (walk-arc (Memᴰ.append_right (two_way_arcs t) (Memᴰ.head refl))))

  -- the lowest members of the components that it joins
  abbrev x : ℕ
  x = representative N r.a

  abbrev y : ℕ
  y = representative N r.b

  -- the root that a basin gets
  abbrev root : ℕ → ℕ
  root v = joined_root x y (representative N v)

  -- it is the same at both ends of an arc, and so throughout a component
  ends-alike : root r.a ≡ root r.b
  ends-alike = joined-one x y x (inl refl) ∙ sym (joined-one x y y (inr refl))

  arc-alike : (c d : ℕ) → Memᴰ (arc c d) (two_way_arcs (t ++ r ∷ [])) → root c ≡ root d
  arc-alike c d m =
      ⊎_elim
      (λ old. ap (joined_root x y) (representative-same N c d (walk-connected N c d (walk-arc old))))
      (λ new. ⊎_elim
      (λ e. ap root (arc-from e) ∙ ends-alike ∙ sym (ap root (arc-to e)))
      (λ e. ap root (arc-from e) ∙ sym ends-alike ∙ sym (ap root (arc-to e)))
      (passing-ends 2 r.a r.b c d new))
      (Memᴰ.append_cases (two_way_arcs t) (subst (λ (A : List Arc). Memᴰ (arc c d) A) arcs-more m))

  -- it is no higher than the basin
  root-least : (u : ℕ) → u < n → root u ≤ u
  root-least u l = go (ℕ_discrete (representative N u) x) (ℕ_discrete (representative N u) y)
    where
      low : representative N u ≤ u
      low = representative-least N u u l (connected-refl N u)

      go : Dec (representative N u ≡ x) → Dec (representative N u ≡ y) → root u ≤ u
      go (yes e) d = omega (arith, low, e, joined-one x y (representative N u) (inl e))
      go (no e) (yes f) = omega (arith, low, f, joined-one x y (representative N u) (inr f))
      go (no e) (no f) = omega (arith, low, joined-other x y (representative N u) e f)

  -- and connected with it
  with-x : connected N' r.a x ≡ true
  with-x = still r.a x (representative-connected N r.a a_in)

  with-y : connected N' r.b y ≡ true
  with-y = still r.b y (representative-connected N r.b b-in)

  x-with-y : connected N' x y ≡ true
  x-with-y = connected-trans N' x r.a y (connected-sym N' r.a x with-x) (connected-trans N' r.a r.b y across with-y)

  root-connected : (v : ℕ) → v < n → connected N' v (root v) ≡ true
  root-connected v l = go (ℕ_discrete (representative N v) x) (ℕ_discrete (representative N v) y) (dec_le x y)
    where
      own : connected N' v (representative N v) ≡ true
      own = still v (representative N v) (representative-connected N v l)

      to : (w : ℕ) → root v ≡ w → connected N' (representative N v) w ≡ true → connected N' v (root v) ≡ true
      to w e c = rw e (connected-trans N' v (representative N v) w own c)

      go : Dec (representative N v ≡ x) → Dec (representative N v ≡ y) → Dec (x ≤ y) → connected N' v (root v) ≡ true
      go (yes e) d (yes l) = to x (joined-one x y (representative N v) (inl e) ∙ omega arith) (rw e (connected-refl N' x))
      go (yes e) d (no l) = to y (joined-one x y (representative N v) (inl e) ∙ omega arith) (rw e x-with-y)
      go (no e) (yes f) (yes l) = to x (joined-one x y (representative N v) (inr f) ∙ omega arith) (rw f (connected-sym N' x y x-with-y))
      go (no e) (yes f) (no l) = to y (joined-one x y (representative N v) (inr f) ∙ omega arith) (rw f (connected-refl N' y))
      go (no e) (no f) d = to (representative N v) (joined-other x y (representative N v) e f) (connected-refl N' (representative N v))

  -- so it is the lowest member of the new component
  joined-representative : (v : ℕ) → v < n → representative N' v ≡ root v
  joined-representative v l =
      representative-is N' v (root v) (omega (arith, root-least v l)) (root-connected v l)
      (λ u m e. omega (arith, walk-alike root arc-alike (connected-walk N' v u e), root-least u m))

  forest-joined : {p p' : List ℕ} → Forest N p → Joined n p r.a r.b p' → Forest N' p'
  forest-joined {p} {p'} f j = record { rising = j.rising; roots = roots }
    where
      x-is : j.x ≡ x
      x-is = root-unique j.a-root (f.roots r.a a_in)

      y-is : j.y ≡ y
      y-is = root-unique j.b-root (f.roots r.b b-in)

      roots : (v : ℕ) → v < n → Root p' v (representative N' v)
      roots v l = rw (joined-representative v l, ← x-is, ← y-is) (j.roots v (representative N v) (f.roots v l))

-- ---- one reach after the other

-- The parents are those of the network with the first i reaches.
pub record Joining (n : ℕ) (ks xs ys p₀ p : List ℕ) (i : ℕ) : Type 0 where
  pub within : i ≤ length ks
  pub forest : Forest (net n (take i (table_of ks xs ys))) p
  pub kept : length p ≡ length p₀

pub joining-none : (n : ℕ) (ks xs ys : List ℕ) {p : List ℕ} → Separate n p → Joining n ks xs ys p p 0
joining-none n ks xs ys s = record { within = omega arith; forest = forest-separate n s; kept = refl }

module _ {n : ℕ} {ks xs ys : List ℕ} (j : Joinable n ks xs ys) {p₀ p : List ℕ} {i : ℕ} (h : Joining n ks xs ys p₀ p i) where
  -- the table is as long as its kinds
  full : length (table_of ks xs ys) ≡ length ks
  full = row-length ks xs ys j.a-full j.b-full

  module _ (l : i < length ks) where
    -- the table with reach i, whose ends are basins
    one_more : take (i + 1) (table_of ks xs ys) ≡ take i (table_of ks xs ys) ++ reach_of_numbers (get_or ks i 0) (get_or xs i 0) (get_or ys i 0) ∷ []
    one_more =
        rw add-one
        (take-suc (table_of ks xs ys) i no_reach (omega (arith, full))
        ∙ ap (λ (r : Reach). take i (table_of ks xs ys) ++ r ∷ []) (table_at i ks xs ys (omega (arith, full))))

    pub a_in : get_or xs i 0 < n
    a_in = j.a-below i (omega (arith, j.a-full))

    pub b-in : get_or ys i 0 < n
    b-in = j.b-below i (omega (arith, j.b-full))

    -- reach i joins its ends, or not
    pub joining-two-way : {p' : List ℕ} → true ≡ is_two_way (state_of (get_or ks i 0)) → Joined n p (get_or xs i 0) (get_or ys i 0) p' → length p' ≡ length p → Joining n ks xs ys p₀ p' (i + 1)
    joining-two-way e g k =
        record {
          within = omega arith;
          forest = rw one_more (forest-joined n (take i (table_of ks xs ys)) (reach_of_numbers (get_or ks i 0) (get_or xs i 0) (get_or ys i 0)) (sym e) a_in b-in h.forest g);
          kept = k ∙ h.kept;
        }

    pub joining-other : false ≡ is_two_way (state_of (get_or ks i 0)) → Joining n ks xs ys p₀ p (i + 1)
    joining-other e =
        record {
          within = omega arith;
          forest = rw one_more (forest-other n (take i (table_of ks xs ys)) (reach_of_numbers (get_or ks i 0) (get_or xs i 0) (get_or ys i 0)) (sym e) h.forest);
          kept = h.kept;
        }

  pub joining-all : length ks ≤ i → Forest (net_of n ks xs ys) p
  joining-all l = subst (λ (t : List Reach). Forest (net n t) p) (take_all i (table_of ks xs ys) (omega (arith, full))) h.forest
