-- The numbers of components and the notes of them, one basin after the other.
-- Assumes nothing.
use Prim.Native.Nat.{ℕ, ◌+◌, ◌≤◌, ◌<◌}
use native.Mathlib.Omega.{arith}
use native.Mathlib.Decide.{ℕ_discrete}
use mathlib.Core.Path.{◌≡◌, refl, sym, ap, subst, ◌∙◌}
use mathlib.Core.Bool.{true, false}
use mathlib.Core.Logic.{⊎_elim}
use mathlib.Core.List.{List}
use lib.ListN.{length, get_or, set, length-set}
use lib.Seq.{get_or-set_same, get_or-set_other}
use borrow.Author.Tests.{eq-eqb, ne_eqb}
use Rattle.lists.specs.Lists.{range, keep}
use Rattle.lists.proofs.Bools.{decide}
use Rattle.network.specs.Networks.{Network}
use Rattle.components.specs.Components.{connected, representative, is_representative, component_number, component_count, is_singleton}
use Rattle.components.specs.Contracted.{none_before}
use Rattle.components.specs.Labels.{note_at, Labelled}
use Rattle.components.specs.declared.Note.{Note}
use Rattle.components.specs.declared.Note.TheVariants.{One, Several}
use Rattle.components.proofs.Components.{count_yes, count_no, connected-sym, connected-trans, representative-connected, representative-least, number_same, same_number, number_at, singleton-alone, singleton-other}
use Rattle.union_find.specs.Forests.{Rising, top, Forest, Numbered}
use Rattle.union_find.proofs.Roots.{root-unique, root-parent}

-- ---- a basin's parent

module _ {N : Network} {p : List ℕ} (f : Forest N p) {v : ℕ} (l : v < N.basins) where
  -- a basin that is its own parent is the lowest member
  parent-own : get_or p v 0 ≡ v → representative N v ≡ v
  parent-own e = root-unique (f.roots v l) (top e)

  -- a parent is connected with it
  parent-connected : get_or p v 0 < N.basins → connected N (get_or p v 0) v ≡ true
  parent-connected m =
      let same : representative N (get_or p v 0) ≡ representative N v = root-unique (f.roots (get_or p v 0) m) (root-parent (f.roots v l)) in
      connected-trans N (get_or p v 0) (representative N v) v (rw (← same) (representative-connected N (get_or p v 0) m)) (connected-sym N v (representative N v) (representative-connected N v l))

-- ---- the basins below v

-- They have numbers below the count; the others have their parents.
pub record Numbering (n : ℕ) (p₀ : List ℕ) (notes₀ : List Note) (p : List ℕ) (notes : List Note) (count v : ℕ) : Type 0 where
  pub within : v ≤ n
  pub few : count ≤ v
  pub kept : length p ≡ length p₀
  pub notes-kept : length notes ≡ length notes₀
  pub below : (u : ℕ) → u < v → get_or p u 0 < count
  pub above : (u : ℕ) → v ≤ u → get_or p u 0 ≡ get_or p₀ u 0

-- These are the numbers of their components; a component of which one member is below v has the note `One`, and one of which several are, `Several`.
pub record Labelling (N : Network) (p : List ℕ) (notes : List Note) (count v : ℕ) : Type 0 where
  pub counted : count ≡ length (keep (is_representative N) (range 0 v))
  pub label : (u : ℕ) → u < v → get_or p u 0 ≡ component_number N u
  pub one : (u : ℕ) → u < v → ((w : ℕ) → w < v → connected N u w ≡ true → w ≡ u) → get_or notes (component_number N u) One ≡ One
  pub several : (u w : ℕ) → u < v → w < v → connected N u w ≡ true → (w ≡ u → ⊥) → get_or notes (component_number N u) One ≡ Several

pub numbering-none : {n : ℕ} (p : List ℕ) (notes : List Note) → Numbering n p notes p notes 0 0
numbering-none p notes = record { within = omega arith; few = omega arith; kept = refl; notes-kept = refl; below = λ u l. absurd (omega arith); above = λ u l. refl }

pub labelling-none : (N : Network) (p : List ℕ) (notes : List Note) → Labelling N p notes 0 0
labelling-none N p notes = record { counted = refl; label = λ u l. absurd (omega arith); one = λ u l f. absurd (omega arith); several = λ u w l m e d. absurd (omega arith) }

module _ {n : ℕ} {p₀ : List ℕ} {notes₀ : List Note} {p : List ℕ} {notes : List Note} {count v : ℕ} (rising : Rising n p₀) (room : n ≤ length notes₀) (h : Numbering n p₀ notes₀ p notes count v) (l : v < n) where
  -- what stands at v is its parent
  pub parent-at : get_or p v 0 ≤ v
  parent-at = omega (arith, h.above v (omega arith), rising.parent v l)

  -- and there is room for its number
  pub here : v < length p
  here = omega (arith, h.kept, rising.long)

  -- ---- a parent that is lower

  module _ (lower : get_or p v 0 < v) where
    -- what stands at the parent, a number already given
    abbrev c : ℕ
    c = get_or p (get_or p v 0) 0

    pub c-few : c < count
    c-few = h.below (get_or p v 0) lower

    pub c-room : c < length notes
    c-room = omega (arith, c-few, h.few, h.notes-kept)

    pub numbering-member : Numbering n p₀ notes₀ (set p v c) (set notes c Several) count (v + 1)
    numbering-member =
        record {
          within = omega arith;
          few = omega (arith, h.few);
          kept = length-set p v c ∙ h.kept;
          notes-kept = length-set notes c Several ∙ h.notes-kept;
          below = λ u m. go u m (ℕ_discrete u v);
          above = λ u m. get_or-set_other p v u c 0 (omega arith) ∙ h.above u (omega arith);
        }
      where
        go : (u : ℕ) → u < v + 1 → Dec (u ≡ v) → get_or (set p v c) u 0 < count
        go u m (yes same) = rw (same, get_or-set_same p v c 0 here) c-few
        go u m (no other) = rw (get_or-set_other p v u c 0 other) (h.below u (omega arith))

    module _ (N : Network) (e : N.basins ≡ n) (f : Forest N p₀) (g : Labelling N p notes count v) where
      in-net : v < N.basins
      in-net = omega (arith, l, e)

      -- the parent's number is v's, and there are two members at least
      linked : connected N (get_or p v 0) v ≡ true
      linked = rw (h.above v (omega arith)) (parent-connected f in-net (omega (arith, in-net, lower, h.above v (omega arith))))

      c-is : c ≡ component_number N v
      c-is = g.label (get_or p v 0) lower ∙ number_same N (get_or p v 0) v linked

      not-lowest : is_representative N v ≡ false
      not-lowest = ne_eqb (representative N v) v (λ q. absurd (omega (arith, q, lower, representative-least N v (get_or p v 0) (omega (arith, in-net, lower)) (connected-sym N (get_or p v 0) v linked))))

      -- another component is the same as before
      apart : (u : ℕ) → u < v + 1 → (component_number N u ≡ c → ⊥) → u < v
      apart u m d = let other : u ≡ v → ⊥ = λ q. d (ap (component_number N) q ∙ sym c-is) in omega (arith, m, other)

      one-member : (u : ℕ) → u < v + 1 → ((w : ℕ) → w < v + 1 → connected N u w ≡ true → w ≡ u) → Dec (component_number N u ≡ c) → get_or (set notes c Several) (component_number N u) One ≡ One
      one-member u m alone (yes same) =
          let with-v : connected N u v ≡ true = same_number N u v (omega (arith, m, in-net)) in-net (same ∙ c-is) in
          let v-is : v ≡ u = alone v (omega arith) with-v in
          let q-is : get_or p v 0 ≡ u = alone (get_or p v 0) (omega (arith, lower)) (connected-trans N u v (get_or p v 0) with-v (connected-sym N (get_or p v 0) v linked)) in
          absurd (omega (arith, v-is, q-is, lower))
      one-member u m alone (no other) = get_or-set_other notes c (component_number N u) Several One other ∙ g.one u (apart u m other) (λ w k. alone w (omega arith))

      several-members : (u w : ℕ) → u < v + 1 → w < v + 1 → connected N u w ≡ true → (w ≡ u → ⊥) → Dec (component_number N u ≡ c) → get_or (set notes c Several) (component_number N u) One ≡ Several
      several-members u w m k s d (yes same) = rw same (get_or-set_same notes c Several One c-room)
      several-members u w m k s d (no other) = get_or-set_other notes c (component_number N u) Several One other ∙ g.several u w (apart u m other) (apart w k (λ q. other (number_same N u w s ∙ q))) s d

      pub labelling-member : Labelling N (set p v c) (set notes c Several) count (v + 1)
      labelling-member =
          record {
            counted = g.counted ∙ sym (count_no (is_representative N) v not-lowest);
            label = λ u m. go u m (ℕ_discrete u v);
            one = λ u m alone. one-member u m alone (ℕ_discrete (component_number N u) c);
            several = λ u w m k s d. several-members u w m k s d (ℕ_discrete (component_number N u) c);
          }
        where
          go : (u : ℕ) → u < v + 1 → Dec (u ≡ v) → get_or (set p v c) u 0 ≡ component_number N u
          go u m (yes same) = rw same (get_or-set_same p v c 0 here ∙ c-is)
          go u m (no other) = get_or-set_other p v u c 0 other ∙ g.label u (omega arith)

  -- ---- a parent that is the basin itself

  module _ (own : v ≤ get_or p v 0) where
    pub numbering-lowest : Numbering n p₀ notes₀ (set p v count) (set notes count One) (count + 1) (v + 1)
    numbering-lowest =
        record {
          within = omega arith;
          few = omega (arith, h.few);
          kept = length-set p v count ∙ h.kept;
          notes-kept = length-set notes count One ∙ h.notes-kept;
          below = λ u m. go u m (ℕ_discrete u v);
          above = λ u m. get_or-set_other p v u count 0 (omega arith) ∙ h.above u (omega arith);
        }
      where
        go : (u : ℕ) → u < v + 1 → Dec (u ≡ v) → get_or (set p v count) u 0 < count + 1
        go u m (yes same) = rw (same, get_or-set_same p v count 0 here) (omega arith)
        go u m (no other) = rw (get_or-set_other p v u count 0 other) (omega (arith, h.below u (omega arith)))

    module _ (N : Network) (e : N.basins ≡ n) (f : Forest N p₀) (g : Labelling N p notes count v) where
      v-in : v < N.basins
      v-in = omega (arith, l, e)

      lowest : representative N v ≡ v
      lowest = parent-own f v-in (omega (arith, own, parent-at, h.above v (omega arith)))

      count-is : count ≡ component_number N v
      count-is = g.counted ∙ sym (number_at N v lowest)

      -- no basin passed is connected with it
      none_passed : (u : ℕ) → u < v → connected N u v ≡ true → ⊥
      none_passed u m s = omega (arith, lowest, representative-least N v u (omega (arith, m, v-in)) (connected-sym N u v s))

      -- and so none has its number
      new : (u : ℕ) → u < v → component_number N u ≡ count → ⊥
      new u m q = none_passed u m (same_number N u v (omega (arith, m, v-in)) v-in (q ∙ count-is))

      one-first : (u : ℕ) → u < v + 1 → ((w : ℕ) → w < v + 1 → connected N u w ≡ true → w ≡ u) → Dec (u ≡ v) → get_or (set notes count One) (component_number N u) One ≡ One
      one-first u m alone (yes same) = rw (same, ← count-is) (get_or-set_same notes count One One (omega (arith, h.few, h.notes-kept)))
      one-first u m alone (no other) = get_or-set_other notes count (component_number N u) One One (new u (omega arith)) ∙ g.one u (omega arith) (λ w k. alone w (omega arith))

      several-first : (u w : ℕ) → u < v + 1 → w < v + 1 → connected N u w ≡ true → (w ≡ u → ⊥) → Dec (u ≡ v) → Dec (w ≡ v) → get_or (set notes count One) (component_number N u) One ≡ Several
      several-first u w m k s d (yes same) q = absurd (none_passed w (omega arith) (connected-sym N v w (rw same at s)))
      several-first u w m k s d (no other) (yes same) = absurd (none_passed u (omega arith) (rw same at s))
      several-first u w m k s d (no other) (no other') = get_or-set_other notes count (component_number N u) One One (new u (omega arith)) ∙ g.several u w (omega arith) (omega arith) s d

      pub labelling-lowest : Labelling N (set p v count) (set notes count One) (count + 1) (v + 1)
      labelling-lowest =
          record {
            counted = ap (λ (k : ℕ). k + 1) g.counted ∙ sym (count_yes (is_representative N) v (eq-eqb (representative N v) v lowest));
            label = λ u m. go u m (ℕ_discrete u v);
            one = λ u m alone. one-first u m alone (ℕ_discrete u v);
            several = λ u w m k s d. several-first u w m k s d (ℕ_discrete u v) (ℕ_discrete w v);
          }
        where
          go : (u : ℕ) → u < v + 1 → Dec (u ≡ v) → get_or (set p v count) u 0 ≡ component_number N u
          go u m (yes same) = rw same (get_or-set_same p v count 0 here ∙ count-is)
          go u m (no other) = get_or-set_other p v u count 0 other ∙ g.label u (omega arith)

-- ---- all basins

-- no reach has come, and the lowest members are counted
none_yet : (N : Network) (v : ℕ) → none_before N 0 v ≡ true
unfolding none_before
none_yet N v = refl

all-counted : (N : Network) {count : ℕ} → count ≡ length (keep (is_representative N) (range 0 N.basins)) → count ≡ component_count N
unfolding component_count
all-counted N e = e

labelling-all : {N : Network} {p : List ℕ} {notes : List Note} {count : ℕ} → Labelling N p notes count N.basins → Labelled N count p notes
labelling-all {N} {p} {notes} g = record { counted = all-counted N g.counted; label = g.label; note = λ v l. ⊎_elim (alone v l) (joined v l) (decide (is_singleton N v)) }
  where
    alone : (v : ℕ) → v < N.basins → is_singleton N v ≡ true → get_or notes (component_number N v) One ≡ note_at N 0 v
    alone v l s = rw s (g.one v l (λ w m c. singleton-alone N v w s m c))

    joined : (v : ℕ) → v < N.basins → is_singleton N v ≡ false → get_or notes (component_number N v) One ≡ note_at N 0 v
    joined v l s = let k = singleton-other N v s in rw (s, none_yet N v) (g.several v k.0 l k.1 k.2 k.3)

pub numbering-all : {n : ℕ} {p₀ : List ℕ} {notes₀ : List Note} {p : List ℕ} {notes : List Note} {count v : ℕ} → Numbering n p₀ notes₀ p notes count v → ((N : Network) → N.basins ≡ n → Forest N p₀ → Labelling N p notes count v) → n ≤ v → Numbered n p₀ count p notes
numbering-all {p = p} {notes = notes} {count = count} {v = v} h g l =
    record { of = λ N e f. labelling-all (subst (λ (k : ℕ). Labelling N p notes count k) (omega (arith, h.within, e)) (g N e f)) }
