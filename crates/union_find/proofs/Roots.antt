-- Roots: above each basin stands one. What halving a way and joining two roots does to them.
-- Assumes nothing.
use Prim.Native.Nat.{ℕ, zero, suc, min, ◌≤◌, ◌<◌}
use native.Mathlib.Omega.{arith}
use native.Mathlib.Decide.{ℕ_discrete, dec_lt}
use mathlib.Core.Path.{◌≡◌, refl, sym, ap, ap₂, subst, ◌∙◌}
use mathlib.Core.Bool.{Bool, cond, ◌||◌, or-true, or_comm}
use mathlib.Core.Logic.{◌⊎◌, inl, inr}
use mathlib.Core.List.{List}
use lib.ListN.{length, get_or, set, length-set}
use lib.Seq.{get_or-set_same, get_or-set_other}
use lib.Dec.{eqb}
use borrow.Author.Tests.{eq-eqb, ne_eqb}
use Rattle.union_find.specs.Forests.{Rising, Root, top, up, RootFound, joined_root, Joined}

module _ {p : List ℕ} where
  -- a root is its own parent, and no higher than the basins below it
  root-own : {v r : ℕ} → Root p v r → get_or p r 0 ≡ r
  root-own (top e) = e
  root-own (up l h) = root-own h

  root-low : {v r : ℕ} → Root p v r → r ≤ v
  root-low (top e) = omega arith
  root-low (up l h) = omega (arith, l, root-low h)

  -- a basin has one root
  pub root-unique : {v r s : ℕ} → Root p v r → Root p v s → r ≡ s
  root-unique (top e) (top f) = refl
  root-unique (top e) (up l h) = absurd (omega arith)
  root-unique (up l h) (top e) = absurd (omega arith)
  root-unique (up l h) (up m k) = root-unique h k

  -- and its parent has the same
  pub root-parent : {v r : ℕ} → Root p v r → Root p (get_or p v 0) r
  root-parent (top {r = r} e) = subst (λ (u : ℕ). Root p u r) (sym e) (top e)
  root-parent (up l h) = h

  -- a basin whose parent is g has the root above g
  root-up : (v g : ℕ) {r : ℕ} → get_or p v 0 ≡ g → g < v → Root p g r → Root p v r
  root-up v g {r} e l h = up {v = v} (omega arith) (subst (λ (u : ℕ). Root p u r) (sym e) h)

  -- above each basin there is a root, since the parents fall
  module _ {n : ℕ} (rising : Rising n p) where
    root-step : (v : ℕ) → v < n → ((u : ℕ) → u < v → (r : ℕ) × Root p u r) → Dec (get_or p v 0 < v) → (r : ℕ) × Root p v r
    root-step v l f (yes d) = let r = f (get_or p v 0) d in (r.0, up d r.1)
    root-step v l f (no d) = (v, top {r = v} (omega (arith, rising.parent v l)))

    root_below : (k v : ℕ) → v < k → v < n → (r : ℕ) × Root p v r
    root_below zero v l m = absurd (omega arith)
    root_below (suc k) v l m = root-step v m (λ u d. root_below k u (omega arith) (omega arith)) (dec_lt (get_or p v 0) v)

    root-exists : (v : ℕ) → v < n → (r : ℕ) × Root p v r
    root-exists v l = root_below (suc v) v (omega arith) l

-- ---- a way halved

-- x has its parent's parent.
abbrev pub halved_at : List ℕ → ℕ → List ℕ
halved_at p x = set p x (get_or p (get_or p x 0) 0)

module _ (p : List ℕ) (x : ℕ) (long : x < length p) (below : get_or p x 0 < x) where
  -- x has a new parent, the others have theirs
  here : get_or (halved_at p x) x 0 ≡ get_or p (get_or p x 0) 0
  here = get_or-set_same p x (get_or p (get_or p x 0) 0) 0 long

  there : (u : ℕ) → (u ≡ x → ⊥) → get_or (halved_at p x) u 0 ≡ get_or p u 0
  there u other = get_or-set_other p x u (get_or p (get_or p x 0) 0) 0 other

  module _ {n : ℕ} (rising : Rising n p) (within : x < n) where
    falls : get_or p (get_or p x 0) 0 ≤ get_or p x 0
    falls = rising.parent (get_or p x 0) (omega arith)

    -- no root changes
    root-halved : {u w : ℕ} → Root p u w → Root (halved_at p x) u w
    root-halved (top {r = r} e) = top (there r (λ same. absurd (omega (arith, below, subst (λ (u : ℕ). get_or p u 0 ≡ u) same e))) ∙ e)
    root-halved (up {v = v} {r = r} l h) = go (ℕ_discrete v x) (root-halved h)
      where
        skipped : Root (halved_at p x) (get_or p x 0) r → Root (halved_at p x) (get_or p (get_or p x 0) 0) r
        skipped k = subst (λ (u : ℕ). Root (halved_at p x) u r) (there (get_or p x 0) (λ same. absurd (omega arith))) (root-parent k)

        go : Dec (v ≡ x) → Root (halved_at p x) (get_or p v 0) r → Root (halved_at p x) v r
        go (yes same) k = subst (λ (u : ℕ). Root (halved_at p x) u r) (sym same) (root-up x (get_or p (get_or p x 0) 0) here (omega (arith, below, falls)) (skipped (subst (λ (u : ℕ). Root (halved_at p x) (get_or p u 0) r) same k)))
        go (no other) k = root-up v (get_or p v 0) (there v other) l k

    rising-halved : Rising n (halved_at p x)
    rising-halved = record { long = omega (arith, rising.long, length-set p x (get_or p (get_or p x 0) 0)); parent = λ v l. go v l (ℕ_discrete v x) }
      where
        go : (v : ℕ) → v < n → Dec (v ≡ x) → get_or (halved_at p x) v 0 ≤ v
        go v l (yes same) = rw same (omega (arith, here, below, falls))
        go v l (no other) = omega (arith, there v other, rising.parent v l)

-- ---- one way up, halved on the way

-- The way from v has come to x: its root is still that of v, and no root has changed.
pub record Climbing (n : ℕ) (p₀ : List ℕ) (v : ℕ) (p : List ℕ) (x : ℕ) : Type 0 where
  pub r : ℕ
  pub root : Root p₀ v r
  pub above : Root p x r
  pub same : (u w : ℕ) → Root p₀ u w → Root p u w
  pub rising : Rising n p
  pub within : x < n
  pub kept : length p ≡ length p₀

pub climbing-none : {n : ℕ} {p : List ℕ} {v : ℕ} → Rising n p → v < n → Climbing n p v p v
climbing-none {v = v} rising l =
    let r = root-exists rising v l in
    record { r = r.0; root = r.1; above = r.1; same = λ u w h. h; rising = rising; within = l; kept = refl }

module _ {n : ℕ} {p₀ : List ℕ} {v : ℕ} {p : List ℕ} {x : ℕ} (f : Climbing n p₀ v p x) where
  pub climbing-more : get_or p x 0 < x → Climbing n p₀ v (halved_at p x) (get_or p (get_or p x 0) 0)
  climbing-more below =
      record {
        r = f.r;
        root = f.root;
        above = root-halved p x long below f.rising f.within (root-parent (root-parent f.above));
        same = λ u w h. root-halved p x long below f.rising f.within (f.same u w h);
        rising = rising-halved p x long below f.rising f.within;
        within = omega (arith, f.within, below, f.rising.parent (get_or p x 0) (omega arith));
        kept = length-set p x (get_or p (get_or p x 0) 0) ∙ f.kept;
      }
    where
      long : x < length p
      long = omega (arith, f.within, f.rising.long)

  pub climbing-all : x ≤ get_or p x 0 → RootFound n p₀ v x p
  climbing-all l =
      let e : get_or p x 0 ≡ x = omega (arith, f.rising.parent x f.within) in
      record { root = subst (λ (s : ℕ). Root p₀ v s) (root-unique f.above (top e)) f.root; same = f.same; rising = f.rising }

-- ---- two roots joined

-- what was the one or the other root becomes the lower of them, any other is kept
pub joined-one : (x y w : ℕ) → (w ≡ x) ⊎ (w ≡ y) → joined_root x y w ≡ min x y
joined-one x y w (inl e) = rw (eq-eqb w x e)
joined-one x y w (inr e) = ap (λ (b : Bool). cond (eqb w x || b) (min x y) w) (eq-eqb w y e) ∙ ap (λ (b : Bool). cond b (min x y) w) (or-true (eqb w x))

pub joined-other : (x y w : ℕ) → (w ≡ x → ⊥) → (w ≡ y → ⊥) → joined_root x y w ≡ w
joined-other x y w e f = rw (ne_eqb w x e, ne_eqb w y f)

joined-turned : (x y w : ℕ) → joined_root x y w ≡ joined_root y x w
joined-turned x y w = ap₂ {C = ℕ} (λ b m. cond b m w) (or_comm (eqb w x) (eqb w y)) (omega arith)

-- where the lower is known
joined-lower : (x y w : ℕ) → x ≤ y → cond (eqb w y) x w ≡ joined_root x y w
joined-lower x y w l = go (ℕ_discrete w x) (ℕ_discrete w y)
  where
    low : min x y ≡ x
    low = omega arith

    go : Dec (w ≡ x) → Dec (w ≡ y) → cond (eqb w y) x w ≡ joined_root x y w
    go d (yes f) = ap (λ (b : Bool). cond b x w) (eq-eqb w y f) ∙ sym (joined-one x y w (inr f) ∙ low)
    go (yes e) (no f) = ap (λ (b : Bool). cond b x w) (ne_eqb w y f) ∙ e ∙ sym (joined-one x y w (inl e) ∙ low)
    go (no e) (no f) = ap (λ (b : Bool). cond b x w) (ne_eqb w y f) ∙ sym (joined-other x y w e f)

module _ (p : List ℕ) (lo hi : ℕ) (long : hi < length p) (lo-own : get_or p lo 0 ≡ lo) (hi-own : get_or p hi 0 ≡ hi) (lower : lo ≤ hi) where
  -- the lower of two roots becomes the parent of the other
  root-linked : {u w : ℕ} → Root p u w → Root (set p hi lo) u (cond (eqb w hi) lo w)
  root-linked (top {r = r} e) = go (ℕ_discrete r hi) (dec_lt lo hi)
    where
      go : Dec (r ≡ hi) → Dec (lo < hi) → Root (set p hi lo) r (cond (eqb r hi) lo r)
      go (yes same) (yes less) = rw (same, eq-eqb hi hi refl) (root-up hi lo (get_or-set_same p hi lo 0 long) less (top (get_or-set_other p hi lo lo 0 (λ q. absurd (omega arith)) ∙ lo-own)))
      go (yes same) (no more) =
          let e : lo ≡ hi = omega arith in
          rw (same, eq-eqb hi hi refl, e) (top (get_or-set_same p hi hi 0 long))
      go (no other) d = rw (ne_eqb r hi other) (top (get_or-set_other p hi r lo 0 other ∙ e))
  root-linked (up {v = v} {r = r} l h) = root-up v (get_or p v 0) (get_or-set_other p hi v lo 0 (λ same. absurd (omega (arith, l, hi-own, subst (λ (u : ℕ). get_or p u 0 < u) same l)))) l (root-linked h)

  rising-linked : {n : ℕ} → Rising n p → Rising n (set p hi lo)
  rising-linked {n} rising = record { long = omega (arith, rising.long, length-set p hi lo); parent = λ v l. go v l (ℕ_discrete v hi) }
    where
      go : (v : ℕ) → v < n → Dec (v ≡ hi) → get_or (set p hi lo) v 0 ≤ v
      go v l (yes same) = rw same (omega (arith, get_or-set_same p hi lo 0 long))
      go v l (no other) = omega (arith, get_or-set_other p hi v lo 0 other, rising.parent v l)

module _ {n : ℕ} {p : List ℕ} {a b x y : ℕ} {p₁ p₂ : List ℕ} (rising : Rising n p) (a_in : a < n) (b-in : b < n) (f : RootFound n p a x p₁) (g : RootFound n p₁ b y p₂) where
  -- both are roots to the end, and those above a and b to begin with
  x-root : Root p₂ a x
  x-root = g.same a x (f.same a x f.root)

  y-root : Root p₂ b y
  y-root = g.same b y g.root

  pub x-in : x < n
  x-in = omega (arith, a_in, root-low x-root)

  pub y-in : y < n
  y-in = omega (arith, b-in, root-low y-root)

  b-first : Root p b y
  b-first =
      let r = root-exists rising b b-in in
      subst (λ (s : ℕ). Root p b s) (root-unique (f.same b r.0 r.1) g.root) r.1

  joined : (p₃ : List ℕ) → ((u w : ℕ) → Root p₂ u w → Root p₃ u (joined_root x y w)) → Rising n p₃ → Joined n p a b p₃
  joined p₃ h r = record { x = x; y = y; a-root = f.root; b-root = b-first; roots = λ u w k. h u w (g.same u w (f.same u w k)); rising = r }

  pub joined-below : x ≤ y → Joined n p a b (set p₂ y x)
  joined-below l =
      joined (set p₂ y x)
      (λ u w k. subst (λ (r : ℕ). Root (set p₂ y x) u r) (joined-lower x y w l) (root-linked p₂ x y (omega (arith, y-in, g.rising.long)) (root-own x-root) (root-own y-root) l k))
      (rising-linked p₂ x y (omega (arith, y-in, g.rising.long)) (root-own x-root) (root-own y-root) l g.rising)

  pub joined-above : y ≤ x → Joined n p a b (set p₂ x y)
  joined-above l =
      joined (set p₂ x y)
      (λ u w k. subst (λ (r : ℕ). Root (set p₂ x y) u r) (joined-lower y x w l ∙ joined-turned y x w) (root-linked p₂ y x (omega (arith, x-in, g.rising.long)) (root-own y-root) (root-own x-root) l k))
      (rising-linked p₂ y x (omega (arith, x-in, g.rising.long)) (root-own y-root) (root-own x-root) l g.rising)
