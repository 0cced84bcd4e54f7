-- Arcs along which everything reaches everything: what one arc more or less changes, and which cuts stand in the way.
-- Assumes nothing.
use Prim.Native.Nat.{ℕ}
use mathlib.Core.Path.{◌≡◌, refl, sym, ap, subst, ◌∙◌}
use mathlib.Core.Bool.{Bool, true, false, not, ◌&&◌, ◌||◌}
use mathlib.Core.Logic.{◌⊎◌, ⊎_elim}
use mathlib.Core.List.Memᴰ
use mathlib.Core.List.{List, Memᴰ}
use borrow.Author.Tests.{not-true}
use mathlib.Mathlib.Data.Bool.Basic.{and_elim_left, and_elim_right, and_intro, or_inl, or_inr, Bool-eq-false, eq-true_of_not-eq-false}
use Rattle.network.specs.Orientations.{Arc, arc, Walk, reached}
use Rattle.network.specs.Plans.{reaches_all, strongly_connected}
use Rattle.lists.proofs.Bools.{or_cases, clash, same_test}
use Rattle.lists.proofs.Searches.{every-at, every-make}
use Rattle.network.proofs.Walks.{Within, walk-trans, walk-arc, walk-along, walk-within, walk_inside, walk-reached, reached-walk, arc-from, arc-to, reached-refl}

-- every basin of bs reaches every other, as walks
abbrev pub Strong : List ℕ → List Arc → Type 0
Strong bs A = (u v : ℕ) → Memᴰ u bs → Memᴰ v bs → Walk A u v

pub strong-walks : (bs : List ℕ) (A : List Arc) → strongly_connected bs A ≡ true → Strong bs A
strong-walks bs A e u v mu mv = reached-walk A u v (every-at (reached A u) (every-at (reaches_all bs A) e mu) mv)

pub walks-strong : (bs : List ℕ) (A : List Arc) → Strong bs A → strongly_connected bs A ≡ true
walks-strong bs A f = every-make (reaches_all bs A) bs (λ u mu. every-make (reached A u) bs (λ v mv. walk-reached (f u v mu mv)))

pub strong-within : (bs : List ℕ) (A B : List Arc) → Within A B → strongly_connected bs A ≡ true → strongly_connected bs B ≡ true
strong-within bs A B h e = walks-strong bs B (λ u v mu mv. walk-within h (strong-walks bs A e u v mu mv))

-- a walk between the ends of an arc
abbrev WalkOver : List Arc → Arc → Type 0
WalkOver A (arc a b) = Walk A a b

-- what is reached from b is reached from b by one arc more
pub reached-on : (R : List Arc) (b c d : ℕ) → Memᴰ (arc c d) R → reached R b c ≡ true → reached R b d ≡ true
reached-on R b c d m e = walk-reached (walk-trans (reached-walk R b c e) (walk-arc m))

-- A is R with the arc from a to b
pub record OneMore (R A : List Arc) (a b : ℕ) : Type 0 where
  pub has : Memᴰ (arc a b) A
  pub rest : Within R A
  pub only : (y : Arc) → Memᴰ y A → (y ≡ arc a b) ⊎ Memᴰ y R

-- A is at most R with the arcs between a and b both ways
abbrev pub TwoMore : List Arc → List Arc → ℕ → ℕ → Type 0
TwoMore R A a b = (y : Arc) → Memᴰ y A → (y ≡ arc a b) ⊎ ((y ≡ arc b a) ⊎ Memᴰ y R)

-- If b leads to a without them, the arc from b to a is not missed.
pub detour : {R A₁ A₂ : List Arc} {a b u v : ℕ} → OneMore R A₁ a b → TwoMore R A₂ a b → Walk R b a → Walk A₂ u v → Walk A₁ u v
detour {R} {A₁} {A₂} {a} {b} one two back p = walk-along over p
  where
    over : (c d : ℕ) → Memᴰ (arc c d) A₂ → Walk A₁ c d
    over c d m =
        ⊎_elim
        (λ e. walk-arc (Memᴰ.cast e one.has))
        (⊎_elim (λ e. subst (WalkOver A₁) (sym e) (walk-within one.rest back)) (λ m'. walk-arc (one.rest (arc c d) m')))
        (two (arc c d) m)

-- With only the arc from a to b more, b leads to a just if it did before.
pub came-back : {R A : List Arc} {a b : ℕ} → OneMore R A a b → Walk A b a → reached R b a ≡ true
came-back {R} {A} {a} {b} one p = eq-true_of_not-eq-false {b = reached R b a} (λ n. clash (walk_inside (reached R b) (closed n) p (reached-refl R b)) n)
  where
    closed : reached R b a ≡ false → (c d : ℕ) → Memᴰ (arc c d) A → reached R b c ≡ true → reached R b d ≡ true
    closed n c d m e =
        ⊎_elim
        (λ same. clash (subst (λ (x : ℕ). reached R b x ≡ true) (arc-from same) e) n)
        (λ m'. reached-on R b c d m' e)
        (one.only (arc c d) m)

-- If everything reaches everything along A, and without the arcs between a and b neither leads to the other, then what b leads to without them
-- is a side that no other arc crosses.
module _ (bs : List ℕ) (R A : List Arc) (a b : ℕ) (two : TwoMore R A a b) (str : Strong bs A)
    (ends : (c d : ℕ) → Memᴰ (arc c d) R → Memᴰ c bs × Memᴰ d bs) (ina : Memᴰ a bs) (inb : Memᴰ b bs)
    (ba : reached R b a ≡ false) (ab : reached R a b ≡ false) where
  -- either leads to each basin
  cover : (v : ℕ) → Memᴰ v bs → reached R b v || reached R a v ≡ true
  cover v mv = walk_inside (λ x. reached R b x || reached R a x) closed (str b v inb mv) (or_inl _ _ (reached-refl R b))
    where
      closed : (c d : ℕ) → Memᴰ (arc c d) A → reached R b c || reached R a c ≡ true → reached R b d || reached R a d ≡ true
      closed c d m e =
          ⊎_elim
          (λ same. subst (λ (x : ℕ). reached R b x || reached R a x ≡ true) (sym (arc-to same)) (or_inl _ _ (reached-refl R b)))
          (⊎_elim
          (λ same. subst (λ (x : ℕ). reached R b x || reached R a x ≡ true) (sym (arc-to same)) (or_inr (reached R b a) _ (reached-refl R a)))
          (λ m'. ⊎_elim (λ p. or_inl _ _ (reached-on R b c d m' p)) (λ p. or_inr (reached R b d) _ (reached-on R a c d m' p)) (or_cases (reached R b c) _ e)))
          (two (arc c d) m)

  -- and never both
  apart : (v : ℕ) → Memᴰ v bs → reached R b v ≡ true → reached R a v ≡ true → ⊥
  apart v mv pb pa = clash (and_elim_left (reached R b a) _ (walk_inside (λ x. reached R b x && reached R a x) closed (str v a mv ina) (and_intro pb pa))) ba
    where
      closed : (c d : ℕ) → Memᴰ (arc c d) A → reached R b c && reached R a c ≡ true → reached R b d && reached R a d ≡ true
      closed c d m e =
          ⊎_elim
          (λ same. clash (subst (λ (x : ℕ). reached R b x ≡ true) (arc-from same) (and_elim_left (reached R b c) _ e)) ba)
          (⊎_elim
          (λ same. clash (subst (λ (x : ℕ). reached R a x ≡ true) (arc-from same) (and_elim_right (reached R b c) _ e)) ab)
          (λ m'. and_intro (reached-on R b c d m' (and_elim_left (reached R b c) _ e)) (reached-on R a c d m' (and_elim_right (reached R b c) _ e))))
          (two (arc c d) m)

  pub bridge : (c d : ℕ) → Memᴰ (arc c d) R → reached R b c ≡ reached R b d
  bridge c d m = same_test (reached R b c) (reached R b d) (reached-on R b c d m) back
    where
      back : reached R b d ≡ true → reached R b c ≡ true
      back pd =
          ⊎_elim
          (λ p. p)
          (λ pa. absurd (apart d (ends c d m).1 pd (reached-on R a c d m pa)))
          (or_cases (reached R b c) _ (cover c (ends c d m).0))

  -- the other side is what a leads to
  pub other-side : (v : ℕ) → Memᴰ v bs → reached R a v ≡ not (reached R b v)
  other-side v mv =
      same_test (reached R a v) (not (reached R b v))
      (λ pa. ap not (Bool-eq-false {b = reached R b v} (λ pb. apart v mv pb pa)))
      (λ n. ⊎_elim (λ pb. clash pb (not-true (reached R b v) n)) (λ pa. pa) (or_cases (reached R b v) _ (cover v mv)))

-- If only one arc of A crosses a side, two basins that reach each other are on one side.
pub one-crossing : (A : List Arc) (S : ℕ → Bool) (p q u v : ℕ) → ((c d : ℕ) → Memᴰ (arc c d) A → (arc c d ≡ arc p q) ⊎ (S c ≡ S d)) → Walk A u v → Walk A v u → S u ≡ S v
one-crossing A S p q u v f there back = go (S p) refl
  where
    inside : S p ≡ false → (c d : ℕ) → Memᴰ (arc c d) A → S c ≡ true → S d ≡ true
    inside n c d m e = ⊎_elim (λ same. clash e (ap S (arc-from same) ∙ n)) (λ same. sym same ∙ e) (f c d m)

    outside : S p ≡ true → (c d : ℕ) → Memᴰ (arc c d) A → not (S c) ≡ true → not (S d) ≡ true
    outside y c d m e = ⊎_elim (λ same. clash (ap S (arc-from same) ∙ y) (not-true (S c) e)) (λ same. ap not (sym same ∙ not-true (S c) e)) (f c d m)

    go : (b : Bool) → S p ≡ b → S u ≡ S v
    go false n = same_test (S u) (S v) (walk_inside S (inside n) there) (walk_inside S (inside n) back)
    go true y =
        same_test (S u) (S v)
        (λ e. eq-true_of_not-eq-false {b = S v} (λ n. clash e (not-true (S u) (walk_inside (λ x. not (S x)) (outside y) back (ap not n)))))
        (λ e. eq-true_of_not-eq-false {b = S u} (λ n. clash e (not-true (S v) (walk_inside (λ x. not (S x)) (outside y) there (ap not n)))))
