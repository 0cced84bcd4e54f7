-- Walks, and the test `reached` that decides them.
-- Assumes nothing.
use Prim.Native.Nat.{ℕ}
use mathlib.Core.Path.{◌≡◌, refl, subst, ◌∙◌}
use mathlib.Core.Bool.{Bool, true}
use mathlib.Core.Logic.{⊎_elim}
use mathlib.Core.List.Memᴰ
use mathlib.Core.List.{List, [], ◌∷◌, Memᴰ}
use lib.Dec.{eqb}
use borrow.Author.Tests.{eqb-true, eq-eqb}
use mathlib.Mathlib.Data.Bool.Basic.{and_elim_left, and_elim_right, and_intro, or_inl, or_inr}
use Rattle.network.specs.Orientations.{Arc, arc, Walk, stay, step, reached}
use Rattle.lists.proofs.Bools.{or_cases, same_test}

-- B has every arc of A
abbrev pub Within : List Arc → List Arc → Type 0
Within A B = (x : Arc) → Memᴰ x A → Memᴰ x B

pub walk-trans : {A : List Arc} {u v w : ℕ} → Walk A u v → Walk A v w → Walk A u w
walk-trans stay q = q
walk-trans (step m p) q = step m (walk-trans p q)

pub walk-arc : {A : List Arc} {u v : ℕ} → Memᴰ (arc u v) A → Walk A u v
walk-arc m = step m stay

-- each arc of A is replaced by a walk along B
pub walk-along : {A B : List Arc} {u v : ℕ} → ((a b : ℕ) → Memᴰ (arc a b) A → Walk B a b) → Walk A u v → Walk B u v
walk-along f stay = stay
walk-along f (step {u = a} {v = b} m p) = walk-trans (f a b m) (walk-along f p)

pub walk-within : {A B : List Arc} {u v : ℕ} → Within A B → Walk A u v → Walk B u v
walk-within h p = walk-along (λ a b m. walk-arc (h (arc a b) m)) p

-- a set of basins that no arc leaves holds all that is reached from it
pub walk_inside : {A : List Arc} {u v : ℕ} (S : ℕ → Bool) → ((a b : ℕ) → Memᴰ (arc a b) A → S a ≡ true → S b ≡ true) → Walk A u v → S u ≡ true → S v ≡ true
walk_inside S f stay h = h
walk_inside S f (step {u = a} {v = b} m p) h = walk_inside S f p (f a b m h)

-- what is alike at both ends of each arc is alike at both ends of a walk
pub walk-alike : {A : List Arc} {X : Type 0} (f : ℕ → X) → ((c d : ℕ) → Memᴰ (arc c d) A → f c ≡ f d) → {u v : ℕ} → Walk A u v → f u ≡ f v
walk-alike f h stay = refl
walk-alike f h (step {u = c} {v = d} m p) = h c d m ∙ walk-alike f h p

pub arc-from : {a b c d : ℕ} → arc a b ≡ arc c d → a ≡ c
arc-from e = cc

pub arc-to : {a b c d : ℕ} → arc a b ≡ arc c d → b ≡ d
arc-to e = cc

-- ---- the test decides

pub reached-refl : (A : List Arc) (u : ℕ) → reached A u u ≡ true
reached-refl [] u = eq-eqb u u refl
reached-refl (arc a b ∷ A) u = or_inl _ _ (reached-refl A u)

reached-trans : (A : List Arc) (u v w : ℕ) → reached A u v ≡ true → reached A v w ≡ true → reached A u w ≡ true
reached-trans [] u v w p q = subst (λ (x : ℕ). eqb u x ≡ true) (eqb-true v w q) p
reached-trans (arc a b ∷ A) u v w p q =
    ⊎_elim
    (λ uv. ⊎_elim
    (λ vw. or_inl _ _ (reached-trans A u v w uv vw))
    (λ va-bw. or_inr (reached A u w) _ (and_intro (reached-trans A u v a uv (and_elim_left (reached A v a) _ va-bw)) (and_elim_right (reached A v a) _ va-bw)))
    (or_cases (reached A v w) _ q))
    (λ ua-bv. ⊎_elim
    (λ vw. or_inr (reached A u w) _ (and_intro (and_elim_left (reached A u a) _ ua-bv) (reached-trans A b v w (and_elim_right (reached A u a) _ ua-bv) vw)))
    (λ va-bw. or_inr (reached A u w) _ (and_intro (and_elim_left (reached A u a) _ ua-bv) (and_elim_right (reached A v a) _ va-bw)))
    (or_cases (reached A v w) _ q))
    (or_cases (reached A u v) _ p)

reached-arc : (A : List Arc) (u v : ℕ) → Memᴰ (arc u v) A → reached A u v ≡ true
reached-arc [] u v m = absurd (Memᴰ.not-nil m)
reached-arc (arc a b ∷ A) u v m =
    ⊎_elim
    (λ e. or_inr (reached A u v) _ (and_intro (subst (λ (x : ℕ). reached A u x ≡ true) (arc-from e) (reached-refl A u)) (subst (λ (x : ℕ). reached A x v ≡ true) (arc-to e) (reached-refl A v))))
    (λ m'. or_inl _ _ (reached-arc A u v m'))
    (Memᴰ.cases_cons m)

pub walk-reached : {A : List Arc} {u v : ℕ} → Walk A u v → reached A u v ≡ true
walk-reached {A} (stay {u = a}) = reached-refl A a
walk-reached {A} (step {u = a} {v = b} {w = c} m p) = reached-trans A a b c (reached-arc A a b m) (walk-reached p)

tail_within : (x : Arc) (A : List Arc) → Within A (x ∷ A)
tail_within x A y m = Memᴰ.tail m

pub reached-walk : (A : List Arc) (u v : ℕ) → reached A u v ≡ true → Walk A u v
reached-walk [] u v e = subst (λ (x : ℕ). Walk [] u x) (eqb-true u v e) stay
reached-walk (arc a b ∷ A) u v e =
    ⊎_elim
    (λ uv. walk-within (tail_within (arc a b) A) (reached-walk A u v uv))
    (λ ua-bv. walk-trans (walk-within (tail_within (arc a b) A) (reached-walk A u a (and_elim_left (reached A u a) _ ua-bv)))
    (step (Memᴰ.head refl) (walk-within (tail_within (arc a b) A) (reached-walk A b v (and_elim_right (reached A u a) _ ua-bv)))))
    (or_cases (reached A u v) _ e)

-- what is reached depends on which arcs there are, not on their order or number
pub reached-same : (A B : List Arc) (u v : ℕ) → Within A B → Within B A → reached A u v ≡ reached B u v
reached-same A B u v f g =
    same_test (reached A u v) (reached B u v)
    (λ e. walk-reached (walk-within f (reached-walk A u v e)))
    (λ e. walk-reached (walk-within g (reached-walk B u v e)))
