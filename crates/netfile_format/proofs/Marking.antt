-- The kinds that may come in a network file, their bodies, and the inner kinds of shut reaches.
-- Assumes nothing.
use Rattle.std.specs.Prelude.{Some}
use Prim.Native.Nat.{ℕ, zero, suc, ◌-◌, ◌≤◌}
use native.Mathlib.Omega.{arith}
use mathlib.Core.Path.{◌≡◌, refl, subst⁻¹}
use mathlib.Core.Bool.{true, false, or-false, false≢true}
use mathlib.Core.List.{List, [], ◌∷◌}
use mathlib.Core.Logic.{⊎_elim}
use lib.Dec.{eqb}
use borrow.Author.Tests.{eqb-true}
use mathlib.Mathlib.Data.Bool.Basic.{Bool-eq-false}
use Rattle.lists.specs.Lists.{elem}
use Rattle.lists.proofs.Bools.{or_cases}
use Rattle.file_records.specs.Records.{body_of}
use Rattle.netfile_format.specs.Files.{reach_kind, reach_kinds, known_kind, record_kind, head_due, reach_due}
use Rattle.netfile_format.specs.Answers.{record_length}

-- what holds of each number of a list holds of every number in it
abbrev Each : (ℕ → Type 0) → List ℕ → Type 0
Each P [] = Unit {0}
Each P (x ∷ xs) = P x × Each P xs

of-elem : (P : ℕ → Type 0) (xs : List ℕ) → Each P xs → (k : ℕ) → elem k xs ≡ true → P k
of-elem P [] h k e = absurd (false≢true e)
of-elem P (x ∷ xs) h k e = ⊎_elim (λ q. subst⁻¹ P (eqb-true k x q) h.0) (λ q. of-elem P xs h.1 k q) (or_cases (eqb k x) _ e)

-- what may come after the head and is not the end is a reach
pub record Reaching (k : ℕ) : Type 0 where
  pub comes : elem k reach_due ≡ true
  pub no_end : k ≡ 9 → ⊥

-- what holds of the kinds of a reach, in service and shut
pub of-reach : (P : ℕ → Type 0) → P 2 → P 3 → P 4 → P 5 → (k : ℕ) → Reaching k → P k
of-reach P p q r s k h = of-elem (λ k. (k ≡ 9 → ⊥) → P k) reach_due (λ _. p, (λ _. q, (λ _. r, (λ _. s, (λ n. absurd (n refl), tt))))) k h.comes h.no_end

-- where the head is due only it may come
pub comes-first : (k : ℕ) → elem k head_due ≡ true → k ≡ 1
comes-first k h = eqb-true k 1 (rw or-false at h)

pub body-reach : (k : ℕ) → Reaching k → body_of k ≡ Some (record_length k - 1)
unfolding body_of
body-reach = of-reach (λ k. body_of k ≡ Some (record_length k - 1)) refl refl refl refl

pub body-head : body_of 1 ≡ Some 2
unfolding body_of
body-head = refl

-- ---- the kinds of reaches in service, which are the inner kinds of shut ones

-- the kind byte of the kind that a kind byte means
pub kind-byte : (k : ℕ) → known_kind k ≡ true → reach_kind (record_kind k) ≡ k
kind-byte = of-elem (λ k. reach_kind (record_kind k) ≡ k) reach_kinds (refl, (refl, (refl, tt)))

pub kind-known : (k : ℕ) → 2 ≤ k → k ≤ 4 → known_kind k ≡ true
kind-known zero p q = absurd (omega arith)
kind-known (suc zero) p q = absurd (omega arith)
kind-known (suc (suc zero)) p q = refl
kind-known (suc (suc (suc zero))) p q = refl
kind-known (suc (suc (suc (suc zero)))) p q = refl
kind-known (suc (suc (suc (suc (suc k))))) p q = absurd (omega arith)

pub kind-unknown : (k : ℕ) → (2 ≤ k → k ≤ 4 → ⊥) → known_kind k ≡ false
kind-unknown k n =
    Bool-eq-false {b = known_kind k}
    (λ e.
    let within = of-elem (λ k. (2 ≤ k) × (k ≤ 4)) reach_kinds ((omega arith, omega arith), ((omega arith, omega arith), ((omega arith, omega arith), tt))) k e in
    n within.0 within.1)
