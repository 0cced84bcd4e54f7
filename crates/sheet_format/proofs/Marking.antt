-- The kinds that may come in a plan sheet, and their bodies.
-- Assumes nothing.
use Rattle.std.specs.Prelude.{Some}
use Prim.Native.Nat.{ℕ}
use mathlib.Core.Path.{◌≡◌, refl}
use mathlib.Core.Bool.{true, or-false}
use mathlib.Core.Logic.{◌⊎◌, inl, inr, ⊎_elim}
use lib.Dec.{eqb}
use borrow.Author.Tests.{eqb-true}
use Rattle.lists.specs.Lists.{elem}
use Rattle.lists.proofs.Bools.{or_cases}
use Rattle.file_records.specs.Records.{body_of}
use Rattle.sheet_format.specs.Sheets.{gate_kind}
use Rattle.sheet_format.specs.Readings.{plan_head_due, gate_due, byte_in}

-- the kinds of a gated reach
abbrev pub Hanging : ℕ → Type 0
Hanging k = (k ≡ 17) ⊎ (k ≡ 18)

-- what holds of both of them
pub of-oriented : (P : ℕ → Type 0) → P 17 → P 18 → (k : ℕ) → Hanging k → P k
of-oriented P p q k (inl e) = rw e p
of-oriented P p q k (inr e) = rw e q

-- what may come after the head and is not the end is a gated reach
pub orientation : (k : ℕ) → (k ≡ 9 → ⊥) → elem k gate_due ≡ true → Hanging k
orientation k q h =
    ⊎_elim (λ e. inl (eqb-true k 17 e)) (λ h2.
    ⊎_elim (λ e. inr (eqb-true k 18 e)) (λ h3. absurd (q (eqb-true k 9 (rw or-false at h3))))
    (or_cases (eqb k 18) _ h2))
    (or_cases (eqb k 17) _ h)

-- where the head is due only it may come
pub sheet-comes-first : (k : ℕ) → elem k plan_head_due ≡ true → k ≡ 16
sheet-comes-first k h = eqb-true k 16 (rw or-false at h)

pub body-oriented : (k : ℕ) → Hanging k → body_of k ≡ Some 2
unfolding body_of
body-oriented = of-oriented (λ k. body_of k ≡ Some 2) refl refl

pub body-plan : body_of 16 ≡ Some 2
unfolding body_of
body-plan = refl

-- the kind byte of the byte that a kind byte means
pub kind-again : (k : ℕ) → Hanging k → gate_kind (byte_in k) ≡ k
kind-again = of-oriented (λ k. gate_kind (byte_in k) ≡ k) refl refl
