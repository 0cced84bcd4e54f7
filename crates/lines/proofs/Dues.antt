-- Which line an answer calls for.
-- Assumes nothing.
use Prim.Native.Nat.{ℕ, zero, suc, ◌-◌}
use native.Mathlib.Omega.{arith}
use mathlib.Core.Path.{◌≡◌, refl, sym, ap, ◌∙◌}
use borrow.Author.Tests.{eq-eqb, ne_eqb}
use Rattle.lines.specs.declared.Due.TheVariants as D
use Rattle.lines.specs.Dues.{plan_due, refusal_due}

pub plan-due : (left : ℕ) → (left ≡ 0 → ⊥) → D.Plan (left - 1) ≡ plan_due left
plan-due zero n = absurd (n refl)
plan-due (suc left) n = ap D.Plan (omega arith)

-- the line of a refusal, by its number
pub refusal-end : {n k : ℕ} → n ≡ k → n ≡ 11 → D.End ≡ refusal_due k
refusal-end {n} {k} e z = rw (eq-eqb k 11 (sym e ∙ z))

pub refusal-other : {n k : ℕ} → n ≡ k → (n ≡ 11 → ⊥) → D.Refused n ≡ refusal_due k
refusal-other {n} {k} e z = rw (← e, ne_eqb n 11 z)
