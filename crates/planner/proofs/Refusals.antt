-- What each call promises to a network that is refused by its table depends on the refusal only.
-- Assumes nothing.
use Rattle.network.specs.declared.Refusal.{Refusal}
use Rattle.replies.specs.declared.Reply.{Reply}
use Rattle.std.specs.Prelude.{Result, Bool}
use Prim.Native.Nat.{ℕ}
use mathlib.Core.Path.{sym, ap, subst, ◌∙◌}
use mathlib.Core.List.{List}
use Rattle.network.specs.Replies.{fault_number, Outcome, first_reply, next_reply}
use Rattle.tables.specs.Answers.{table_answer, TableChecked}
use Rattle.replies.specs.Answers.{Replied, CheckCall}
use Rattle.replies.proofs.Answers.{check-called}
use Rattle.replies.proofs.Refusals.{check-faulty, first-faulty, next-faulty}
use Rattle.packing.proofs.Packings.{ByTable}

pub table-alike : {r : Result (Unit {0}) Refusal} → ByTable (λ N. TableChecked N r)
table-alike N N' x e e' h = record { answer = h.answer ∙ ap table_answer (e ∙ sym e'); number = h.number ∙ ap fault_number (e ∙ sym e') }

pub check-alike : {r : Result Bool Refusal} (s : List ℕ) → ByTable (λ N. CheckCall N s r)
check-alike s N N' x e e' h = check-called (h.answer ∙ sym (check-faulty N s x e).answer ∙ (check-faulty N' s x e').answer)

module _ {plan marks plan' marks' : List ℕ} {r : Result Reply Refusal} where
  pub first_alike : (p q : ℕ) → ByTable (λ N. Replied (first_reply N p q) plan marks plan' marks' r)
  first_alike p q N N' x e e' = subst (λ (o : Outcome). Replied o plan marks plan' marks' r) (first-faulty N x p q e ∙ sym (first-faulty N' x p q e'))

  pub next-alike : (s : List ℕ) (p q : ℕ) → ByTable (λ N. Replied (next_reply N s p q) plan marks plan' marks' r)
  next-alike s p q N N' x e e' = subst (λ (o : Outcome). Replied o plan marks plan' marks' r) (next-faulty N s x p q e ∙ sym (next-faulty N' s x p q e'))
