-- Document 02, item 2, from what two calls promise, on rows or on records.
-- Assumes nothing.
use Rattle.replies.specs.declared.Reply.{Reply}
use Rattle.network.specs.declared.Refusal.{Refusal}
use Rattle.std.specs.Prelude.{Result}
use Prim.Native.Nat.{ℕ, ◌≤◌, ◌<◌}
use native.Mathlib.Omega.{arith}
use mathlib.Core.Path.{◌≡◌, sym, ap, subst, subst⁻¹, ◌∙◌}
use mathlib.Core.Bool.{true, cond}
use mathlib.Core.Logic.{◌↔◌}
use mathlib.Core.Option.{none}
use mathlib.Core.List.{List}
use lib.ListN.{length, get_or, take, drop}
use lib.Seq.{take_at, get_or-take}
use Rattle.network.specs.Networks.{Network, table_fault, Accepted}
use Rattle.network.specs.Settings.{gates, gate_count}
use Rattle.network.specs.Plans.{is_plan}
use Rattle.network.specs.Marks.{mark_bytes}
use Rattle.network.specs.Replies.{Outcome, plan, first_answer, first_of, room_fault, first_reply}
use Rattle.network.specs.Choices.{bound_byte, bound_bytes, bound_after, flap_at}
use Rattle.network.proofs.Ways.{gate-at}
use Rattle.network.proofs.Order.{next-is-plan}
use Rattle.network.proofs.Choices.{bound-plan, bound-length, bound-get_or, flap-accepted, bound-flap}
use Rattle.refusals.proofs.Dues.{long-enough}
use Rattle.replies.specs.declared.Verdict.TheVariants.{Plan}
use Rattle.replies.specs.Answers.{given, answer_of, FirstCall, NextCall}
use Rattle.replies.proofs.Refusals.{first_by}
use Rattle.planner_laws.specs.Demands.{read_reply}
use Rattle.planner_laws.proofs.Demands.{first_read, next-read, plan-replied}
use Rattle.bound_gates.specs.Calls.{gives_plan, BoundCall}
use Rattle.bound_gates.proofs.Calls.{plan-given, replied-plan}
use Rattle.bound_laws.specs.Bounds.{FlapOver, PlanOver, FlapOfBound, NextOfBound}

-- What was told of a network that has a plan.
record Told (N : Network) (bytes' : List ℕ) : Type 0 where
  pub accepted : Accepted N
  pub setting : List ℕ
  pub is-plan : is_plan N setting ≡ true
  pub byte : (k : ℕ) → k < gate_count N → get_or bytes' k 2 ≡ bound_byte N k

told : (N : Network) {bytes marks bytes' marks' : List ℕ} {r : Result Reply Refusal} → BoundCall N bytes marks r bytes' marks' → r ≡ given Plan → Told N bytes'
told N {bytes} {marks} {bytes'} c y =
    let first = plan-given (first_reply N (length bytes) (length marks)) (ap gives_plan (sym c.reply ∙ y)) in
    let found = replied-plan N (length bytes) (length marks) first.1 in
    let front : take (gate_count N) bytes' ≡ bound_bytes N =
    ap (take (gate_count N)) (c.bytes_left ∙ ap (λ (o : Outcome). bound_after N o bytes) first.1) ∙ take_at (bound_bytes N) (drop (length (bound_bytes N)) bytes) (gate_count N) (bound-length N) in
    record {
      accepted = found.0;
      setting = first.0;
      is-plan = found.1;
      byte = λ k l. sym (get_or-take (gate_count N) bytes' k 2 l) ∙ ap (λ (b : List ℕ). get_or b k 2) front ∙ bound-get_or N k l;
    }

-- ---- every plan given hangs a bound gate so

-- the plan is read in the first bytes of its buffer
over :
    (N : Network) {bytes marks bytes' marks' : List ℕ} {r₁ r₂ : Result Reply Refusal} (plan' : List ℕ) → BoundCall N bytes marks r₁ bytes' marks' → (r₂ ≡ given Plan → is_plan N (take (gate_count N) plan') ≡ true)
    → PlanOver N bytes' plan' r₁ r₂
over N plan' c d k l y z small =
    let byte = (told N c y).byte k l in
    sym (get_or-take (gate_count N) plan' k 2 l) ∙ bound-plan N k (take (gate_count N) plan') (d z) (omega (arith, byte)) ∙ sym byte

module _ (N : Network) {bytes₁ marks₁ plan₂ marks₂ bytes₁' marks₁' plan₂' marks₂' : List ℕ} {r₁ r₂ : Result Reply Refusal} where
  pub first-over : BoundCall N bytes₁ marks₁ r₁ bytes₁' marks₁' → FirstCall N plan₂ marks₂ r₂ plan₂' marks₂' → PlanOver N bytes₁' plan₂' r₁ r₂
  first-over c d = over N plan₂' c (λ z. (replied-plan N (length plan₂) (length marks₂) (sym (first_read N d) ∙ ap (λ (r : Result Reply Refusal). read_reply N r plan₂' marks₂') z)).1)

  module _ (s : List ℕ) where
    pub next-over : BoundCall N bytes₁ marks₁ r₁ bytes₁' marks₁' → NextCall N s plan₂ marks₂ r₂ plan₂' marks₂' → PlanOver N bytes₁' plan₂' r₁ r₂
    next-over c d = over N plan₂' c (λ z. next-is-plan N s (plan-replied N s (length plan₂) (length marks₂) (sym (next-read N s d) ∙ ap (λ (r : Result Reply Refusal). read_reply N r plan₂' marks₂') z)))

    pub next-of-bound : BoundCall N bytes₁ marks₁ r₁ bytes₁' marks₁' → NextCall N s plan₂ marks₂ r₂ plan₂' marks₂' → NextOfBound N s bytes₁ marks₁ plan₂ marks₂ bytes₁' marks₁' plan₂' marks₂' r₁ r₂
    next-of-bound c d = record { first-call = c; second_call = d; hung = next-over c d }

-- ---- a reach made a flap

-- first answers a plan exactly if the definition does
answered :
    (M : Network) → Accepted M → {planBuffer marksBuffer plan' marks' : List ℕ} {r : Result Reply Refusal} → FirstCall M planBuffer marksBuffer r plan' marks' → gate_count M ≤ length planBuffer → mark_bytes ≤ length marksBuffer
    → (r ≡ given Plan) ↔ ((q : List ℕ) × (first_answer M ≡ plan q))
answered M ok {planBuffer} {marksBuffer} {r = r} d l m = (λ y. plan-given (first_answer M) (ap gives_plan (sym said ∙ y)), λ q. said ∙ ap answer_of q.1)
  where
    clear : first_of (table_fault M) (room_fault M (length planBuffer) (length marksBuffer)) ≡ none
    clear = rw (ok, long-enough M (length planBuffer) (length marksBuffer) l m)

    said : r ≡ answer_of (first_answer M)
    said = d.reply ∙ ap answer_of (first_by M (length planBuffer) (length marksBuffer) clear)

module _ (N M : Network) {bytes₁ marks₁ plan₂ marks₂ bytes₁' marks₁' plan₂' marks₂' : List ℕ} {r₁ r₂ : Result Reply Refusal} where
  pub flap-over : BoundCall N bytes₁ marks₁ r₁ bytes₁' marks₁' → FirstCall M plan₂ marks₂ r₂ plan₂' marks₂' → FlapOver N M bytes₁' plan₂ marks₂ r₁ r₂
  flap-over c d k turned y f = (
    λ z e. law.0 (((gives.0 z).0, sym (ap first_answer f.flap) ∙ (gives.0 z).1)) (sym (t.byte k f.gate) ∙ e),
    λ n. let q = law.1 (λ e. n (t.byte k f.gate ∙ e)) in gives.1 (q.0, ap first_answer f.flap ∙ q.1),
  )
    where
      t : Told N bytes₁'
      t = told N c y

      below : get_or (gates N) k 0 < length N.reaches
      below = let g = gate-at 0 N.reaches t.setting k f.gate in omega (arith, g.numbered, g.below)

      gives : (r₂ ≡ given Plan) ↔ ((q : List ℕ) × (first_answer M ≡ plan q))
      gives = answered M (subst⁻¹ (λ (L : Network). Accepted L) f.flap (flap-accepted N t.accepted (get_or (gates N) k 0) below turned)) d f.plan-room f.marks-room

      law : ((q : List ℕ) × (first_answer (flap_at N (get_or (gates N) k 0) turned) ≡ plan q)) ↔ (bound_byte N k ≡ cond turned 0 1 → ⊥)
      law = bound-flap N t.accepted t.setting t.is-plan k f.gate turned

  pub flap-of-bound : BoundCall N bytes₁ marks₁ r₁ bytes₁' marks₁' → FirstCall M plan₂ marks₂ r₂ plan₂' marks₂' → FlapOfBound N M bytes₁ marks₁ plan₂ marks₂ bytes₁' marks₁' plan₂' marks₂' r₁ r₂
  flap-of-bound c d = record { first-call = c; second_call = d; flaps = flap-over c d; hung = λ e. first-over N c (subst (λ (L : Network). FirstCall L plan₂ marks₂ r₂ plan₂' marks₂') e d) }
