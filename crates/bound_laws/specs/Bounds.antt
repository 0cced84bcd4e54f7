-- Document 02, item 2, said of what callers get: what the bytes of bound gates say of the plans that first and next give.
-- Assumes nothing.
use Rattle.replies.specs.declared.Reply.{Reply}
use Rattle.network.specs.declared.Refusal.{Refusal}
use Rattle.std.specs.Prelude.{ℕ, ◌≤◌, ◌<◌, ◌≡◌, Bool, cond, ◌↔◌, List, length, get_or, Result}
use Rattle.network.specs.Networks.{Network}
use Rattle.network.specs.Settings.{gates, gate_count}
use Rattle.network.specs.Marks.{mark_bytes}
use Rattle.network.specs.Choices.{flap_at}
use Rattle.replies.specs.declared.Verdict.TheVariants.{Plan}
use Rattle.replies.specs.Answers.{given, FirstCall, NextCall}
use Rattle.bound_gates.specs.Calls.{BoundCall}

-- The network M is N with its k-th gated reach "made a flap as drawn" or "made a flap turned", and buffers are lent for M that are long enough, whatever they hold.
pub record MadeFlap (N M : Network) (k : ℕ) (turned : Bool) (planBuffer marksBuffer : List ℕ) : Type 0 where
  pub gate : k < gate_count N
  pub flap : M ≡ flap_at N (get_or (gates N) k 0) turned
  pub plan-room : gate_count M ≤ length planBuffer
  pub marks-room : mark_bytes ≤ length marksBuffer

-- "In any other" network, one with a plan, of which r₁ told the bytes: "a reach made a flap as drawn leaves a plan exactly if its byte isn't 1, made a flap turned
-- exactly if it isn't 0". That it leaves a plan is what first then answers, r₂.
abbrev pub FlapOver : Network → Network → List ℕ → List ℕ → List ℕ → Result Reply Refusal → Result Reply Refusal → Type 0
FlapOver N M bytes' plan₂ marks₂ r₁ r₂ =
    (k : ℕ) (turned : Bool) → r₁ ≡ given Plan → MadeFlap N M k turned plan₂ marks₂ → (r₂ ≡ given Plan) ↔ (get_or bytes' k 2 ≡ cond turned 0 1 → ⊥)

-- "0 always as drawn, 1 always turned": where r₁ told the bytes and r₂ gave a plan, a byte 0 or 1 of a gate is the plan's.
abbrev pub PlanOver : Network → List ℕ → List ℕ → Result Reply Refusal → Result Reply Refusal → Type 0
PlanOver N bytes' plan' r₁ r₂ = (k : ℕ) → k < gate_count N → r₁ ≡ given Plan → r₂ ≡ given Plan → get_or bytes' k 2 ≤ 1 → get_or plan' k 2 ≡ get_or bytes' k 2

-- What telling the bound gates of N and asking for the first plan of M promises: of either what the call promises of any input, the law on flaps and, where M is N
-- itself, that its first plan hangs the bound gates so.
pub record FlapOfBound (N M : Network) (bytes₁ marks₁ plan₂ marks₂ bytes₁' marks₁' plan₂' marks₂' : List ℕ) (r₁ r₂ : Result Reply Refusal) : Type 0 where
  pub first-call : BoundCall N bytes₁ marks₁ r₁ bytes₁' marks₁'
  pub second_call : FirstCall M plan₂ marks₂ r₂ plan₂' marks₂'
  pub flaps : FlapOver N M bytes₁' plan₂ marks₂ r₁ r₂
  pub hung : M ≡ N → PlanOver N bytes₁' plan₂' r₁ r₂

-- The same of the next plan of a setting s of N: it hangs the bound gates so.
pub record NextOfBound (N : Network) (s bytes₁ marks₁ plan₂ marks₂ bytes₁' marks₁' plan₂' marks₂' : List ℕ) (r₁ r₂ : Result Reply Refusal) : Type 0 where
  pub first-call : BoundCall N bytes₁ marks₁ r₁ bytes₁' marks₁'
  pub second_call : NextCall N s plan₂ marks₂ r₂ plan₂' marks₂'
  pub hung : PlanOver N bytes₁' plan₂' r₁ r₂
