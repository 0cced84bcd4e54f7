-- Which line an answer calls for.
-- Assumes nothing.
use Rattle.replies.specs.declared.Reply.{Reply}
use Rattle.network.specs.declared.Refusal.{Refusal}
use Rattle.std.specs.Prelude.{ℕ, zero, suc, cond, eqb, Err, Ok, Result}
use Rattle.network.specs.Replies.{refusal_number}
use Rattle.replies.specs.declared.Verdict.{Verdict}
use Rattle.replies.specs.declared.Verdict.TheVariants as Of
use Rattle.lines.specs.declared.Due.{Due}
use Rattle.lines.specs.declared.Due.TheVariants as D

-- The line that an answer calls for, where so many plans may still be printed.
abbrev pub plan_due : ℕ → Due
plan_due zero = D.More
plan_due (suc n) = D.Plan n

abbrev pub verdict_due : Verdict → ℕ → Due
verdict_due Of.Plan left = plan_due left
verdict_due (Of.ShutIn f) left = D.Refused 9
verdict_due (Of.Lone f) left = D.Refused 10

abbrev pub refusal_due : ℕ → Due
refusal_due r = cond (eqb r 11) D.End (D.Refused r)

abbrev pub due_of : Result Reply Refusal → ℕ → Due
due_of (Err r) left = refusal_due (refusal_number r)
due_of (Ok reply) left = verdict_due reply.verdict left
