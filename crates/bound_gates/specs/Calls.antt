-- What the call that tells bound gates replies and leaves in the lent buffers.
-- Assumes nothing.
use Rattle.replies.specs.declared.Reply.{Reply}
use Rattle.network.specs.declared.Refusal.{Refusal}
use Rattle.std.specs.Prelude.{ℕ, ◌≡◌, Bool, true, false, List, length, Err, Ok, Result}
use Rattle.network.specs.Networks.{Network}
use Rattle.network.specs.Replies.{Outcome, number, reach_in, count_in, marks_after, first_reply}
use Rattle.network.specs.Choices.{bound_after}
use Rattle.replies.specs.declared.Verdict.{Verdict}
use Rattle.replies.specs.declared.Verdict.TheVariants.{Plan, ShutIn, Lone}
use Rattle.replies.specs.Answers.{answer_of, answer_number, answer_reach, answer_count}

-- Whether an answer is a plan.
abbrev pub verdict_plan : Verdict → Bool
verdict_plan Plan = true
verdict_plan (ShutIn f) = false
verdict_plan (Lone f) = false

abbrev pub gives_plan : Result Reply Refusal → Bool
gives_plan (Err r) = false
gives_plan (Ok y) = verdict_plan y.verdict

-- Where first replies o: the same answer, with its number and values, and the same marks; the bytes of the gates stand in the first of their buffer if there is
-- a plan, and all else is untouched.
pub record BoundTold (N : Network) (o : Outcome) (bytes marks bytes' marks' : List ℕ) (r : Result Reply Refusal) : Type 0 where
  pub reply : r ≡ answer_of o
  pub number : answer_number r ≡ number o
  pub reach : answer_reach r ≡ reach_in o
  pub count : answer_count r ≡ count_in o
  pub bytes_left : bytes' ≡ bound_after N o bytes
  pub marks-left : marks' ≡ marks_after o marks

-- Document 02, item 2: "One call fills a byte for each gated reach". It is lent a buffer for these and one for marks, and refuses 1, 2, 3, 7, 9, 10 as first does.
abbrev pub BoundCall : Network → List ℕ → List ℕ → Result Reply Refusal → List ℕ → List ℕ → Type 0
BoundCall N bytes marks r bytes' marks' = BoundTold N (first_reply N (length bytes) (length marks)) bytes marks bytes' marks' r
