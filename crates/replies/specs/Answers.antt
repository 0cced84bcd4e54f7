-- The planner's answers: the code's results as document 01's replies, with its numbers and values.
-- Assumes nothing.
use Rattle.replies.specs.declared.Reply.{Reply}
use Rattle.std.specs.Prelude.{ℕ, ◌≡◌, Bool, false, List, length, Err, Ok, Result}
use Rattle.std.proofs.Math.Option.{Option, none, some}
use Rattle.network.specs.declared.Refusal.{Refusal}
use Rattle.network.specs.Networks.{Network}
use Rattle.network.specs.Plans.{is_plan}
use Rattle.network.specs.Replies.{refusal_number, fault_number, Outcome, plan, shut_in, lone, refused, number, reach_in, count_in, check_fault, plan_after, marks_after, first_reply, next_reply}
use Rattle.replies.specs.declared.Verdict.{Verdict}
use Rattle.replies.specs.declared.Verdict.TheVariants.{Plan, ShutIn, Lone}

-- The verdict of a reply that is no refusal by number only; the plan and the marks stand in the lent buffers.
abbrev pub given : Verdict → Result Reply Refusal
given v = Ok (record { verdict = v })

-- The answer that says a reply. A shut-in finding has no reach, and 0 stands in its place.
abbrev pub answer_of : Outcome → Result Reply Refusal
answer_of (plan s) = given Plan
answer_of (shut_in m c) = given (ShutIn (record { reach = 0; count = c }))
answer_of (lone i m c) = given (Lone (record { reach = i; count = c }))
answer_of (refused r) = Err r

-- Document 01's number of an answer, 0 for a plan; its reach and its count, 0 where it has none.
abbrev pub verdict_number : Verdict → ℕ
verdict_number Plan = 0
verdict_number (ShutIn f) = 9
verdict_number (Lone f) = 10

abbrev pub answer_number : Result Reply Refusal → ℕ
answer_number (Err r) = refusal_number r
answer_number (Ok y) = verdict_number y.verdict

abbrev pub verdict_reach : Verdict → ℕ
verdict_reach Plan = 0
verdict_reach (ShutIn f) = 0
verdict_reach (Lone f) = f.reach

abbrev pub answer_reach : Result Reply Refusal → ℕ
answer_reach (Err r) = 0
answer_reach (Ok y) = verdict_reach y.verdict

abbrev pub verdict_count : Verdict → ℕ
verdict_count Plan = 0
verdict_count (ShutIn f) = f.count
verdict_count (Lone f) = f.count

abbrev pub answer_count : Result Reply Refusal → ℕ
answer_count (Err r) = 0
answer_count (Ok y) = verdict_count y.verdict

-- The reply o was given: the answer says it, with its number and values; its plan and its marks stand in the first bytes of the lent buffers, and all else is
-- untouched.
pub record Replied (o : Outcome) (plan marks plan' marks' : List ℕ) (r : Result Reply Refusal) : Type 0 where
  pub reply : r ≡ answer_of o
  pub number : answer_number r ≡ number o
  pub reach : answer_reach r ≡ reach_in o
  pub count : answer_count r ≡ count_in o
  pub plan-left : plan' ≡ plan_after o plan
  pub marks-left : marks' ≡ marks_after o marks

-- The check of a setting "answers yes or no after 1, 2, 3, 8".
abbrev pub unless_refused : Option Refusal → Result Bool Refusal → Result Bool Refusal
unless_refused (some r) a = Err r
unless_refused none a = a

unfoldable pub check_of : Network → List ℕ → Result Bool Refusal
check_of N s = unless_refused (check_fault N s) (Ok (is_plan N s))

-- Document 01's number of the check's answer, 0 for yes and no; and whether it is yes.
abbrev pub check_number : Result Bool Refusal → ℕ
check_number (Err r) = refusal_number r
check_number (Ok b) = 0

abbrev pub says_yes : Result Bool Refusal → Bool
says_yes (Err r) = false
says_yes (Ok b) = b

-- What the calls leave: the answer to a setting's check, and its number; the answer of first and of next plan with the lent buffers, the plan's p and the
-- marks' m, before and after.
pub record CheckCall (N : Network) (s : List ℕ) (r : Result Bool Refusal) : Type 0 where
  pub answer : r ≡ check_of N s
  pub number : check_number r ≡ fault_number (check_fault N s)

abbrev pub FirstCall : Network → List ℕ → List ℕ → Result Reply Refusal → List ℕ → List ℕ → Type 0
FirstCall N p m r p' m' = Replied (first_reply N (length p) (length m)) p m p' m' r

abbrev pub NextCall : Network → List ℕ → List ℕ → List ℕ → Result Reply Refusal → List ℕ → List ℕ → Type 0
NextCall N s p m r p' m' = Replied (next_reply N s (length p) (length m)) p m p' m' r
