-- "A walker over plans carries its setting with it, and each step hands back the walker after it."
-- Assumes nothing.
use Rattle.replies.specs.declared.Reply.{Reply}
use Rattle.std.specs.Prelude.{ℕ, ◌-◌, ◌≡◌, cond, List, [], ◌++◌, length, take, drop, replicate, leb, Err, Ok, Result}
use Rattle.std.proofs.Math.Option.{Option, none, some}
use Rattle.network.specs.declared.Refusal.{Refusal}
use Rattle.network.specs.Networks.{Network, max_reaches}
use Rattle.network.specs.Settings.{gate_count}
use Rattle.network.specs.Replies.{refusal_number, fault_number, Outcome, check_fault, plan_after, next_reply}
use Rattle.replies.specs.declared.Verdict.{Verdict}
use Rattle.replies.specs.declared.Verdict.TheVariants.{Plan, ShutIn, Lone}
use Rattle.replies.specs.Answers.{Replied}
use Rattle.walker.specs.declared.Made.{Made}
use Rattle.walker.specs.declared.Stepped.{Stepped}

-- "It holds bytes up to the reach limit": a setting "with bytes past the setting 0".
unfoldable pub walker_of : List ℕ → List ℕ
walker_of s = s ++ replicate (max_reaches - length s) 0

-- Its setting, by the table's number of gated reaches; the bytes past them "neither count nor change".
abbrev pub setting_in : Network → List ℕ → List ℕ
setting_in N w = take (gate_count N) w

-- "It is made from a table and a setting, with bytes past the setting 0; where the check of that setting would refuse, so does the making, and hands
-- back a walker of zeros."
abbrev pub make_of : Option Refusal → Result (Unit {0}) Refusal
make_of (some r) = Err r
make_of none = (Ok tt)

abbrev pub walker_made : Option Refusal → List ℕ → List ℕ
walker_made (some r) s = walker_of []
walker_made none s = walker_of s

-- Document 01's number of the making's answer, 0 where a walker is made.
abbrev pub make_number : Result (Unit {0}) Refusal → ℕ
make_number (Err r) = refusal_number r
make_number (Ok tt) = 0

-- What the making answers, its number, and the walker that it hands back.
pub record Making (N : Network) (s : List ℕ) (r : Made) : Type 0 where
  pub answered : r.answer ≡ make_of (check_fault N s)
  pub number : make_number r.answer ≡ fault_number (check_fault N s)
  pub held : r.walker.setting ≡ walker_made (check_fault N s) s

-- "A step is the next plan from the walker's setting, with the same buffers and refusals"; "a given plan becomes the setting of the walker after it";
-- "after a refusal that is the same walker".
unfoldable pub step_reply : Network → List ℕ → ℕ → ℕ → Outcome
step_reply N w plan_length marks_length = next_reply N (setting_in N w) plan_length marks_length

pub record Stepping (N : Network) (w plan marks plan' marks' : List ℕ) (r : Stepped) : Type 0 where
  pub replied : Replied (step_reply N w (length plan) (length marks)) plan marks plan' marks' r.answer
  pub walked : r.walker.setting ≡ plan_after (step_reply N w (length plan) (length marks)) w

-- ---- the parts of a making and of a step

-- The walker's bytes after an answer: where it gives a plan, the first g bytes of the plan buffer for its own.
abbrev pub moved_by : Verdict → ℕ → List ℕ → List ℕ → List ℕ
moved_by Plan g plan w = cond (leb g (length plan)) (take g plan ++ drop g w) w
moved_by (ShutIn f) g plan w = w
moved_by (Lone f) g plan w = w

abbrev pub advanced_by : Result Reply Refusal → ℕ → List ℕ → List ℕ → List ℕ
advanced_by (Err r) g plan w = w
advanced_by (Ok y) g plan w = moved_by y.verdict g plan w
