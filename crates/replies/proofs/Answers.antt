-- An answer that says a reply has the reply's number and values; what the check's yes means.
-- Assumes nothing.
use Rattle.replies.specs.declared.Reply.{Reply}
use Rattle.std.specs.Prelude.{Ok, Result}
use Prim.Native.Nat.{ℕ}
use mathlib.Core.Path.{◌≡◌, refl, ap, ◌∙◌}
use mathlib.Core.Bool.{Bool, true, false, cond, ◌&&◌, true≢false}
use mathlib.Core.Option.{Option, none, some}
use mathlib.Core.List.{List}
use Rattle.network.specs.declared.Refusal.{Refusal}
use Rattle.network.specs.declared.Refusal.TheVariants.{BadSetting}
use Rattle.network.specs.Networks.{Network, table_fault, Accepted}
use Rattle.network.specs.Settings.{is_setting, setting_fault}
use Rattle.network.specs.Plans.{strongly_connected_under, is_plan}
use Rattle.network.specs.Replies.{fault_number, Outcome, plan, shut_in, lone, refused, number, reach_in, count_in, first_of, check_fault, plan_after, marks_after}
use Rattle.network.proofs.Order.{plan-setting}
use Rattle.replies.specs.Answers.{answer_of, answer_number, answer_reach, answer_count, Replied, unless_refused, check_of, check_number, CheckCall}

number-said : (o : Outcome) → answer_number (answer_of o) ≡ number o
number-said (plan s) = refl
number-said (shut_in m c) = refl
number-said (lone i m c) = refl
number-said (refused r) = refl

reach-said : (o : Outcome) → answer_reach (answer_of o) ≡ reach_in o
reach-said (plan s) = refl
reach-said (shut_in m c) = refl
reach-said (lone i m c) = refl
reach-said (refused r) = refl

count-said : (o : Outcome) → answer_count (answer_of o) ≡ count_in o
count-said (plan s) = refl
count-said (shut_in m c) = refl
count-said (lone i m c) = refl
count-said (refused r) = refl

pub replied : {o : Outcome} {plan marks plan' marks' : List ℕ} {r : Result Reply Refusal} → r ≡ answer_of o → plan' ≡ plan_after o plan → marks' ≡ marks_after o marks → Replied o plan marks plan' marks' r
replied {o} e p m = record { reply = e; number = ap answer_number e ∙ number-said o; reach = ap answer_reach e ∙ reach-said o; count = ap answer_count e ∙ count-said o; plan-left = p; marks-left = m }

number-checked : (f : Option Refusal) (b : Bool) → check_number (unless_refused f (Ok b)) ≡ fault_number f
number-checked none b = refl
number-checked (some r) b = refl

pub check-called : {N : Network} {s : List ℕ} {r : Result Bool Refusal} → r ≡ check_of N s → CheckCall N s r
unfolding check_of
check-called {N} {s} e = record { answer = e; number = ap check_number e ∙ number-checked (check_fault N s) (is_plan N s) }

-- the check says yes: the table is accepted, and the setting is a plan
yes_both : (N : Network) (s : List ℕ) (o : Option Refusal) (b c : Bool) → table_fault N ≡ o → unless_refused (first_of o (cond b none (some BadSetting))) (Ok (b && c)) ≡ (Ok true) → Accepted N × (b && c ≡ true)
yes_both N s none true c t e = (t, cc)
yes_both N s none false c t e = absurd (true≢false cc)
yes_both N s (some r) b c t e = absurd (true≢false cc)

pub yes-plan : (N : Network) (s : List ℕ) → check_of N s ≡ (Ok true) → Accepted N × (is_plan N s ≡ true)
unfolding check_of check_fault setting_fault is_plan
yes-plan N s e = yes_both N s (table_fault N) (is_setting N s) (strongly_connected_under N s) refl e

-- and the other way
pub check-yes : (N : Network) (s : List ℕ) → Accepted N → is_plan N s ≡ true → check_of N s ≡ (Ok true)
unfolding check_of check_fault setting_fault
check-yes N s ok p = rw (ok, plan-setting N s p, p)
