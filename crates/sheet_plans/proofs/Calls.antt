-- What the planner's check says of a setting, and what the reader and the writer then do.
-- Assumes nothing.
use Rattle.std.specs.Prelude.{Err, Ok, Result}
use Prim.Native.Nat.{ℕ}
use mathlib.Core.Path.{◌≡◌, refl, sym, ap, subst, ◌∙◌}
use mathlib.Core.Bool.{Bool, true, false, cond, ◌&&◌, true≢false}
use mathlib.Core.List.{List}
use mathlib.Core.Option.{Option, none, some}
use lib.ListN.{length}
use Rattle.network.specs.declared.Refusal.{Refusal}
use Rattle.network.specs.declared.Refusal.TheVariants.{BadSetting}
use Rattle.network.specs.Networks.{Network, table_fault, Accepted}
use Rattle.network.specs.Settings.{is_setting, setting_fault}
use Rattle.network.specs.Plans.{strongly_connected_under, is_plan}
use Rattle.network.proofs.Networks.{accepted}
use Rattle.file_records.specs.Puts.{Wrote, room_for, WroteWhole}
use Rattle.network.specs.Replies.{first_of, check_fault, plan_fault}
use Rattle.replies.specs.Answers.{unless_refused, check_of}
use Rattle.replies.proofs.Answers.{yes-plan}
use Rattle.sheet_format.specs.Sheets.{sheet_of}
use Rattle.sheet_format.specs.Readings.{sheet_refused, sheet_says, unless_fault}
use Rattle.sheet_format.specs.Rows.{Fitting}
use Rattle.sheet_format.specs.Answers.{sheet_answer, PlanJudged, sheet_fault, SheetWritten}
use Rattle.sheet_format.proofs.Sheets.{plan-long}
use Rattle.network.proofs.Replies.{first-assoc}
use Rattle.file_records.proofs.Puts.{put_refused}

-- the refusal that the answer of the check stands for
abbrev pub fault_said : Result Bool Refusal → Option Refusal
fault_said (Err r) = some r
fault_said (Ok true) = none
fault_said (Ok false) = some BadSetting

check-cases :
    (o : Option Refusal) (b c : Bool)
    → fault_said (unless_refused (first_of o (cond b none (some BadSetting))) (Ok (b && c))) ≡ first_of o (cond (b && c) none (some BadSetting))
check-cases (some r) b c = refl
check-cases none true true = refl
check-cases none true false = refl
check-cases none false c = refl

-- 1, 2 and 3, and then 8 where the setting is no plan
pub fault-said : (N : Network) (s : List ℕ) → fault_said (check_of N s) ≡ first_of (table_fault N) (plan_fault N s)
unfolding check_of check_fault setting_fault is_plan
fault-said N s = check-cases (table_fault N) (is_setting N s) (strongly_connected_under N s)

module _ (N : Network) (s : List ℕ) (v : Result Bool Refusal) (e : check_of N s ≡ v) where
  pub judged : first_of (table_fault N) (plan_fault N s) ≡ fault_said v
  judged = sym (fault-said N s) ∙ ap fault_said e

  pub judged-sheet : (room : ℕ) → sheet_fault N s room ≡ first_of (fault_said v) (room_for (sheet_of N s) room)
  judged-sheet room = first-assoc (table_fault N) (plan_fault N s) (room_for (sheet_of N s) room) ∙ ap (λ o. first_of o (room_for (sheet_of N s) room)) judged

-- the bytes that a sheet says, by what the check said of them
plan-cases :
    (o : Option Refusal) (b : Bool) (s : List ℕ)
    → unless_fault o (cond b (sheet_says s) (sheet_refused BadSetting)) ≡ unless_fault (first_of o (cond b none (some BadSetting))) (sheet_says s)
plan-cases none true s = refl
plan-cases none false s = refl
plan-cases (some r) b s = refl

pub plan-judged : (N : Network) (s : List ℕ) {v : Result Bool Refusal} → check_of N s ≡ v → PlanJudged N s (sheet_answer (unless_fault (fault_said v) (sheet_says s)))
plan-judged N s {v} e =
    sym (ap sheet_answer (plan-cases (table_fault N) (is_plan N s) s ∙ ap (λ o. unless_fault o (sheet_says s)) (judged N s v e)))

-- no fault: the network is accepted and the setting is a plan
pub record Plan (N : Network) (s : List ℕ) : Type 0 where
  pub accepted-net : Accepted N
  pub is-plan : is_plan N s ≡ true

pub no-fault : (N : Network) (s : List ℕ) (o : Option Refusal) (b : Bool) → table_fault N ≡ o → is_plan N s ≡ b → first_of o (cond b none (some BadSetting)) ≡ none → Plan N s
no-fault N s none true t p e = record { accepted-net = t; is-plan = p }
no-fault N s none false t p e = absurd (true≢false (cc))
no-fault N s (some r) b t p e = absurd (true≢false (cc))

pub yes-fits : (N : Network) (s : List ℕ) → check_of N s ≡ Ok true → Fitting N.reaches s
yes-fits N s e = record { few = (accepted N (yes-plan N s e).0).few-reaches; full = plan-long N s (yes-plan N s e).1 }

-- the writer, by what the check said
module _ (N : Network) (s out : List ℕ) where
  pub wrote-refused : (v : Result Bool Refusal) (r : Refusal) → check_of N s ≡ v → fault_said v ≡ some r → SheetWritten N s out (Err r) out
  wrote-refused v r e f =
      put_refused (sheet_of N s) out r (judged-sheet N s v e (length out) ∙ ap (λ o. first_of o (room_for (sheet_of N s) (length out))) f)

  pub wrote-plan :
      (r : Result ℕ Refusal) (out' : List ℕ) → check_of N s ≡ Ok true → WroteWhole (sheet_of N s) out r out'
      → SheetWritten N s out r out'
  wrote-plan r out' e = subst (λ o. Wrote o (sheet_of N s) out r out') (sym (judged-sheet N s (Ok true) e (length out)))
