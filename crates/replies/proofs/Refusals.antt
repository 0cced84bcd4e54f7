-- The replies to bad input, and to good input with room enough.
-- Assumes nothing.
use Rattle.std.specs.Prelude.{Ok, Err}
use Prim.Native.Nat.{ℕ}
use mathlib.Core.Path.{◌≡◌, refl, ap, subst⁻¹, ◌∙◌}
use mathlib.Core.Bool.{Bool, true}
use mathlib.Core.Option.{Option, none, some}
use mathlib.Core.List.{List}
use Rattle.network.specs.declared.Refusal.{Refusal}
use Rattle.network.specs.Networks.{Network, table_fault}
use Rattle.network.specs.Settings.{is_setting, setting_fault}
use Rattle.network.specs.Plans.{strongly_connected_under, is_plan}
use Rattle.network.specs.Replies.{Outcome, refused, first_of, unless, first_answer, next_answer, check_fault, room_fault, first_reply, next_reply}
use Rattle.replies.specs.Answers.{Replied, check_of, CheckCall}
use Rattle.replies.proofs.Answers.{replied, check-called}

-- a refusal by number writes nothing
pub refused-written : {o : Outcome} {r : Refusal} {plan marks : List ℕ} → o ≡ refused r → Replied o plan marks plan marks (Err r)
refused-written {r} {plan} {marks} e = subst⁻¹ (λ (x : Outcome). Replied x plan marks plan marks (Err r)) e (replied refl refl refl)

pub first-faulty : (N : Network) (r : Refusal) (p q : ℕ) → table_fault N ≡ some r → first_reply N p q ≡ refused r
unfolding first_reply
first-faulty N r p q e = rw e

-- one refusal after the other, or the first of both
then-unless : (f g : Option Refusal) (o : Outcome) → unless f (unless g o) ≡ unless (first_of f g) o
then-unless none g o = refl
then-unless (some r) g o = refl

pub first_by : (N : Network) (p q : ℕ) {f : Option Refusal} → first_of (table_fault N) (room_fault N p q) ≡ f → first_reply N p q ≡ unless f (first_answer N)
unfolding first_reply
first_by N p q e = then-unless (table_fault N) (room_fault N p q) (first_answer N) ∙ ap (λ (f : Option Refusal). unless f (first_answer N)) e

pub next-by : (N : Network) (s : List ℕ) (p q : ℕ) {f : Option Refusal} → first_of (check_fault N s) (room_fault N p q) ≡ f → next_reply N s p q ≡ unless f (next_answer N s)
unfolding next_reply check_fault
next-by N s p q e =
    then-unless (table_fault N) (setting_fault N s) (unless (room_fault N p q) (next_answer N s))
    ∙ then-unless (first_of (table_fault N) (setting_fault N s)) (room_fault N p q) (next_answer N s)
    ∙ ap (λ (f : Option Refusal). unless f (next_answer N s)) e

pub check-faulty : (N : Network) (s : List ℕ) (r : Refusal) → table_fault N ≡ some r → CheckCall N s (Err r)
unfolding check_of check_fault
check-faulty N s r e = check-called (rw e)

pub check-refused : (N : Network) (s : List ℕ) (r : Refusal) → check_fault N s ≡ some r → CheckCall N s (Err r)
unfolding check_of
check-refused N s r e = check-called (rw e)

pub check-fitting : (N : Network) (s : List ℕ) (b : Bool) → check_fault N s ≡ none → is_setting N s ≡ true → b ≡ strongly_connected_under N s → CheckCall N s (Ok b)
unfolding check_of is_plan
check-fitting N s b ok e f = check-called (rw (ok, e, f))

pub next-faulty : (N : Network) (s : List ℕ) (r : Refusal) (p q : ℕ) → table_fault N ≡ some r → next_reply N s p q ≡ refused r
unfolding next_reply
next-faulty N s r p q e = rw e
