-- What the call answers: a refusal of the table or of the setting, or by the diameter; and what an answer shows.
-- Assumes nothing.
use Rattle.std.specs.Prelude.{Err, Ok, Result}
use Prim.Native.Nat.{ℕ}
use mathlib.Core.Path.{◌≡◌, refl, sym, ap, ◌∙◌}
use mathlib.Core.Bool.{Bool, true, false, cond, ◌&&◌}
use mathlib.Core.Option.{Option, none, some, some-injective, none-ne-some}
use mathlib.Core.List.{List}
use Rattle.network.specs.declared.Refusal.{Refusal}
use Rattle.network.specs.declared.Refusal.TheVariants.{BadSetting}
use Rattle.network.specs.Networks.{Network, table_fault, Accepted}
use Rattle.network.specs.Settings.{is_setting, setting_fault}
use Rattle.network.specs.Plans.{strongly_connected_under, is_plan}
use Rattle.network.specs.Replies.{first_of, check_fault, fault_number}
use Rattle.distances.specs.Diameters.{diameter}
use Rattle.distances.specs.Answers.{diameter_fault, longest_unless, longest_or8, diameter_of, diameter_number, DiameterCall}
use Rattle.distances.proofs.Diameters.{diameter-exactly}

-- the answer has its number
number-called : (o : Option Refusal) (d : ℕ) → diameter_number (longest_unless o d) ≡ fault_number o
number-called (some r) d = refl
number-called none d = refl

pub diameter-called : (N : Network) (s : List ℕ) {r : Result ℕ Refusal} → r ≡ diameter_of N s → DiameterCall N s r
unfolding diameter_of
diameter-called N s e = record { answer = e; number = ap diameter_number e ∙ number-called (diameter_fault N s) (diameter N s) }

-- a table that is refused, whatever the setting
pub diameter-faulty : (N : Network) (s : List ℕ) (r : Refusal) → table_fault N ≡ some r → DiameterCall N s (Err r)
unfolding diameter_of
diameter-faulty N s r e = diameter-called N s (rw e)

-- so is a table that is refused, or a setting by its length or bytes
pub diameter-refused : (N : Network) (s : List ℕ) {r : Refusal} → check_fault N s ≡ some r → DiameterCall N s (Err r)
unfolding check_fault setting_fault is_plan diameter_of
diameter-refused N s {r} e = diameter-called N s (go (table_fault N) (is_setting N s) e)
  where
    go : (o : Option Refusal) (fits : Bool) → first_of o (cond fits none (some BadSetting)) ≡ some r
        → Err r ≡ longest_unless (first_of o (cond (fits && strongly_connected_under N s) none (some BadSetting))) (diameter N s)
    go (some q) fits e = ap Err (sym (some-injective q r e))
    go none true e = absurd (none-ne-some r e)
    go none false e = ap Err (sym (some-injective BadSetting r e))

-- neither: a number, or 8 if the setting is no plan
pub diameter-given : (N : Network) (s : List ℕ) {d : ℕ} {r : Result ℕ Refusal} → Accepted N → is_setting N s ≡ true → d ≡ diameter N s → r ≡ longest_or8 d → DiameterCall N s r
unfolding is_plan diameter_of
diameter-given N s ok fits e is = diameter-called N s (is ∙ ap longest_or8 e ∙ ap (λ (b : Bool). cond b (Ok (diameter N s)) (Err BadSetting)) (diameter-exactly N s ok) ∙ rw (ok, fits) (go (strongly_connected_under N s)))
  where
    go : (b : Bool) → cond b (Ok (diameter N s)) (Err BadSetting) ≡ longest_unless (cond b none (some BadSetting)) (diameter N s)
    go true = refl
    go false = refl
