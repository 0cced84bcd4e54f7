-- What the check of a setting and the longest of its fewest counts say together, from what the two calls promise of any network: so on rows and on records.
-- Assumes nothing.
use Rattle.std.specs.Prelude.{Result, Ok}
use Prim.Native.Nat.{ℕ}
use mathlib.Core.Path.{◌≡◌, refl, sym, subst}
use mathlib.Core.Bool.{Bool, true, false, cond, ◌&&◌}
use mathlib.Core.Option.{Option, none, some}
use mathlib.Core.List.{List}
use Rattle.network.specs.declared.Refusal.{Refusal}
use Rattle.network.specs.declared.Refusal.TheVariants.{BadSetting}
use Rattle.network.specs.Networks.{Network, table_fault}
use Rattle.network.specs.Settings.{is_setting, setting_fault}
use Rattle.network.specs.Plans.{strongly_connected_under, is_plan}
use Rattle.network.specs.Replies.{first_of, check_fault}
use Rattle.distances.specs.Diameters.{diameter}
use Rattle.distances.specs.Answers.{longest_unless, diameter_of, DiameterCall}
use Rattle.distances.proofs.Diameters.{diameter-shown}
use Rattle.replies.specs.Answers.{unless_refused, check_of, CheckCall}
use Rattle.diameter_laws.specs.Diameters.{DiameterTold, of-plan, of-no-plan, refused-alike, LongestOfChecked}

-- over the definitions
diameter-told : (N : Network) (s : List ℕ) → DiameterTold N s (check_of N s) (diameter_of N s)
unfolding check_of check_fault setting_fault is_plan diameter_of
diameter-told N s = go (table_fault N) refl (is_setting N s) refl (strongly_connected_under N s) refl
  where
    go : (o : Option Refusal) → table_fault N ≡ o → (fits : Bool) → is_setting N s ≡ fits → (all : Bool) → strongly_connected_under N s ≡ all
        → DiameterTold N s (unless_refused (first_of o (cond fits none (some BadSetting))) (Ok (fits && all))) (longest_unless (first_of o (cond (fits && all) none (some BadSetting))) (diameter N s))
    go (some r) e fits f all h = refused-alike
    go none e false f all h = refused-alike
    go none e true f false h = of-no-plan (rw (f, h))
    go none e true f true h = let p : is_plan N s ≡ true = rw (f, h) in of-plan p (diameter-shown N s e p)

-- over the two calls
pub diameter-over : (N : Network) (s : List ℕ) {c : Result Bool Refusal} {r : Result ℕ Refusal} → CheckCall N s c → DiameterCall N s r → LongestOfChecked N s c r
diameter-over N s {c} {r} x y =
    record {
      checked = x;
      called = y;
      told = subst (λ (a : Result Bool Refusal). DiameterTold N s a r) (sym x.answer) (subst (λ (a : Result ℕ Refusal). DiameterTold N s (check_of N s) a) (sym y.answer) (diameter-told N s));
    }
