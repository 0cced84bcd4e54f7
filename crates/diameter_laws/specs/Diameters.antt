-- What the check of a setting and the longest of its fewest counts say together.
-- Assumes nothing.
use Rattle.std.specs.Prelude.{ℕ, ◌≡◌, true, false, List, Err, Ok, Result, Bool}
use Rattle.network.specs.declared.Refusal.{Refusal}
use Rattle.network.specs.declared.Refusal.TheVariants.{BadSetting}
use Rattle.network.specs.Networks.{Network}
use Rattle.network.specs.Plans.{is_plan}
use Rattle.distances.specs.Diameters.{DiameterShown}
use Rattle.distances.specs.Answers.{DiameterCall}
use Rattle.replies.specs.Answers.{CheckCall}

-- A number is given exactly if the check says yes, and then `DiameterShown` holds of it: "0 if there are fewer than two and, where there is any, always below the number
-- of wet basins"; some pair of wet basins has it, and none has more. "A setting that isn't a plan is refused 8": so it is where the check says no. What the
-- check refuses is refused by the same number.
pub data DiameterTold (N : Network) (s : List ℕ) : Result Bool Refusal → Result ℕ Refusal → Type 0 where
  of-plan : {d : ℕ} → is_plan N s ≡ true → DiameterShown N s d → DiameterTold N s (Ok true) (Ok d)
  of-no-plan : is_plan N s ≡ false → DiameterTold N s (Ok false) (Err BadSetting)
  refused-alike : {r : Refusal} → DiameterTold N s (Err r) (Err r)

-- What the two calls promise, and what they say together.
pub record LongestOfChecked (N : Network) (s : List ℕ) (c : Result Bool Refusal) (r : Result ℕ Refusal) : Type 0 where
  pub checked : CheckCall N s c
  pub called : DiameterCall N s r
  pub told : DiameterTold N s c r
