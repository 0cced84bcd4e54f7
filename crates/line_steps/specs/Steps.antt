-- The state after a step from the plan in hand.
-- Assumes nothing.
use Rattle.std.specs.Prelude.{ℕ, ◌<◌, ◌≡◌, List, ◌++◌, length, take, drop, Option, None, Some}
use Rattle.tables.specs.Rows.{bytes_row}
use Rattle.stepping.specs.Advances.{gates_before}
use Rattle.lines.specs.declared.Due.TheVariants as D
use Rattle.lines.specs.Dues.{plan_due}
use Rattle.listing_state.specs.declared.Lister.{Lister}

-- Where a plan is later, the ways ws are the next plan's: its bytes, and its line if so many plans may still be printed, else `more`. Else `end`.
abbrev pub after_step : List ℕ → List ℕ → Option ℕ → Lister → ℕ → ℕ → Lister
after_step ks ws (Some r) l left g = record { basins = l.basins; due = plan_due left; at = 0; setting = bytes_row ks ws ++ drop g l.setting }
after_step ks ws None l left g = record { basins = l.basins; due = D.End; at = 0; setting = l.setting }

-- r is a reach, and the bytes of the gates before it stand already.
pub record FrontStands (ks ws bytes : List ℕ) (r : ℕ) : Type 0 where
  pub below : r < length ks
  pub stands : take (gates_before ks r) bytes ≡ take (gates_before ks r) (bytes_row ks ws)
