-- The state after a step, in its two cases.
-- Assumes nothing.
use Prim.Native.Nat.{ℕ}
use mathlib.Core.Path.{◌≡◌}
use mathlib.Core.List.{List, ◌++◌}
use lib.ListN.{drop}
use Rattle.std.specs.Prelude.{Some}
use Rattle.tables.specs.Rows.{bytes_row}
use Rattle.lines.specs.declared.Due.{Due}
use Rattle.lines.specs.Dues.{plan_due}
use Rattle.listing_state.specs.declared.Lister.{Lister}
use Rattle.line_steps.specs.Steps.{after_step}

module _ (ks ws : List ℕ) (r : ℕ) (l : Lister) (left g : ℕ) where
  pub after_next : {d : Due} {bytes : List ℕ} → d ≡ plan_due left → bytes ≡ bytes_row ks ws ++ drop g l.setting → record { basins = l.basins; due = d; at = 0; setting = bytes } ≡ after_step ks ws (Some r) l left g
  after_next d e = rw (d, e)
