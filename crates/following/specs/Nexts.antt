-- What the search for the next plan of a setting requires, and what it finds.
-- Assumes nothing.
use Rattle.std.specs.Prelude.{ℕ, ◌≡◌, true, List, length, Option}
use Rattle.network.specs.Networks.{Network}
use Rattle.network.specs.Settings.{is_setting}
use Rattle.network.specs.Orientations.{ways}
use Rattle.tables.specs.Rows.{net_of, ways_row}
use Rattle.orientations.specs.Partials.{NotStronglyConnected}
use Rattle.seeking.specs.declared.Found.{Found}
use Rattle.seeking.specs.Levels.{Level}
use Rattle.seeking.specs.Found.{NextFound}
use Rattle.seeking.specs.Seeks.{SomePlan, Seeking}

-- The ways us are those under the setting s, and there is room for others.
pub record AtSetting (n : ℕ) (ks xs ys s us ws : List ℕ) : Type 0 where
  pub level : Level n ks xs ys
  pub fits : is_setting (net_of n ks xs ys) s ≡ true
  pub oriented : us ≡ ways_row ks s
  pub ways-room : length ws ≡ length ks

-- Room for ways, and not everything reaches everything with the ways us.
pub record OtherThanPlan (n : ℕ) (ks xs ys us ws : List ℕ) : Type 0 where
  pub seeking : Seeking n ks xs ys us
  pub ways-room : length ws ≡ length ks
  pub lost : NotStronglyConnected (net_of n ks xs ys) us

-- And there is a plan.
pub record Followable (n : ℕ) (ks xs ys us ws : List ℕ) : Type 0 where
  pub other : OtherThanPlan n ks xs ys us ws
  pub some-plan : SomePlan (net_of n ks xs ys)

-- What is found after the setting with the ways us.
pub record NextAfter (N : Network) (us ws seen : List ℕ) (r : Option Found) : Type 0 where
  pub found : (s : List ℕ) → is_setting N s ≡ true → us ≡ ways N.reaches s → NextFound N s ws seen r
