-- What the step to a later plan requires, and what it finds.
-- Assumes nothing.
use Rattle.std.specs.Prelude.{ℕ, ◌≤◌, ◌<◌, ◌≡◌, true, List, length, get_or, set, Option, None, Some}
use Rattle.network.specs.Networks.{Network}
use Rattle.network.specs.Settings.{is_gated, is_setting}
use Rattle.network.specs.Orientations.{ways}
use Rattle.network.specs.Plans.{is_plan}
use Rattle.network.specs.Bridges.{reach_at}
use Rattle.tables.specs.Rows.{net_of, ways_row}
use Rattle.orientations.specs.Least.{NoneFrom}
use Rattle.orientations.specs.Partials.{Under, Binds, up_to, StronglyConnectedBelow, NoPart}
use Rattle.series.specs.Guides.{Guides}
use Rattle.completing.specs.Greedy.{Completed}
use Rattle.seeking.specs.declared.Found.{Found}
use Rattle.seeking.specs.Levels.{Level}
use Rattle.seeking.specs.Found.{NextFound}

-- The network has a plan.
pub record SomePlan (N : Network) : Type 0 where
  pub plan : List ℕ
  pub is-plan : is_plan N plan ≡ true

-- The ways us are those under a setting of an accepted table.
pub record Seeking (n : ℕ) (ks xs ys us : List ℕ) : Type 0 where
  pub level : Level n ks xs ys
  pub under : Under (net_of n ks xs ys) us

-- What fs does not try has in every plan the way that it has in us. The ways ws are us up to reach `to`, and up to each reach below it everything reaches
-- everything.
pub record Partable (n : ℕ) (ks fs xs ys us ws : List ℕ) (to : ℕ) : Type 0 where
  pub seeking : Seeking n ks xs ys us
  pub binds : Binds (net_of n ks xs ys) fs us
  pub some-plan : SomePlan (net_of n ks xs ys)
  pub bound : to ≤ length xs
  pub begun : ws ≡ up_to fs us to
  pub connected-below : StronglyConnectedBelow (net_of n ks xs ys) fs us to

-- One step: the last gate r below `to` at which a plan can part from us upwards is turned and the gates after it decided; or none can.
pub data StepTaken (N : Network) (fs us : List ℕ) (to : ℕ) : List ℕ → Option ℕ → Type 0 where
  stepped-at : {ws : List ℕ} {r : ℕ} → r < to → is_gated (reach_at N r).state ≡ true → get_or us r 3 ≡ 0 → ((j : ℕ) → r < j → j < to → NoPart N fs us j)
      → Completed N (set (up_to fs us r) r 1) ws → StepTaken N fs us to ws (Some r)
  no_step : {ws : List ℕ} → ((j : ℕ) → j < to → NoPart N fs us j) → StepTaken N fs us to ws None

-- So it is in the table of all kinds ks of which fs tries gates and the row of guides is true.
pub record StepFrom (n : ℕ) (guide fs xs ys us ws : List ℕ) (to : ℕ) (ws' : List ℕ) (r : Option ℕ) : Type 0 where
  pub from : (ks : List ℕ) → Partable n ks fs xs ys us ws to → Guides (net_of n ks xs ys) guide → StepTaken (net_of n ks xs ys) fs us to ws' r

-- The ways us are those under the plan s.
pub record AtPlan (n : ℕ) (ks xs ys s us : List ℕ) : Type 0 where
  pub level : Level n ks xs ys
  pub is-plan : is_plan (net_of n ks xs ys) s ≡ true
  pub oriented : us ≡ ways_row ks s

-- What is found after the setting with the ways us, where no later plan is alike below `to`.
pub record NextFrom (N : Network) (us : List ℕ) (to : ℕ) (ws seen : List ℕ) (r : Option Found) : Type 0 where
  pub found : (s : List ℕ) → is_setting N s ≡ true → us ≡ ways N.reaches s → NoneFrom N s to → NextFound N s ws seen r
