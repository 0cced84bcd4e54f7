-- Partial orientations: the gates below a reach are decided, those from it on usable either way.
-- Assumes nothing.
use Rattle.std.specs.Prelude.{ℕ, ◌≤◌, ◌<◌, ◌≡◌, true, false, cond, List, [], ◌∷◌, ◌++◌, length, get_or, set, take, drop}
use Rattle.network.specs.Networks.{Network, basins_of}
use Rattle.network.specs.Tables.{state_of}
use Rattle.network.specs.Settings.{is_gated, is_setting}
use Rattle.network.specs.Orientations.{ways, arcs}
use Rattle.network.specs.Plans.{strongly_connected, is_plan}
use Rattle.network.specs.Bridges.{reach_at, is_bridge}
use Rattle.orientations.specs.Least.{Decided, is_tried, Open, Shaped}

-- Everything reaches everything if the reaches have the ways ws.
abbrev pub StronglyConnected : Network → List ℕ → Type 0
StronglyConnected N ws = strongly_connected (basins_of N) (arcs N.reaches ws) ≡ true

abbrev pub NotStronglyConnected : Network → List ℕ → Type 0
NotStronglyConnected N ws = strongly_connected (basins_of N) (arcs N.reaches ws) ≡ false

-- The row fs tries none but gates of the network.
pub record Tries (N : Network) (fs : List ℕ) : Type 0 where
  pub row-full : length fs ≡ length N.reaches
  pub only-gates : (j : ℕ) → j < length N.reaches → is_tried fs j ≡ true → is_gated (reach_at N j).state ≡ true

-- The gates below i are decided, and those that are not tried; the others are not, and everything reaches everything.
pub record Begun (N : Network) (fs ws : List ℕ) (i : ℕ) : Type 0 where
  pub tries : Tries N fs
  pub full : length ws ≡ length N.reaches
  pub shaped : Shaped N.reaches ws
  pub decided : Decided N ws i
  pub held : (j : ℕ) → j < length N.reaches → is_gated (reach_at N j).state ≡ true → is_tried fs j ≡ false → get_or ws j 3 ≤ 1
  pub undecided : Open fs ws i
  pub connected : StronglyConnected N ws

-- No reach is a bridge (document 01: lone).
abbrev pub Bridgeless : Network → Type 0
Bridgeless N = (j : ℕ) → is_bridge N j ≡ false

-- ---- along a setting

-- The ways us are those under a setting.
pub record Under (N : Network) (us : List ℕ) : Type 0 where
  pub setting : List ℕ
  pub fits : is_setting N setting ≡ true
  pub is : us ≡ ways N.reaches setting

-- What is not tried has in every plan the way that us has: it is no gate, or it is bound (document 02, item 2: "hung alike in all plans").
pub record Binds (N : Network) (fs us : List ℕ) : Type 0 where
  pub tries : Tries N fs
  pub bound : (j : ℕ) → j < length N.reaches → is_tried fs j ≡ false → (q : List ℕ) → is_plan N q ≡ true → get_or (ways N.reaches q) j 3 ≡ get_or us j 3

-- The ways us, with the gates that are tried usable either way.
abbrev pub loosened : List ℕ → List ℕ → List ℕ
loosened [] us = []
loosened (f ∷ fs) [] = []
loosened (f ∷ fs) (u ∷ us) = cond (is_gated (state_of f)) 2 u ∷ loosened fs us

-- The ways us up to reach i, with the gates from it on that are tried usable either way.
abbrev pub up_to : List ℕ → List ℕ → ℕ → List ℕ
up_to fs us i = take i us ++ drop i (loosened fs us)

-- Everything reaches everything with the ways us up to each reach below `to`.
abbrev pub StronglyConnectedBelow : Network → List ℕ → List ℕ → ℕ → Type 0
StronglyConnectedBelow N fs us to = (j : ℕ) → j < to → StronglyConnected N (up_to fs us j)

-- No plan is found to part from the setting upwards at reach j: it is not tried, or is turned already, or cannot be turned without loss.
abbrev pub NoPart : Network → List ℕ → List ℕ → ℕ → Type 0
NoPart N fs us j = is_tried fs j ≡ true → get_or us j 3 ≡ 0 → NotStronglyConnected N (set (up_to fs us j) j 1)
