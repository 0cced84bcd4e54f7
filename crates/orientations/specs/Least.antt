-- The least plan that completes a list of ways, and where no later plan parts from a setting.
-- Assumes nothing.
use Rattle.std.specs.Prelude.{ℕ, ◌≤◌, ◌<◌, ◌≡◌, Bool, true, false, ◌⊎◌, List, [], length, get_or}
use Rattle.network.specs.declared.Reach.{Reach}
use Rattle.network.specs.Networks.{Network}
use Rattle.network.specs.Tables.{state_of}
use Rattle.network.specs.Settings.{is_gated, before}
use Rattle.network.specs.Orientations.{way, ways}
use Rattle.network.specs.Plans.{is_plan}
use Rattle.network.specs.Bridges.{no_reach, reach_at}

-- The setting p has the way of each reach that ws decides.
abbrev pub Fits : Network → List ℕ → List ℕ → Type 0
Fits N p ws = (j : ℕ) → j < length N.reaches → (get_or ws j 3 ≡ 2) ⊎ (get_or ws j 3 ≡ get_or (ways N.reaches p) j 3)

-- s is the least plan that fits.
pub record LeastPlan (N : Network) (ws s : List ℕ) : Type 0 where
  pub is-plan : is_plan N s ≡ true
  pub fits : Fits N s ws
  pub least : (q : List ℕ) → is_plan N q ≡ true → Fits N q ws → before q s ≡ false

-- The gates below i are decided.
abbrev pub Decided : Network → List ℕ → ℕ → Type 0
Decided N ws i = (j : ℕ) → j < i → is_gated (reach_at N j).state ≡ true → get_or ws j 3 ≤ 1

-- The gates that are tried are those of a row fs: the kinds of the reaches, in which a gate that need not be tried may have the number of another kind.
abbrev pub is_tried : List ℕ → ℕ → Bool
is_tried fs j = is_gated (state_of (get_or fs j 0))

-- The gates from i on that are tried are not decided.
abbrev pub Open : List ℕ → List ℕ → ℕ → Type 0
Open fs ws i = (j : ℕ) → i ≤ j → j < length fs → is_tried fs j ≡ true → get_or ws j 3 ≡ 2

-- The reaches that are no gates have the ways of their states; a shut reach passes neither way.
abbrev pub Shaped : List Reach → List ℕ → Type 0
Shaped t ws = (j : ℕ) → j < length t → is_gated (get_or t j no_reach).state ≡ false → get_or ws j 3 ≡ way (get_or t j no_reach).state []

-- The setting q has the ways of s below i.
abbrev pub Alike : Network → List ℕ → List ℕ → ℕ → Type 0
Alike N s q i = (j : ℕ) → j < i → get_or (ways N.reaches q) j 3 ≡ get_or (ways N.reaches s) j 3

-- No plan later than s is alike below i.
abbrev pub NoneFrom : Network → List ℕ → ℕ → Type 0
NoneFrom N s i = (q : List ℕ) → is_plan N q ≡ true → before s q ≡ true → Alike N s q i → ⊥
