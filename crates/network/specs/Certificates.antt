-- Demand 2: a network without a plan "gets a shut-in side or a lone gated reach that anyone can check on the map". What each finding shows by its marks, its count
-- and its reach, and which of the three replies an accepted network gets. proofs/Certificates.antt and proofs/Replies.antt show it of every accepted network;
-- proofs/Certificates.antt also that what is checked on the map leaves no plan, whoever marked the side.
-- Assumes nothing.
use Rattle.std.specs.Prelude.{ℕ, ◌<◌, ◌≡◌, Bool, true, false, ◌≢◌, length}
use Rattle.std.proofs.Math.Option.{Option, some}
use mathlib.Core.List.{List, Memᴰ}
use Rattle.network.specs.declared.Kind.TheVariants.{Flap}
use Rattle.network.specs.declared.State.TheVariants.{InService}
use Rattle.network.specs.declared.Reach.{Reach}
use Rattle.lists.specs.Lists.{keep}
use Rattle.network.specs.Networks.{Network, basins_of, lowest_basin}
use Rattle.network.specs.Settings.{is_gated, is_setting}
use Rattle.network.specs.Orientations.{arc, arcs_under, reached, unoriented}
use Rattle.network.specs.Plans.{is_plan, passable}
use Rattle.network.specs.Bridges.{crosses_by, reach_at, is_bridge, lowest_bridge}
use Rattle.network.specs.Marks.{marked}
use Rattle.network.specs.Replies.{shut_in_basin, shut_in_finding, lone_finding, chosen, answer}

-- No setting is a plan.
abbrev pub NoPlan : Network → Type 0
NoPlan N = (s : List ℕ) → is_plan N s ≡ true → ⊥

-- ---- 9, shut in

-- A flap in service that is drawn into the side S: its end A lies outside, its end B inside, and "flap (A to B only)".
pub record FlapInto (S : ℕ → Bool) (r : Reach) : Type 0 where
  pub flap : r.state ≡ InService Flap
  pub from-outside : S r.a ≡ false
  pub to_inside : S r.b ≡ true

-- What somebody with the map checks of a side S that is shut in: among the basins that count (the wet ones, document 02, item 3) it is neither empty nor
-- everything, and reach by reach, every reach in service that crosses it is a flap drawn into it. So no water leaves it, however the gates hang.
pub record InwardSide (N : Network) (S : ℕ → Bool) : Type 0 where
  pub inside : (b : ℕ) × Memᴰ b (basins_of N) × (S b ≡ true)
  pub outside : (b : ℕ) × Memᴰ b (basins_of N) × (S b ≡ false)
  pub crossing : (j : ℕ) → j < length N.reaches → crosses_by S (reach_at N j) ≡ true → FlapInto S (reach_at N j)

-- What the marks m and the count c of finding 9 show.
pub record ShutInShown (N : Network) (m : List ℕ) (c : ℕ) : Type 0 where
  -- on the map
  pub side : InwardSide N (marked m)
  pub only-basins : (b : ℕ) → marked m b ≡ true → Memᴰ b (basins_of N)
  -- "a count: the count of marked basins"
  pub count : c ≡ length (keep (marked m) (basins_of N))
  -- "the basins reached, itself among them, from the lowest-numbered basin that doesn't reach all, gates usable either way"
  pub start : (u : ℕ) × (shut_in_basin N ≡ some u) × ((b : ℕ) → Memᴰ b (basins_of N) → marked m b ≡ reached (arcs_under N (unoriented N)) u b)
  -- no reach passes out of it under any setting, and no setting is a plan
  pub closed : (s : List ℕ) (u v : ℕ) → is_setting N s ≡ true → Memᴰ (arc u v) (arcs_under N s) → marked m u ≡ true → marked m v ≡ true
  pub no-plan : NoPlan N

-- ---- 10, lone reach

-- Reach i crosses the side S, and no other reach in service does.
pub record Alone (N : Network) (S : ℕ → Bool) (i : ℕ) : Type 0 where
  pub crossing : crosses_by S (reach_at N i) ≡ true
  pub others : (j : ℕ) → j < length N.reaches → j ≢ i → crosses_by S (reach_at N j) ≡ false

-- What somebody with the map checks of a lone reach i and its side S: it is gated, and the only reach that crosses the side.
pub record LoneAcross (N : Network) (S : ℕ → Bool) (i : ℕ) : Type 0 where
  pub below : i < length N.reaches
  pub gated : is_gated (reach_at N i).state ≡ true
  pub alone : Alone N S i

-- What the reach i, the marks m and the count c of finding 10 show.
pub record BridgeShown (N : Network) (i : ℕ) (m : List ℕ) (c : ℕ) : Type 0 where
  -- on the map
  pub side : LoneAcross N (marked m) i
  pub only-basins : (b : ℕ) → marked m b ≡ true → Memᴰ b (basins_of N)
  -- "a count: the count of marked basins"
  pub count : c ≡ length (keep (marked m) (basins_of N))
  -- the side is "without basin 0", "read as without the lowest wet basin", and the division is the only one that the reach crosses alone
  pub without-lowest : marked m (lowest_basin N) ≡ false
  pub only-side : (S : ℕ → Bool) → Alone N S i → S (lowest_basin N) ≡ false → (b : ℕ) → Memᴰ b (basins_of N) → S b ≡ marked m b
  -- "the lowest-numbered lone reach"
  pub lowest : (j : ℕ) → j < i → is_bridge N j ≡ false
  -- no setting is a plan
  pub no-plan : NoPlan N

-- ---- which of the three

-- An accepted network has a plan and gets the plan p that is asked for, or has none and gets its finding, whatever is asked for: 9 if it is not passable,
-- 10 if it is and has a lone reach.
pub data Trichotomy (N : Network) : Type 0 where
  has-plan : (s : List ℕ) → is_plan N s ≡ true → ((p : Option (List ℕ)) → answer N p ≡ chosen p) → Trichotomy N
  not-passable : passable N ≡ false → NoPlan N → ((p : Option (List ℕ)) → answer N p ≡ shut_in_finding N) → Trichotomy N
  has-bridge : (i : ℕ) → lowest_bridge N ≡ some i → passable N ≡ true → NoPlan N → ((p : Option (List ℕ)) → answer N p ≡ lone_finding N i) → Trichotomy N
