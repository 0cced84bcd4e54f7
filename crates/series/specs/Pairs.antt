-- Reaches in series: two that alone cross a division of the basins (a cut pair), and channels, along which all reaches are in series.
-- Assumes nothing.
use Rattle.std.specs.Prelude.{ℕ, zero, suc, ◌-◌, ◌<◌, ◌≡◌, Bool, true, false, cond, not, ◌≢◌, length}
use Rattle.std.specs.Bool.{beq}
use Rattle.network.specs.declared.Reach.{Reach}
use Rattle.network.specs.Networks.{Network, in_service, ends_at}
use Rattle.network.specs.Bridges.{crosses_by, reach_at}

-- An end of a reach: A, or B if so asked.
abbrev pub reach_end : Reach → Bool → ℕ
reach_end r false = r.a
reach_end r true = r.b

-- The end to which a reach that is hung passes: B as drawn (way 0), else A.
abbrev pub toward : ℕ → Bool
toward zero = true
toward (suc w) = false

-- Of the reach r, which is in service, the end x stands inside the side S and the other end outside.
pub record Crossing (S : ℕ → Bool) (r : Reach) (x : Bool) : Type 0 where
  pub serves : in_service r.state ≡ true
  pub inside : S (reach_end r x) ≡ true
  pub outside : S (reach_end r (not x)) ≡ false

-- The reaches i and j, and no others in service, cross the division that the side S makes; i has its end x inside, j its end y. (One that crosses alone is a
-- bridge, document 01's lone reach.)
pub record CutPair (N : Network) (S : ℕ → Bool) (i : ℕ) (x : Bool) (j : ℕ) (y : Bool) : Type 0 where
  pub below-i : i < length N.reaches
  pub below-j : j < length N.reaches
  pub apart : i ≢ j
  pub one : Crossing S (reach_at N i) x
  pub two : Crossing S (reach_at N j) y
  pub others : (k : ℕ) → k < length N.reaches → k ≢ i → k ≢ j → crosses_by S (reach_at N k) ≡ false

-- The way that j takes where i has the way w: what passes in at the one passes out at the other. So if both have the same end inside, they are hung against
-- each other, else alike.
abbrev pub guided_way : Bool → Bool → ℕ → ℕ
guided_way x y w = cond (beq x y) (1 - w) w

-- At basin v end just two reaches in service, i with its end x and j with its end y, and neither is a loop.
pub record TwoAt (N : Network) (v i : ℕ) (x : Bool) (j : ℕ) (y : Bool) : Type 0 where
  pub below-i : i < length N.reaches
  pub below-j : j < length N.reaches
  pub apart : i ≢ j
  pub serves-i : in_service (reach_at N i).state ≡ true
  pub serves-j : in_service (reach_at N j).state ≡ true
  pub here-i : reach_end (reach_at N i) x ≡ v
  pub here-j : reach_end (reach_at N j) y ≡ v
  pub away-i : reach_end (reach_at N i) (not x) ≢ v
  pub away-j : reach_end (reach_at N j) (not y) ≢ v
  pub others : (k : ℕ) → k < length N.reaches → k ≢ i → k ≢ j → ends_at v (reach_at N k) ≡ false

-- A channel that leaves reach i at its end x and comes to reach j at its end y, over basins at which just two reaches in service end.
pub data Channel (N : Network) (i : ℕ) (x : Bool) : ℕ → Bool → Type 0 where
  begins : {v j : ℕ} {y : Bool} → TwoAt N v i x j y → Channel N i x j y
  goes_on : {v j k : ℕ} {y z : Bool} → Channel N i x j y → TwoAt N v j (not y) k z → i ≢ k → Channel N i x k z
