-- The lowest wet basin, and the wet basins on the side without it. Document 02, item 3: "A basin is dry if no reach in service has an end there; a loop keeps
-- it wet." `is_wet` of network/specs/Networks.antt says so.
-- Assumes nothing.
use Rattle.std.specs.Prelude.{ℕ, ◌<◌, ◌≡◌, Bool, true, false, not, cond, ◌&&◌, List, length, get_or, Option, IfSome}
use Rattle.std.specs.Option.{unwrap_or}
use Rattle.std.specs.Bool.{beq}
use Rattle.network.specs.Networks.{Network, is_wet, lowest_basin}
use Rattle.distances.specs.Distances.{unreached, noted}
use Rattle.half_edges.specs.Chains.{Table, Index}

-- A table of n basins with a kind for each reach, and the index of its half-edges.
pub record Tabled (n : ℕ) (ks xs ys head next : List ℕ) : Type 0 where
  pub table : Table n xs ys
  pub kinds-full : length ks ≡ length xs
  pub index : Index n xs ys head next

-- ---- the lowest

-- Tests of a basin: any passes; it passes if it is not noted as reached.
abbrev pub any_basin : ℕ → Bool
any_basin v = true

abbrev pub is_unnoted : List ℕ → ℕ → Bool
is_unnoted seen v = not (noted seen v)

-- r is the lowest wet basin that passes the test, or none if none does.
pub record Lowest (N : Network) (test : ℕ → Bool) (r : Option ℕ) : Type 0 where
  pub lower : (v : ℕ) → v < unwrap_or r N.basins → is_wet N v ≡ true → test v ≡ false
  pub at : IfSome r (λ v. (v < N.basins) × (is_wet N v ≡ true) × (test v ≡ true))

-- ---- the other side

-- Basin v is wet, and noted otherwise than x says.
abbrev pub is_other : Network → Bool → List ℕ → ℕ → Bool
is_other N x seen v = is_wet N v && not (beq (noted seen v) x)

-- What a basin gets that is on the side, and one that is not.
abbrev pub side_note : Bool → ℕ
side_note side = cond side 0 unreached

-- The wet basins that were noted otherwise than x says are noted as reached, and no other. What stands past the basins is free.
pub record OthersNoted (N : Network) (x : Bool) (seen seen' : List ℕ) : Type 0 where
  pub notes : (v : ℕ) → v < N.basins → get_or seen' v 0 ≡ side_note (is_other N x seen v)

-- What is marked of a lone reach is its side "without basin 0", which item 3 has "read as without the lowest wet basin". What a search has noted tells the sides
-- apart: the wet basins that it noted otherwise than the lowest wet basin are then noted as reached, and no other.
abbrev pub FarSideNoted : Network → List ℕ → List ℕ → Type 0
FarSideNoted N seen seen' = OthersNoted N (noted seen (lowest_basin N)) seen seen'
