-- Cuts (document 01: divisions of the basins), what crosses them, and bridges (lone reaches).
-- Assumes nothing.
use Rattle.std.specs.Prelude.{ℕ, Bool, not, ◌&&◌, List, [], ◌∷◌, ◌++◌, map, length, get_or, eqb}
use Rattle.std.specs.Bool.{beq}
use Rattle.std.proofs.Math.Option.{Option}
use Rattle.network.specs.declared.Kind.TheVariants.{Flap}
use Rattle.network.specs.declared.State.TheVariants.{Shut}
use Rattle.network.specs.declared.Reach.{Reach}
use Rattle.lists.specs.Lists.{range, every, some?, find, elem}
use Rattle.network.specs.Networks.{Network, in_service, basins_of}
use Rattle.network.specs.Settings.{is_gated}

-- A side is a list of basins, rising. All sides that can be made of the basins bs.
abbrev pub sides : List ℕ → List (List ℕ)
sides [] = [] ∷ []
sides (b ∷ bs) = map (λ S. b ∷ S) (sides bs) ++ sides bs

-- A cut: the side S and the rest of bs are a "division of the basins into two non-empty sides".
abbrev pub is_cut : List ℕ → List ℕ → Bool
is_cut bs S = some? (λ b. elem b S) bs && some? (λ b. not (elem b S)) bs

-- A reach crosses the division into the basins that pass a test and those that do not: one end passes it, the other does not. Item 1: a shut reach
-- "crosses no division".
abbrev pub crosses_by : (ℕ → Bool) → Reach → Bool
crosses_by S r = in_service r.state && not (beq (S r.a) (S r.b))

-- A reach crosses the division that the side S makes: one end is in S, the other is not.
abbrev pub crosses : List ℕ → Reach → Bool
crosses S r = crosses_by (λ b. elem b S) r

-- What stands past the end of a table.
abbrev pub no_reach : Reach
no_reach = record { state = Shut Flap; a = 0; b = 0 }

-- The reach with number i.
abbrev pub reach_at : Network → ℕ → Reach
reach_at N i = get_or N.reaches i no_reach

-- Reach i "is the only reach crossing" the division that S makes. Reaches that join the same basins are counted each.
unfoldable pub crosses_alone : Network → List ℕ → ℕ → Bool
crosses_alone N S i = every (λ j. beq (crosses S (reach_at N j)) (eqb j i)) (range 0 (length N.reaches))

-- A bridge. "A lone reach is a gated reach that is the only reach crossing some division of the basins into two non-empty sides." Item 3: of the wet basins.
unfoldable pub is_bridge : Network → ℕ → Bool
is_bridge N i = is_gated (reach_at N i).state && some? (λ S. is_cut (basins_of N) S && crosses_alone N S i) (sides (basins_of N))

-- "The lowest-numbered lone reach."
unfoldable pub lowest_bridge : Network → Option ℕ
lowest_bridge N = find (is_bridge N) (range 0 (length N.reaches))
