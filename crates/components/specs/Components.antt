-- Connected components of the two-way reaches in service (document 02, item 4: clusters), their lowest members and their numbers.
-- Assumes nothing.
use Rattle.std.specs.Prelude.{ℕ, Bool, true, false, cond, not, ◌&&◌, List, [], ◌∷◌, ◌++◌, length, get_or, eqb}
use Rattle.lists.specs.Lists.{range, some?, keep}
use Rattle.network.specs.declared.Kind.TheVariants.{Gated, Flap, TwoWay}
use Rattle.network.specs.declared.State.{State}
use Rattle.network.specs.declared.State.TheVariants.{InService, Shut}
use Rattle.network.specs.declared.Reach.{Reach}
use Rattle.network.specs.Networks.{Network}
use Rattle.network.specs.Orientations.{Arc, passing, reached}

-- A two-way reach in service.
abbrev pub is_two_way : State → Bool
is_two_way (InService Gated) = false
is_two_way (InService Flap) = false
is_two_way (InService TwoWay) = true
is_two_way (Shut k) = false

-- What the two-way reaches in service of a table pass: each both ways, whatever is hung.
abbrev pub two_way_arcs : List Reach → List Arc
two_way_arcs [] = []
two_way_arcs (r ∷ t) = cond (is_two_way r.state) (passing 2 r.a r.b) [] ++ two_way_arcs t

-- "Basins joined through two-way reaches in service become one": basins u and v are connected, in one cluster.
unfoldable pub connected : Network → ℕ → ℕ → Bool
connected N u v = reached (two_way_arcs N.reaches) u v

-- The component of basin b, lowest member first. Every basin is in one, dry ones too.
unfoldable pub component : Network → ℕ → List ℕ
component N b = keep (connected N b) (range 0 N.basins)

-- The lowest member, which stands for its component.
unfoldable pub representative : Network → ℕ → ℕ
representative N b = get_or (component N b) 0 0

abbrev pub is_representative : Network → ℕ → Bool
is_representative N b = eqb (representative N b) b

-- The components are "numbered by the order of their lowest members". The number of b's: how many lowest members are lower than its own.
unfoldable pub component_number : Network → ℕ → ℕ
component_number N b = length (keep (is_representative N) (range 0 (representative N b)))

-- How many components there are: "the new basin .. count".
unfoldable pub component_count : Network → ℕ
component_count N = length (keep (is_representative N) (range 0 N.basins))

-- Basin b is joined to no other: its component has no second member.
unfoldable pub is_singleton : Network → ℕ → Bool
is_singleton N b = not (some? (λ v. connected N b v && not (eqb v b)) (range 0 N.basins))
