-- The reach table as rows of numbers: kinds (which say the state too), ends A and ends B. What a call is lent so stands for the table that `table_of` makes of it.
-- Assumes nothing.
use Rattle.std.specs.Prelude.{ℕ, zero, suc, List, [], ◌∷◌}
use Rattle.network.specs.declared.Kind.TheVariants.{Gated, Flap, TwoWay}
use Rattle.network.specs.declared.State.{State}
use Rattle.network.specs.declared.State.TheVariants.{InService, Shut}
use Rattle.network.specs.declared.Reach.{Reach}

-- The kind of a reach in service as a number: 0 gated, 1 flap, 2 two-way. The same while shut: 3, 4, 5. Every other number is read as shut too, so that what
-- names no state passes no water.
abbrev pub state_of : ℕ → State
state_of zero = InService Gated
state_of (suc zero) = InService Flap
state_of (suc (suc zero)) = InService TwoWay
state_of (suc (suc (suc zero))) = Shut Gated
state_of (suc (suc (suc (suc zero)))) = Shut Flap
state_of (suc (suc (suc (suc (suc k))))) = Shut TwoWay

abbrev pub state_number : State → ℕ
state_number (InService Gated) = 0
state_number (InService Flap) = 1
state_number (InService TwoWay) = 2
state_number (Shut Gated) = 3
state_number (Shut Flap) = 4
state_number (Shut TwoWay) = 5

-- The table of three rows, as long as the shortest of them.
abbrev pub table_of : List ℕ → List ℕ → List ℕ → List Reach
table_of [] ys zs = []
table_of (k ∷ ks) [] zs = []
table_of (k ∷ ks) (y ∷ ys) [] = []
table_of (k ∷ ks) (y ∷ ys) (z ∷ zs) = record { state = state_of k; a = y; b = z } ∷ table_of ks ys zs
