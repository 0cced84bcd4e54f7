-- A record of the reach table as numbers, and how many reaches go into rows.
-- Assumes nothing.
use Rattle.std.specs.Prelude.{ℕ, suc, min}
use Rattle.network.specs.declared.Reach.{Reach}
use Rattle.network.specs.Networks.{max_reaches}
use Rattle.network.specs.Tables.{state_number}
use Rattle.reach_numbers.specs.declared.Numbers.{Numbers}

-- The length of the rows: one more than a network may have reaches, so that the rows of an over-full table are over-full too.
abbrev pub max_rows : ℕ
max_rows = suc max_reaches

-- How many of n reaches the rows hold.
abbrev pub held_of : ℕ → ℕ
held_of n = min n max_rows

abbrev pub reach_state_number : Reach → ℕ
reach_state_number r = state_number r.state

-- What stands of a reach in the three rows.
abbrev pub numbers_of : Reach → Numbers
numbers_of r = record { kind = reach_state_number r; a = r.a; b = r.b }

-- How many of n reaches go into rows with room for x, y and z.
abbrev pub fitting_of : ℕ → ℕ → ℕ → ℕ → ℕ
fitting_of n x y z = min z (min y (min x (held_of n)))

-- The other way: how many of n reaches go into a table with this room, out of rows that hold x, y and z numbers.
abbrev pub filling_of : ℕ → ℕ → ℕ → ℕ → ℕ → ℕ
filling_of n x y z room = min room (min z (min y (min x n)))
