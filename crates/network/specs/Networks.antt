-- The network, its limits, and which networks are accepted.
-- Assumes nothing.
use Rattle.std.specs.Prelude.{ℕ, ◌≡◌, Bool, true, false, cond, not, ◌&&◌, ◌||◌, List, length, get_or, leb, ltb, eqb}
use Rattle.std.proofs.Math.Option.{Option, none, some}
use Rattle.network.specs.declared.Kind.{Kind}
use Rattle.network.specs.declared.State.{State}
use Rattle.network.specs.declared.State.TheVariants.{InService, Shut}
use Rattle.network.specs.declared.Reach.{Reach}
use Rattle.network.specs.declared.Counts.{Counts}
use Rattle.network.specs.declared.Refusal.{Refusal}
use Rattle.network.specs.declared.Refusal.TheVariants.{BasinCount, TooManyReaches, EndOutOfRange}
use Rattle.lists.specs.Lists.{range, every, some?, keep}

-- "A network has 1 to 256 basins, numbered from 0, and 0 to 1,024 reaches, numbered from 0 in file order."
abbrev pub max_basins : ℕ
max_basins = 256

abbrev pub max_reaches : ℕ
max_reaches = 1024

-- A network as a call is lent it: a basin count and a reach table, good or bad.
pub record Network : Type 0 where
  pub basins : ℕ
  pub reaches : List Reach

-- So many basins and so many reaches, and those of a network.
abbrev pub counts : ℕ → ℕ → Counts
counts n m = record { basins = n; reaches = m }

abbrev pub counts_of : Network → Counts
counts_of N = counts N.basins (length N.reaches)

-- The network of a basin count and a reach table.
abbrev pub net : ℕ → List Reach → Network
net n t = record { basins = n; reaches = t }

-- Document 02, item 1: "A reach under repair should keep its number." "The reach record everywhere gains this state, its old kind inside it." So a reach is
-- in service or shut; its number is its place in the whole table, and the limit on reaches and the test of ends (2, 3) ask shut reaches too.
abbrev pub in_service : State → Bool
in_service (InService k) = true
in_service (Shut k) = false

-- The kind inside the state: while shut, "the kind .. it goes back to".
abbrev pub kind_in : State → Kind
kind_in (InService k) = k
kind_in (Shut k) = k

-- A reach in service has an end at basin b. A loop has both its ends there.
abbrev pub ends_at : ℕ → Reach → Bool
ends_at b r = in_service r.state && (eqb r.a b || eqb r.b b)

-- Document 02, item 3: "A basin is dry if no reach in service has an end there; a loop keeps it wet." Basin b is wet.
unfoldable pub is_wet : Network → ℕ → Bool
is_wet N b = some? (ends_at b) N.reaches

-- The basins that count, lowest first: "Passable, plan, lone and the marks concern wet basins only." All others are only numbered: the basin count and the
-- test of ends (1, 3) ask dry basins too.
unfoldable pub basins_of : Network → List ℕ
basins_of N = keep (is_wet N) (range 0 N.basins)

-- The lowest of them: "'without basin 0' read as without the lowest wet basin". It is asked for only where there is one.
abbrev pub lowest_basin : Network → ℕ
lowest_basin N = get_or (basins_of N) 0 0

-- Refusal 1, basin count: "it is 0 or over 256".
abbrev pub good_count : Network → Bool
good_count N = leb 1 N.basins && leb N.basins max_basins

-- Refusal 2, over-full: "there are more than 1,024 reaches".
abbrev pub good_length : Network → Bool
good_length N = leb (length N.reaches) max_reaches

-- Refusal 3, stray end: "an end is not below the basin count".
abbrev pub good_ends : Network → Bool
good_ends N = every (λ r. ltb r.a N.basins && ltb r.b N.basins) N.reaches

-- The refusal that a table gets, in the order 1, 2, 3.
unfoldable pub table_fault : Network → Option Refusal
table_fault N =
    cond (not (good_count N)) (some BasinCount)
    (cond (not (good_length N)) (some TooManyReaches)
    (cond (not (good_ends N)) (some EndOutOfRange)
    none))

-- "A network is accepted if its table gets none of 1, 2 and 3."
abbrev pub Accepted : Network → Type 0
Accepted N = table_fault N ≡ none
