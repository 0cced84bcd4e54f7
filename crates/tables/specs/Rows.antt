-- A network lent as rows of numbers, what its kinds alone decide, and a table written into rows.
-- Assumes nothing.
use Rattle.std.specs.Prelude.{ℕ, suc, min, ◌≡◌, cond, List, [], ◌∷◌, ◌++◌, map, length, drop}
use Rattle.network.specs.declared.Reach.{Reach}
use Rattle.network.specs.Networks.{Network, max_reaches}
use Rattle.network.specs.Tables.{state_of, state_number, table_of}
use Rattle.network.specs.Settings.{is_gated, gate_count}
use Rattle.network.specs.Orientations.{way, after}

-- The network of a basin count and three rows: kinds, ends A, ends B.
abbrev pub net_of : ℕ → List ℕ → List ℕ → List ℕ → Network
net_of n ks xs ys = record { basins = n; reaches = table_of ks xs ys }

-- The number of gated reaches, by their kinds.
abbrev pub gates_in : List ℕ → ℕ
gates_in [] = 0
gates_in (k ∷ ks) = cond (is_gated (state_of k)) (suc (gates_in ks)) (gates_in ks)

-- The ways of the reaches under a partial orientation, by their kinds.
abbrev pub ways_row : List ℕ → List ℕ → List ℕ
ways_row [] h = []
ways_row (k ∷ ks) h = way (state_of k) h ∷ ways_row ks (after (state_of k) h)

-- The bytes of the gated reaches if the reaches have the ways ws.
abbrev pub bytes_row : List ℕ → List ℕ → List ℕ
bytes_row [] ws = []
bytes_row (k ∷ ks) [] = []
bytes_row (k ∷ ks) (w ∷ ws) = cond (is_gated (state_of k)) (w ∷ bytes_row ks ws) (bytes_row ks ws)

-- The number of gated reaches, as far as bytes for them are held: a walker and the lister hold bytes up to the reach limit.
abbrev pub gates_held : Network → ℕ
gates_held N = min (gate_count N) max_reaches

-- The room of three rows, which stand for the lent row of records: as many records as the shortest of them has entries.
abbrev pub room_of : List ℕ → List ℕ → List ℕ → ℕ
room_of kinds a b = min (length kinds) (min (length a) (length b))

-- What writing a table leaves in the three rows: its numbers in the first entries; "all beyond is untouched".
pub record RowsFilled (t : List Reach) (kinds a b kinds' a' b' : List ℕ) : Type 0 where
  pub kind_row : kinds' ≡ map (λ r. state_number r.state) t ++ drop (length t) kinds
  pub a-row : a' ≡ map (λ r. r.a) t ++ drop (length t) a
  pub b-row : b' ≡ map (λ r. r.b) t ++ drop (length t) b
