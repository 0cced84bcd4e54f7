-- The gated reaches of a table by its row of kinds, as the functions over rows look for them.
-- Assumes nothing.
use Rattle.std.specs.Prelude.{ℕ, suc, ◌≤◌, ◌<◌, ◌≡◌, cond, List, [], ◌∷◌, length, take, drop}
use Rattle.network.specs.declared.Reach.{Reach}
use Rattle.network.specs.Networks.{max_reaches}
use Rattle.network.specs.Tables.{state_of}
use Rattle.network.specs.Settings.{is_gated, gates_from}
use Rattle.sheet_format.specs.Sheets.{plan_sheet}

-- The numbers of the gated reaches, the first reach with number i: `gates_from` by the kinds alone.
abbrev pub gates_row : ℕ → List ℕ → List ℕ
gates_row i [] = []
gates_row i (k ∷ ks) = cond (is_gated (state_of k)) (i ∷ gates_row (suc i) ks) (gates_row (suc i) ks)

-- Those of them from reach i on.
abbrev pub due : List ℕ → ℕ → List ℕ
due ks i = gates_row i (drop i ks)

-- The next gated reach from reach i on is r; there is none if r is not below the number of reaches.
pub record NextGate (ks : List ℕ) (i r : ℕ) : Type 0 where
  pub below : r ≤ length ks
  pub is-next : r < length ks → due ks i ≡ r ∷ due ks (suc r)
  pub none_left : length ks ≤ r → due ks i ≡ []

-- A setting with a byte for each gated reach of a table that is not over-full.
pub record Records (ks s : List ℕ) : Type 0 where
  pub few : length ks ≤ max_reaches
  pub full : length s ≡ length (gates_row 0 ks)

-- The same of a table.
pub record Fitting (t : List Reach) (s : List ℕ) : Type 0 where
  pub few : length t ≤ max_reaches
  pub full : length s ≡ length (gates_from 0 t)

-- The plan sheet of a table's setting.
abbrev pub table_sheet : List Reach → List ℕ → List ℕ
table_sheet t s = plan_sheet (gates_from 0 t) s

-- A plan buffer with room for a byte for each gated reach, and the sheet of its first bytes.
pub record Roomy (t : List Reach) (plan : List ℕ) : Type 0 where
  pub few : length t ≤ max_reaches
  pub room : length (gates_from 0 t) ≤ length plan

abbrev pub first_bytes_sheet : List Reach → List ℕ → List ℕ
first_bytes_sheet t plan = table_sheet t (take (length (gates_from 0 t)) plan)
