-- The bytes that a table's ways make.
-- Assumes nothing.
use Rattle.std.specs.Prelude.{ℕ, cond, List, [], ◌∷◌}
use Rattle.network.specs.Settings.{is_gated}
use Rattle.network.specs.declared.Reach.{Reach}

-- The bytes of the gated reaches of a table, in reach order, if the reaches have the ways ws.
abbrev pub bytes_of : List Reach → List ℕ → List ℕ
bytes_of [] ws = []
bytes_of (r ∷ t) [] = []
bytes_of (r ∷ t) (w ∷ ws) = cond (is_gated r.state) (w ∷ bytes_of t ws) (bytes_of t ws)
