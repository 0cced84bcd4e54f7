-- The counts that a search has noted in a row, and the most so far.
-- Assumes nothing.
use Rattle.std.specs.Prelude.{ℕ, max, Bool, cond, List, get_or}

-- The count of basin v.
abbrev pub count_at : List ℕ → ℕ → ℕ
count_at row v = get_or row v 0

-- The larger of most and x, if the basin is wet; else most.
abbrev pub most_with : Bool → ℕ → ℕ → ℕ
most_with wet most x = cond wet (max most x) most
