-- What there is room for.
use Rattle.std.specs.Prelude.{ℕ, ◌+◌}
use Rattle.network.specs.Networks.{max_reaches}

-- the records that a table has room for: more than a network may have
abbrev pub table_room : ℕ
table_room = max_reaches + 6
