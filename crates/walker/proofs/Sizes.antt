-- A walker that a function is handed has as many bytes as the reach limit.
-- Assumes nothing.
use mathlib.Core.Path.{◌≡◌}
use mathlib.Core.List.{List}
use lib.ListN.{length}
use mir.Val.{Val}
use denote.Laws.{Is}
use denote.Struct.Declared.{row}
use Rattle.network.specs.Networks.{max_reaches}
use Rattle.walker.specs.declared.Walker.{Walker}
use Rattle.walker.specs.contracts.Walker.{the_type}

-- The machine's values of a walker, of which there are some at entry, hold an array of that length.
pub walker-size : (w : Walker) {vs : List Val} → Is (row the_type) w vs → length w.setting ≡ max_reaches
walker-size w is = is.1.1.0.1.0.1
