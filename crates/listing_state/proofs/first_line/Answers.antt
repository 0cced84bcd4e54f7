-- `listing_state::first_line` meets its contract: the line that the reply of first calls for.
-- Assumes nothing.
use native.Mathlib.Omega.{arith}
use mathlib.Core.Path.{refl}
use Rattle.listing_state.proofs.States.{first-state}
use Rattle.listing_state.proofs.first_line.Goals as goal

pub returns : goal.returns
returns c = first-state c.args.basins c.args.kinds.now c.args.a.now c.args.b.now c.args.setting _ (omega arith) refl c.due_of-due.ensures c.first_plan-answer.ensures
