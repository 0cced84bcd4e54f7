-- `binding::bound_at` meets its contract: the gate is bound if its other way cannot be had.
-- Assumes nothing.
use Prim.Native.Nat.{◌-◌}
use native.Mathlib.Omega.{arith}
use mathlib.Core.Path.{refl}
use Rattle.binding.proofs.Tellings.{bound-tried}
use Rattle.binding.proofs.bound_at.Goals as goal

pub returns-clause-ways_after : goal.returns-clause-ways_after
returns-clause-ways_after c = (bound-tried (1 - c.args.way) (omega arith) c.try_way-open.ensures refl refl).0

pub returns-clause-value : goal.returns-clause-value
returns-clause-value c = (bound-tried (1 - c.args.way) (omega arith) c.try_way-open.ensures refl refl).1
