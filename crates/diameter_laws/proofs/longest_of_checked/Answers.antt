-- `longest_of_checked` meets its contract: the law of what the two calls promise.
-- Assumes nothing.
use Prim.Native.Nat.{ℕ}
use native.Mathlib.Omega.{arith}
use mathlib.Core.Path.{subst}
use Rattle.tables.specs.Rows.{net_of}
use Rattle.distances.specs.Answers.{DiameterCall}
use Rattle.diameter_laws.proofs.Diameters.{diameter-over}
use Rattle.diameter_laws.proofs.longest_of_checked.Goals as goal

pub returns : goal.returns
returns c =
    diameter-over (net_of c.args.basins c.args.kinds.now c.args.a.now c.args.b.now) c.args.setting.now c.check-check.ensures
    (subst (λ (n : ℕ). DiameterCall (net_of n c.args.kinds.now c.args.a.now c.args.b.now) c.args.setting.now c.diameter_rows-longest.result) (omega arith) c.diameter_rows-longest.ensures)
