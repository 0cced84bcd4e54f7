-- `walker::Walker::step` meets its contract: the table goes into rows of its own, which are lent to the call over rows.
-- Assumes nothing.
use Rattle.packing.proofs.Packings.{of-lent}
use Rattle.walker.specs.Walkers.{Stepping}
use Rattle.walker.proofs.Steps.{step-alike}
use Rattle.walker.proofs.Walker.step.Goals as goal

pub returns : goal.returns
returns c = of-lent {P = λ N. Stepping N c.args.self.setting c.args.plan.now c.args.marks.now c.step_rows.new.plan c.step_rows.new.marks c.step_rows.result} c.pack.ensures c.rows-rows.ensures (step-alike c.args.self.setting) c.step_rows.ensures
