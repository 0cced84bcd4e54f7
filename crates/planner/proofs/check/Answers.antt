-- `planner::check` meets its contract: the table goes into rows of its own, which are lent to the call over rows.
-- Assumes nothing.
use Rattle.packing.proofs.Packings.{of-lent}
use Rattle.replies.specs.Answers.{CheckCall}
use Rattle.planner.proofs.Refusals.{check-alike}
use Rattle.planner.proofs.check.Goals as goal

pub returns : goal.returns
returns c = of-lent {P = λ N. CheckCall N c.args.setting.now c.check.result} c.pack.ensures c.rows-rows.ensures (check-alike c.args.setting.now) c.check.ensures
