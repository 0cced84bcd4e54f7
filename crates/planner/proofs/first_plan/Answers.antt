-- `planner::first_plan` meets its contract: the table goes into rows of its own, which are lent to the call over rows.
-- Assumes nothing.
use Rattle.packing.proofs.Packings.{of-lent}
use Rattle.replies.specs.Answers.{FirstCall}
use Rattle.planner.proofs.Refusals.{first_alike}
use Rattle.planner.proofs.first_plan.Goals as goal

pub returns : goal.returns
returns c = of-lent {P = λ N. FirstCall N c.args.plan.now c.args.marks.now c.first_plan.result c.first_plan.new.plan c.first_plan.new.marks} c.pack.ensures c.rows-rows.ensures (first_alike _ _) c.first_plan.ensures
