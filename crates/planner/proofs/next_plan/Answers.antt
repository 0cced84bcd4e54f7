-- `planner::next_plan` meets its contract: the table goes into rows of its own, which are lent to the call over rows.
-- Assumes nothing.
use Rattle.packing.proofs.Packings.{of-lent}
use Rattle.replies.specs.Answers.{NextCall}
use Rattle.planner.proofs.Refusals.{next-alike}
use Rattle.planner.proofs.next_plan.Goals as goal

pub returns : goal.returns
returns c = of-lent {P = λ N. NextCall N c.args.setting.now c.args.plan.now c.args.marks.now c.next_plan.result c.next_plan.new.plan c.next_plan.new.marks} c.pack.ensures c.rows-rows.ensures (next-alike _ _ _) c.next_plan.ensures
