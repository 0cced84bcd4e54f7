-- `walker::Walker::step_rows` meets its contract: the next plan from the bytes that the table uses, and the walker advanced by the answer.
-- Assumes nothing.
use Rattle.tables.specs.Rows.{net_of}
use Rattle.walker.proofs.Steps.{step-made}
use Rattle.walker.proofs.Walker.step_rows.Goals as goal

pub returns : goal.returns
returns c =
    step-made (net_of c.args.basins c.args.kinds.now c.args.a.now c.args.b.now) c.args.self.setting c.gates_held-g.ensures c.next_plan-answer.ensures c.advanced-walker.ensures
