-- `planner::table_check` meets its contract: the table goes into rows of its own, which are lent to the call over rows.
-- Assumes nothing.
use Rattle.packing.proofs.Packings.{of-lent}
use Rattle.tables.specs.Answers.{TableChecked}
use Rattle.planner.proofs.Refusals.{table-alike}
use Rattle.planner.proofs.table_check.Goals as goal

pub returns : goal.returns
returns c = of-lent {P = λ N. TableChecked N c.table_check.result} c.pack.ensures c.rows-rows.ensures (table-alike) c.table_check.ensures
