-- `row_count` meets its contract: a table is as long as its shortest row.
-- Assumes nothing.
use native.Mathlib.Omega.{arith}
use Rattle.tables.proofs.Laws.{table-short}
use Rattle.tables.proofs.row_count.Goals as goal

pub returns : goal.returns
returns c =
    omega (arith, table-short c.args.kinds.now c.args.a.now c.args.b.now)
