-- `contraction_laws::contracted` meets its contract: the rows have room for every network.
-- Assumes nothing.
use native.Mathlib.Omega.{arith}
use Rattle.tables.specs.Rows.{net_of}
use Rattle.contraction_laws.proofs.Contractions.{came-out}
use Rattle.contraction_laws.proofs.contracted.Goals as goal

pub returns : goal.returns
returns c = came-out (net_of c.args.basins c.args.kinds.now c.args.a.now c.args.b.now) c.contract_rows-answer.ensures (omega arith)
