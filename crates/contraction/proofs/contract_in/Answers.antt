-- `contraction::contract_in` meets its contract: the components, and what stays of the table.
-- Assumes nothing.
use native.Mathlib.Omega.{arith}
use Rattle.contraction.proofs.Answers.{fillable, given-filled}
use Rattle.contraction.proofs.contract_in.Goals as goal

pub returns : goal.returns
returns c =
    given-filled c.requires.contractible c.components-basins.ensures (c.fill_kept-reaches.ensures.of c.args.n (fillable c.requires.contractible c.components-basins.ensures (omega (arith, c.requires.n_in_bounds, c.components-basins.auto.labels)) (omega (arith, c.requires.n_in_bounds_2, c.components-basins.auto.notes))))
