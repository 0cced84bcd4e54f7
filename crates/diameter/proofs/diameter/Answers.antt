-- `diameter::diameter` meets its contract: the table goes into rows of its own, which are lent to the call over rows.
-- Assumes nothing.
use Rattle.packing.proofs.Packings.{of-lent}
use Rattle.distances.specs.Answers.{DiameterCall}
use Rattle.diameter.proofs.Rows.{diameter-alike}
use Rattle.diameter.proofs.diameter.Goals as goal

pub returns : goal.returns
returns c = of-lent {P = λ N. DiameterCall N c.args.setting.now c.diameter_rows.result} c.pack.ensures c.rows-rows.ensures (diameter-alike c.args.setting.now) c.diameter_rows.ensures
