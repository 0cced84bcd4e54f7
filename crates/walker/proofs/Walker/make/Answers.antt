-- `walker::Walker::make` meets its contract: the table goes into rows of its own, which are lent to the call over rows.
-- Assumes nothing.
use Rattle.packing.proofs.Packings.{of-lent}
use Rattle.walker.specs.Walkers.{Making}
use Rattle.walker.proofs.Makes.{make-alike}
use Rattle.walker.proofs.Walker.make.Goals as goal

pub returns : goal.returns
returns c = of-lent {P = λ N. Making N c.args.setting.now c.make_rows.result} c.pack.ensures c.rows-rows.ensures (make-alike c.args.setting.now) c.make_rows.ensures
