-- `netfile::write_network` meets its contract: the table goes into rows of its own, which are lent to the call over rows.
-- Assumes nothing.
use Rattle.netfile_format.specs.Answers.{NetworkWritten}
use Rattle.packing.proofs.Packings.{of-lent}
use Rattle.netfile.proofs.Writing.{file-write-alike}
use Rattle.netfile.proofs.write_network.Goals as goal

pub returns : goal.returns
returns c =
    let k = c.write_network in
    of-lent {P = λ N. NetworkWritten N c.args.out.now k.result k.new.out} c.pack.ensures c.rows-rows.ensures (file-write-alike c.args.out.now) k.ensures
