-- `sheet::write_reply` meets its contract: the table goes into rows of its own, which are lent to the call over rows.
-- Assumes nothing.
use Rattle.sheet_format.specs.Answers.{ReplyWritten}
use Rattle.packing.proofs.Packings.{of-lent}
use Rattle.sheet.proofs.Faults.{reply-alike}
use Rattle.sheet.proofs.write_reply.Goals as goal

pub returns : goal.returns
returns c =
    let k = c.write_reply in
    of-lent {P = λ N. ReplyWritten N c.args.out.now k.result k.new.out} c.pack.ensures c.rows-rows.ensures (reply-alike c.args.out.now) k.ensures
