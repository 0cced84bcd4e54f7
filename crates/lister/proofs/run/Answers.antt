-- `run` writes the listing of all that there is to read: of this only the first bytes count, which were read.
-- Assumes nothing.
use Rattle.std.proofs.Common.{arith}
use Rattle.std.proofs.lemmas.Result.{on_ok_weaker}
use Rattle.std.specs.Io.KnownBytes.{Appends}
use Rattle.lister.proofs.Printing.{listed}
use Rattle.lister.proofs.run.Goals as goal

pub returns : goal.returns
returns g c =
    on_ok_weaker c.list.result
    (λ written. listed _ _ (Appends (g.W.Write.contents c.args.w.now) (g.W.Write.contents c.list.new.w)) c.in_ok-n.ensures.bytes (written (omega arith) (omega arith)))
    c.list.ensures
