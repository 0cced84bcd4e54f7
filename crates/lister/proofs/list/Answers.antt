-- `list` writes the listing of the file: that is to be printed after the start, where the rows have room for a network.
-- Assumes nothing.
use Rattle.std.proofs.Common.{subst}
use Rattle.std.proofs.lemmas.Result.{on_ok_weaker}
use Rattle.std.specs.Io.KnownBytes.{Appends}
use Rattle.file_records.proofs.Records.{bytes-make}
use Rattle.listing_state.proofs.Starts.{started-listing}
use Rattle.lister.proofs.list.Goals as goal

pub returns : goal.returns
returns g c =
    let s = c.args in
    let t = c.start-started.new in
    on_ok_weaker c.print.result
    (λ written many room.
    subst (Appends _ _)
    (started-listing s.file.now s.kinds.now s.a.now s.b.now t.kinds t.a t.b c.start-started.result c.start-started.ensures (bytes-make s.file.now (λ i. (c.type_inv.file i).fits)) many)
    (written room))
    c.print.ensures
