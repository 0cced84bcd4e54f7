-- `netfile_laws::read_then_write_network` meets its contract, by what the reader and the writer promise.
-- Assumes nothing.
use Rattle.network.specs.declared.Counts.{Counts}
use Rattle.network.specs.declared.Refusal.{Refusal}
use Rattle.std.specs.Prelude.{Ok, Result}
use mathlib.Core.Path.{subst}
use Rattle.netfile_format.specs.Answers.{NetworkRead}
use Rattle.file_records.proofs.Records.{bytes-make}
use Rattle.netfile_laws.proofs.RoundTrips.{rows-written-again}
use Rattle.netfile_laws.proofs.read_then_write_network.Goals as goal

pub returns : goal.returns
returns c =
    let Got : Result Counts Refusal → Type 0 = λ r. NetworkRead c.args.file.now c.args.kinds.now c.args.a.now c.args.b.now r c.read_network.new.kinds c.read_network.new.a c.read_network.new.b in
    let was_read : Got (Ok c.in_ok-basins.field-0) = subst (Got) c.in_ok-basins.was c.read_network.ensures in
    rows-written-again
    (bytes-make c.args.file.now (λ i. (c.shared_slice_known-1.given i).fits))
    (was_read) c.write_network.ensures
