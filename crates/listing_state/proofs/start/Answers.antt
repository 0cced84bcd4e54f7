-- `listing_state::start` meets its contract, by what the reader promises.
-- Assumes nothing.
use Rattle.network.specs.declared.Counts.{Counts}
use Rattle.network.specs.declared.Refusal.{Refusal}
use Rattle.std.specs.Prelude.{Ok, Result}
use mathlib.Core.Path.{subst}
use lib.ListN.{take}
use Rattle.netfile_format.specs.Answers.{NetworkRead}
use Rattle.file_records.proofs.Records.{bytes-make}
use Rattle.lines.specs.Listings.{max_bytes}
use Rattle.listing_state.proofs.Starts.{front_read, bytes-first, start-refused, start-read}
use Rattle.listing_state.proofs.start.Goals as goal

pub returns-in-Err : goal.returns-in-Err
returns-in-Err c =
    let Got : Result Counts Refusal → Type 0 = λ r. NetworkRead (take c.least-n.result c.args.file.now) c.args.kinds.now c.args.a.now c.args.b.now r c.read_network.new.kinds c.read_network.new.a c.read_network.new.b in
    start-refused c.args.file.now c.args.kinds.now c.args.a.now c.args.b.now c.read_network.new.kinds c.read_network.new.a c.read_network.new.b _ c.refusal_line-lister.result (front_read c.args.file.now c.least-n.ensures (subst (Got) c.in-Err.is c.read_network.ensures)) c.refusal_line-lister.ensures

pub returns-in-Ok : goal.returns-in-Ok
returns-in-Ok c =
    let Got : Result Counts Refusal → Type 0 = λ r. NetworkRead (take c.least-n.result c.args.file.now) c.args.kinds.now c.args.a.now c.args.b.now r c.read_network.new.kinds c.read_network.new.a c.read_network.new.b in
    let was_read : Got (Ok c.in-Ok.field-0) = subst (Got) c.in-Ok.is c.read_network.ensures in
    start-read c.args.file.now c.args.kinds.now c.args.a.now c.args.b.now c.read_network.new.kinds c.read_network.new.a c.read_network.new.b _ _ (front_read c.args.file.now c.least-n.ensures (was_read)) c.first_line-lister.result (bytes-first max_bytes c.args.file.now (bytes-make c.args.file.now (λ i. (c.shared_slice_known-1.given i).fits))) c.first_line-lister.ensures
