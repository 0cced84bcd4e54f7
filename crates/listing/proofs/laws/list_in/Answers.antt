-- `listing::laws::list_in` meets its contract, by what the start and the filling promise.
-- Assumes nothing.
use Rattle.file_records.proofs.Records.{bytes-make}
use Rattle.lines.proofs.Puts.{put_same}
use Rattle.listing_state.proofs.Starts.{started-listing}
use Rattle.listing.proofs.laws.list_in.Goals as goal

pub returns : goal.returns
returns c = put_same (started-listing c.args.file.now c.args.kinds.now c.args.a.now c.args.b.now c.start-started.new.kinds c.start-started.new.a c.start-started.new.b c.start-started.result c.start-started.ensures (bytes-make c.args.file.now (λ i. (c.shared_slice_known-1.given i).fits)) c.requires) c.fill-filled.ensures.printed
