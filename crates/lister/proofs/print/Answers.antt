-- `print` writes what is to be printed: what was written and what is then to be printed make what was to be printed.
-- Assumes nothing.
use Rattle.std.proofs.Common.{◌++◌, take, ◌∙◌}
use Rattle.std.proofs.KnownBytes.{Appends-trans}
use Rattle.listing.proofs.Fills.{fill-length}
use Rattle.listing_state.specs.Pending.{pending}
use Rattle.lister.proofs.Printing.{printed-on}
use Rattle.lister.proofs.print.Goals as goal

pub loop-filled-preserved : goal.loop-filled-preserved
loop-filled-preserved g c =
    let (same, printed) = c.loop-filled.invariant in
    let (done, written, left) = printed in
    let f = c.fill-filled.ensures in (
      fill-length f ∙ same,
      (
        done ++ take c.fill-filled.result.count c.fill-filled.new.out,
        Appends-trans _ _ _ _ _ written c.in_ok-write_all.ensures.bytes,
        printed-on f done {all = pending c.args.lister c.args.kinds.now c.args.a.now c.args.b.now} left,
      ),
    )
