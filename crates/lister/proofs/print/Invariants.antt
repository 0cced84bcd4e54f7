-- `print` ends, since each turn prints something, and the measure is the length of what is still to be printed. What was written and what is still to be
-- printed make what was to be printed; the buffer keeps its length.
-- Assumes nothing.
use Rattle.std.proofs.Common.{◌≡◌, ℕ, List, ◌++◌, length}
use Rattle.std.specs.Io.KnownBytes.{Appends}
use Rattle.listing_state.specs.Pending.{pending}
use Rattle.lister.proofs.print.Given as goal

abbrev pub invariant-loop-filled : goal.invariant-loop-filled
invariant-loop-filled g l = (length l.out ≡ length l.fn.out)
    × ((done : List ℕ) × Appends (g.W.Write.contents l.fn.w) (g.W.Write.contents l.w) done × (done ++ pending l.state l.kinds l.a l.b ≡ pending l.fn.lister l.kinds l.a l.b))

abbrev pub decreases-loop-filled : goal.decreases-loop-filled
decreases-loop-filled g l = length (pending l.state l.kinds l.a l.b)
