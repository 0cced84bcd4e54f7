-- `listing::print_lines` meets its contract. The loop's invariant is `Printing`, and that the working memory stands where it is known to. The measure is what is
-- left of the buffer.
-- Assumes nothing.
use Prim.Native.Nat.{◌-◌}
use mathlib.Core.Path.{◌≡◌}
use lib.ListN.{length, take}
use Rattle.listing_state.specs.Pending.{holding}
use Rattle.listing.specs.Keeping.{Kept}
use Rattle.listing.proofs.Fills.{Printing}
use Rattle.listing.proofs.print_lines.Given as goal

abbrev pub invariant-loop-n : goal.invariant-loop-n
invariant-loop-n l =
    Printing (holding l.initial.line l.initial.setting) l.kinds l.a l.b l.initial.out l.out (holding l.line l.setting) l.n × Kept l.initial.line.basins l.kinds l.tried l.a l.b l.line.due (take l.g l.setting) l.under l.ways l.head l.next l.standing
    × (length l.tried ≡ length l.initial.tried) × (length l.under ≡ length l.initial.under) × (length l.ways ≡ length l.initial.ways) × (length l.setting ≡ length l.initial.setting)

abbrev pub decreases-loop-n : goal.decreases-loop-n
decreases-loop-n l = length l.initial.out - l.n
