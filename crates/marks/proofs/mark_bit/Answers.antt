-- `mark_bit` meets its contract: no basin from n on is marked, and one below is where it is noted as reached.
-- Assumes nothing.
use native.Mathlib.Omega.{arith}
use lib.ListN.{get_or}
use borrow.Author.Tests.{lt-ltb, le-ltb}
use Rattle.distances.specs.Distances.{unreached}
use Rattle.marks.proofs.Bytes.{marked-below, marked-past}
use Rattle.marks.proofs.mark_bit.Goals as goal

pub returns-then-b-n : goal.returns-then-b-n
returns-then-b-n c =
    rw (marked-past c.args.n c.args.seen.now c.args.b c.if-b-n.true)

pub returns-then-seen-b-lt-UNREACHED : goal.returns-then-seen-b-lt-UNREACHED
returns-then-seen-b-lt-UNREACHED c =
    rw (marked-below c.args.n c.args.seen.now c.args.b c.if-b-n.false, lt-ltb (get_or c.args.seen.now c.args.b 0) unreached (omega arith))

pub returns-else-seen-b-lt-UNREACHED : goal.returns-else-seen-b-lt-UNREACHED
returns-else-seen-b-lt-UNREACHED c =
    rw (marked-below c.args.n c.args.seen.now c.args.b c.if-b-n.false, le-ltb (get_or c.args.seen.now c.args.b 0) unreached (omega arith))
