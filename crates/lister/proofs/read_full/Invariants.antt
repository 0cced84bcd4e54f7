-- `read_full` ends, since each turn reads something; the bytes at the front of the buffer are those that were taken from the reader.
-- Assumes nothing.
use Rattle.std.proofs.Common.{◌≡◌, ◌-◌, ◌≤◌, length, take}
use Rattle.std.specs.Io.KnownBytes.{Consumes}
use Rattle.lister.proofs.read_full.Given as goal

abbrev pub invariant-loop-done : goal.invariant-loop-done
invariant-loop-done g l = (length l.buf ≡ length l.fn.buf) × (l.done ≤ length l.buf)
    × Consumes (g.R.Read.remaining l.fn.r) (g.R.Read.remaining l.r) (take l.done l.buf)

abbrev pub decreases-loop-done : goal.decreases-loop-done
decreases-loop-done g l = length l.buf - l.done
