-- `netfile_reading::check_reaches` meets its contract. The loop's invariant: the reading of what is left decides that of the whole.
-- The measure is what is left of the file. Assumes nothing.
use Prim.Native.Nat.{◌-◌}
use lib.ListN.{length}
use Rattle.netfile_format.proofs.Scan.{FileScanned}
use Rattle.netfile_reading.proofs.check_reaches.Given as goal

abbrev pub invariant-loop-kind : goal.invariant-loop-kind
invariant-loop-kind l = FileScanned l.basins l.file l.at l.reaches

abbrev pub decreases-loop-kind : goal.decreases-loop-kind
decreases-loop-kind l = length l.file - l.at
