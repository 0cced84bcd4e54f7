-- `netfile_writing::put_reaches` meets its contract. The loop's invariant: the records of the reaches so far stand behind the head.
-- Assumes nothing.
use lib.ListN.{length}
use Rattle.network.specs.Tables.{table_of}
use Rattle.netfile_format.proofs.Writing.{PuttingReaches}
use Rattle.netfile_writing.proofs.put_reaches.Given as goal

abbrev pub invariant-loop-state : goal.invariant-loop-state
invariant-loop-state l = PuttingReaches (table_of l.kinds l.a l.b) l.initial.out l.out (length l.yielded) l.at
