-- `netfile_writing::file_length` meets its contract. The loop's invariant: the length of a file that ends after the reaches so far.
-- Assumes nothing.
use Rattle.network.specs.Tables.{table_of}
use Rattle.netfile_format.proofs.Writing.{Measuring}
use Rattle.netfile_writing.proofs.file_length.Given as goal

abbrev pub invariant-loop-state : goal.invariant-loop-state
invariant-loop-state l = Measuring (table_of l.kinds l.a l.b) l.state-index l.size
