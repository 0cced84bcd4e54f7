-- `netfile_reading::fill_rows` meets its contract. The loop's invariant: the first i entries of each row are those of the file's first i reaches.
-- The measure is how many reaches are left. Assumes nothing.
use Prim.Native.Nat.{◌-◌}
use Rattle.netfile_format.proofs.Filling.{RowsFilling}
use Rattle.netfile_reading.proofs.fill_rows.Given as goal

abbrev pub invariant-loop-i : goal.invariant-loop-i
invariant-loop-i l = RowsFilling l.file l.n l.initial.kinds l.initial.a l.initial.b l.kinds l.a l.b l.i l.at

abbrev pub decreases-loop-i : goal.decreases-loop-i
decreases-loop-i l = l.n - l.i
