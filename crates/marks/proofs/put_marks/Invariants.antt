-- `put_marks` meets its contract. The loop's invariant: the first k bytes are those of the marks, and the others as they were.
-- Assumes nothing.
use mathlib.Core.Path.{◌≡◌}
use mathlib.Core.List.{◌++◌, map}
use lib.ListN.{length, drop}
use Rattle.lists.specs.Lists.{range}
use Rattle.network.specs.Marks.{mark_bytes, mark_byte}
use Rattle.marks.specs.Sets.{marked_set}
use Rattle.marks.proofs.put_marks.Given as goal

abbrev pub invariant-loop-k : goal.invariant-loop-k
invariant-loop-k l =
    (l.byte-items ≡ map (mark_byte (marked_set l.n l.seen)) (range 0 l.k) ++ drop l.k l.initial.byte-items) × (length l.byte-items ≡ mark_bytes)
