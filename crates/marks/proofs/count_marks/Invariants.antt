-- `count_marks` meets its contract. The loop's invariant: the total is that of the ones in the bytes before `at`, which are whole words.
-- Assumes nothing.
use Prim.Native.Nat.{◌*◌, ◌%◌, ◌≤◌}
use mathlib.Core.Path.{◌≡◌}
use lib.ListN.{take}
use Rattle.network.specs.Marks.{mark_bytes, mark_count}
use Rattle.marks.proofs.count_marks.Given as goal

abbrev pub invariant-loop-at : goal.invariant-loop-at
invariant-loop-at l = (l.at ≤ mark_bytes) × (l.at % 8 ≡ 0) × (l.total ≤ 8 * l.at) × (l.total ≡ mark_count (take l.at l.marks))
