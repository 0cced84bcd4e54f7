-- `mark_byte` meets its contract. The loop's invariant: the byte has the bits of the basins from b on.
-- Assumes nothing.
use Prim.Native.Nat.{◌+◌, ◌-◌, ◌*◌, ◌≤◌}
use mathlib.Core.Path.{◌≡◌}
use mathlib.Core.List.{map}
use Rattle.lists.specs.Lists.{range, elem}
use Rattle.network.specs.Marks.{binary_of}
use Rattle.marks.specs.Sets.{marked_set}
use Rattle.marks.proofs.mark_byte.Given as goal

abbrev pub invariant-loop-b : goal.invariant-loop-b
invariant-loop-b l = (8 * l.k ≤ l.b) × (l.b ≤ 8 * l.k + 8) × (l.byte ≡ binary_of (map (λ b. elem b (marked_set l.n l.seen)) (range l.b (8 * l.k + 8 - l.b))))
