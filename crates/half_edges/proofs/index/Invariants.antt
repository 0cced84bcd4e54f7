-- `index` meets its contract. The loop's invariant: the half-edges of the first i reaches are linked, and both slices keep their lengths.
-- Assumes nothing.
use Prim.Native.Nat.{◌*◌, ◌≤◌}
use mathlib.Core.Path.{◌≡◌}
use lib.ListN.{length}
use Rattle.half_edges.specs.Chains.{Linked}
use Rattle.half_edges.proofs.index.Given as goal

abbrev pub invariant-loop-i : goal.invariant-loop-i
invariant-loop-i l = (l.i ≤ length l.a) × Linked (2 * l.i) l.n l.a l.b l.head l.next × (length l.head ≡ length l.initial.head) × (length l.next ≡ length l.initial.next)
