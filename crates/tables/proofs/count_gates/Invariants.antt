-- `count_gates` meets its contract. The loop's invariant: n and the gates that are left are all gates.
-- Assumes nothing.
use Prim.Native.Nat.{◌+◌, ◌≤◌}
use mathlib.Core.Path.{◌≡◌}
use lib.ListN.{drop}
use Rattle.tables.specs.Rows.{gates_in}
use Rattle.tables.proofs.count_gates.Given as goal

abbrev pub invariant-loop-kind : goal.invariant-loop-kind
invariant-loop-kind l = (l.n ≤ l.kind-index) × (l.n + gates_in (drop l.kind-index l.kinds) ≡ gates_in l.kinds)
