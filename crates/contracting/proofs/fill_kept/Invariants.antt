-- `fill_kept` meets its contract. The loop's invariant, for every basin count that fits: `KeptFilling`.
-- Assumes nothing.
use Prim.Native.Nat.{ℕ}
use Rattle.contracting.specs.Filling.{FillableOf}
use Rattle.contracting.proofs.Turns.{KeptFilling}
use Rattle.contracting.proofs.fill_kept.Given as goal

abbrev pub invariant-loop-i : goal.invariant-loop-i
invariant-loop-i l = (n : ℕ) → FillableOf n l.kinds l.a l.b l.labels l.initial.notes l.initial.kinds2 l.initial.a2 l.initial.b2 → KeptFilling n l.kinds l.a l.b l.initial.notes l.initial.kinds2 l.initial.a2 l.initial.b2 l.notes l.kinds2 l.a2 l.b2 l.k l.i
