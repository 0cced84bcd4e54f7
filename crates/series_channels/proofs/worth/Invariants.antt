-- `series_channels::worth` is safe and ends; it promises nothing.
-- Assumes nothing.
use Prim.Native.Nat.{◌≤◌}
use Rattle.series_channels.proofs.worth.Given as goal

abbrev pub invariant-loop-i : goal.invariant-loop-i
invariant-loop-i l = (l.found ≤ l.gates) × (l.gates ≤ 16)
