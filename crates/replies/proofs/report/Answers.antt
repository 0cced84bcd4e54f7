-- `replies::report` meets its contract: marks and count of a finding, or the bytes of a plan.
-- Assumes nothing.
use Prim.Native.Nat.{ℕ, ◌<◌}
use native.Mathlib.Omega.{arith}
use mathlib.Core.Path.{◌≡◌, subst}
use Rattle.seeking.specs.declared.Found.{Found}
use Rattle.seeking.specs.declared.Found.TheVariants.{Bridge}
use Rattle.seeking.specs.Found.{reach_found}
use Rattle.replies.proofs.Reported.{reported-shut, reported-lone, reported-plan}
use Rattle.replies.proofs.report.Goals as goal

-- the reach found fits
reach-below : {f : Found} {r : ℕ} → f ≡ Bridge r → reach_found f < 65536 → r < 65536
reach-below e l = subst (λ (g : Found). reach_found g < 65536) e l

pub returns-in-Closed : goal.returns-in-Closed
returns-in-Closed c = reported-shut c.in-Closed.is c.write_marks-count.ensures

pub returns-in-Bridge : goal.returns-in-Bridge
returns-in-Bridge c = reported-lone c.in-Bridge.is c.write_marks-count-in-Bridge.ensures (omega arith) (omega arith)

pub returns-in-Oriented : goal.returns-in-Oriented
returns-in-Oriented c = reported-plan c.in-Oriented.is c.gather.ensures
