-- `lines::put_plan` meets its contract: the characters and the newline, or as many of them as there is room for.
-- Assumes nothing.
use native.Mathlib.Omega.{arith}
use Rattle.std.proofs.lemmas.Bool.Decides.{nat_tests}
use Rattle.lines.proofs.Puts.{put_same, put_full, put_last}
use Rattle.lines.proofs.Lines.{plan-from}
use Rattle.lines.proofs.put_plan.Goals as goal

pub returns-then-k-out : goal.returns-then-k-out
returns-then-k-out c = put_same (plan-from c.args.plan.now (λ e. grind (arith, nat_tests)) c.args.at c.if-plan-at.false) (put_full c.put_digits-k.ensures _ c.if-k-out.true)

pub returns : goal.returns
returns c = put_same (plan-from c.args.plan.now (λ e. grind (arith, nat_tests)) c.args.at c.if-plan-at.false) (put_last c.put_digits-k.ensures 10 c.if-k-out.false)
