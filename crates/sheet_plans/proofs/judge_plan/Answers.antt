-- `sheet_plans::judge_plan` meets its contract: the planner's check.
-- Assumes nothing.
use Rattle.std.proofs.lemmas.Result.{err_from_is_err_and}
use Rattle.std.specs.Prelude.{Ok}
use mathlib.Core.Path.{sym, ap, ◌∙◌}
use Rattle.network.specs.Networks.{Network}
use Rattle.tables.specs.Rows.{net_of}
use Rattle.sheet_plans.proofs.Calls.{plan-judged}
use Rattle.sheet_plans.proofs.judge_plan.Goals as goal

pub returns-in_err-check : goal.returns-in_err-check
returns-in_err-check c =
    let p = err_from_is_err_and c.from_residual.result c.from_residual.ensures.1 in
    rw (p.1, p.2) (let net : Network = net_of c.args.basins c.args.kinds.now c.args.a.now c.args.b.now in plan-judged (net) c.args.bytes.now (sym c.check.ensures.answer ∙ c.in_err-check.was))

pub returns-else-branch : goal.returns-else-branch
returns-else-branch c =
    let net : Network = net_of c.args.basins c.args.kinds.now c.args.a.now c.args.b.now in
    plan-judged (net) c.args.bytes.now (sym c.check.ensures.answer ∙ c.in_ok-check.was ∙ ap Ok c.if-branch.false)

pub returns-then-branch : goal.returns-then-branch
returns-then-branch c =
    let net : Network = net_of c.args.basins c.args.kinds.now c.args.a.now c.args.b.now in
    plan-judged (net) c.args.bytes.now (sym c.check.ensures.answer ∙ c.in_ok-check.was ∙ ap Ok c.if-branch.true)
