-- `sheet_rows::write_sheet` meets its contract: the planner's check, and then the sheet.
-- Assumes nothing.
use Rattle.std.proofs.lemmas.Result.{err_from_is_err_and}
use Rattle.std.specs.Prelude.{Ok}
use mathlib.Core.Path.{refl, sym, ap, ◌∙◌}
use Rattle.network.specs.Networks.{Network}
use Rattle.tables.specs.Rows.{net_of}
use Rattle.sheet_plans.proofs.Calls.{yes-fits, wrote-refused, wrote-plan}
use Rattle.sheet_rows.proofs.write_sheet.Goals as goal

pub write_fitting-requires : goal.write_fitting-requires
write_fitting-requires c =
    let net : Network = net_of c.args.basins c.args.kinds.now c.args.a.now c.args.b.now in
    yes-fits (net) c.args.setting.now (sym c.check.ensures.answer ∙ c.in_ok-check.was ∙ ap Ok c.if-branch.true)

pub returns-in_err-check : goal.returns-in_err-check
returns-in_err-check c =
    let p = err_from_is_err_and c.from_residual.result c.from_residual.ensures.1 in
    rw (p.1, p.2) (let net : Network = net_of c.args.basins c.args.kinds.now c.args.a.now c.args.b.now in wrote-refused (net) c.args.setting.now c.args.out.now _ _ (sym c.check.ensures.answer ∙ c.in_err-check.was) refl)

pub returns-else-branch : goal.returns-else-branch
returns-else-branch c =
    let net : Network = net_of c.args.basins c.args.kinds.now c.args.a.now c.args.b.now in
    wrote-refused (net) c.args.setting.now c.args.out.now _ _ (sym c.check.ensures.answer ∙ c.in_ok-check.was ∙ ap Ok c.if-branch.false) refl

pub returns-then-branch : goal.returns-then-branch
returns-then-branch c =
    let net : Network = net_of c.args.basins c.args.kinds.now c.args.a.now c.args.b.now in
    wrote-plan (net) c.args.setting.now c.args.out.now c.write_fitting.result c.write_fitting.new.out
    (sym c.check.ensures.answer ∙ c.in_ok-check.was ∙ ap Ok c.if-branch.true) c.write_fitting.ensures
