-- `sheet_laws::write_then_read_sheet` meets its contract, by what the writer and the reader promise.
-- Assumes nothing.
use Rattle.std.proofs.lemmas.Result.{err_from_is_err_and}
use Rattle.network.specs.declared.Refusal.{Refusal}
use Rattle.std.specs.Prelude.{Ok, Result, ℕ}
use mathlib.Core.Path.{subst}
use Rattle.network.specs.Networks.{Network}
use Rattle.tables.specs.Rows.{net_of}
use Rattle.sheet_format.specs.Answers.{SheetWritten}
use Rattle.sheet_laws.proofs.RoundTrips.{plan-unwritten, plan-read-again}
use Rattle.sheet_laws.proofs.write_then_read_sheet.Goals as goal

pub returns-in_err-n : goal.returns-in_err-n
returns-in_err-n c =
    let p = err_from_is_err_and c.from_residual.result c.from_residual.ensures.1 in
    rw (p.1, p.2) (plan-unwritten (net_of c.args.basins c.args.kinds.now c.args.a.now c.args.b.now) c.args.setting.now c.in_err-n.ensures)

pub returns : goal.returns
returns c =
    let net : Network = net_of c.args.basins c.args.kinds.now c.args.a.now c.args.b.now in
    let Wrote : Result ℕ Refusal → Type 0 = λ r. SheetWritten (net) c.args.setting.now c.args.out.now r c.write_sheet.new.out in
    let wrote : Wrote (Ok c.in_ok-n.n) = subst (Wrote) c.in_ok-n.was c.write_sheet.ensures in
    plan-read-again (net) c.args.setting.now (wrote) c.read_sheet.ensures
