-- `sheet_laws::read_then_write_sheet` meets its contract, by what the reader and the writer promise.
-- Assumes nothing.
use Rattle.std.proofs.lemmas.Result.{err_from_is_err_and}
use Rattle.network.specs.declared.Refusal.{Refusal}
use Rattle.std.specs.Prelude.{Ok, Result, ℕ}
use mathlib.Core.Path.{subst}
use Rattle.network.specs.Networks.{Network}
use Rattle.tables.specs.Rows.{net_of}
use Rattle.file_records.proofs.Records.{bytes-make}
use Rattle.sheet_format.specs.Answers.{SheetRead}
use Rattle.sheet_laws.proofs.RoundTrips.{sheet-unread, sheet-written-again}
use Rattle.sheet_laws.proofs.read_then_write_sheet.Goals as goal

pub returns-in_err-n : goal.returns-in_err-n
returns-in_err-n c =
    let p = err_from_is_err_and c.from_residual.result c.from_residual.ensures.1 in
    rw (p.1, p.2) (sheet-unread (net_of c.args.basins c.args.kinds.now c.args.a.now c.args.b.now) c.args.sheet.now c.in_err-n.ensures)

pub returns : goal.returns
returns c =
    let net : Network = net_of c.args.basins c.args.kinds.now c.args.a.now c.args.b.now in
    let GotAs : Result ℕ Refusal → Type 0 = λ r. SheetRead (net) c.args.sheet.now c.args.setting.now r c.read_sheet.new.setting in
    let was_read : GotAs (Ok c.in_ok-n.n) = subst (GotAs) c.in_ok-n.was c.read_sheet.ensures in
    sheet-written-again (net) c.args.sheet.now (was_read)
    (bytes-make c.args.sheet.now (λ i. (c.type_inv.sheet i).fits)) c.write_sheet.ensures
