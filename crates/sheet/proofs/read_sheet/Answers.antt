-- `sheet::read_sheet` meets its contract: the table goes into rows of its own, which are lent to the call over rows.
-- Assumes nothing.
use Rattle.sheet_format.specs.Answers.{SheetRead}
use Rattle.packing.proofs.Packings.{of-lent}
use Rattle.sheet.proofs.Faults.{read_alike}
use Rattle.sheet.proofs.read_sheet.Goals as goal

pub returns : goal.returns
returns c =
    let k = c.read_sheet in
    of-lent {P = λ N. SheetRead N c.args.sheet.now c.args.setting.now k.result k.new.setting} c.pack.ensures c.rows-rows.ensures (read_alike c.args.sheet.now c.args.setting.now) k.ensures
