-- `sheet::write_sheet` meets its contract: the table goes into rows of its own, which are lent to the call over rows.
-- Assumes nothing.
use Rattle.sheet_format.specs.Answers.{SheetWritten}
use Rattle.packing.proofs.Packings.{of-lent}
use Rattle.sheet.proofs.Faults.{write-alike}
use Rattle.sheet.proofs.write_sheet.Goals as goal

pub returns : goal.returns
returns c =
    let k = c.write_sheet in
    of-lent {P = λ N. SheetWritten N c.args.setting.now c.args.out.now k.result k.new.out} c.pack.ensures c.rows-rows.ensures (write-alike c.args.setting.now c.args.out.now) k.ensures
