-- `sheet_writing::write_fitting` meets its contract: the kinds are cut to the length of the table.
-- Assumes nothing.
use mathlib.Core.Path.{sym}
use lib.Seq.{length-take-le}
use Rattle.tables.proofs.Cuts.{cut-kinds}
use Rattle.sheet_format.proofs.Puts.{cut_fits, cut-sheet}
use Rattle.sheet_writing.proofs.write_fitting.Goals as goal

pub slice_bounds-write_sheet-end : goal.slice_bounds-write_sheet-end
slice_bounds-write_sheet-end c =
    sym (length-take-le c.row_count-m.result c.args.kinds.now (cut-kinds c.args.kinds.now c.args.a.now c.args.b.now c.row_count-m.result c.row_count-m.ensures))

pub write_sheet-requires : goal.write_sheet-requires
write_sheet-requires c =
    cut_fits c.args.kinds.now c.args.a.now c.args.b.now c.row_count-m.result c.row_count-m.ensures c.args.setting.now c.requires

pub returns : goal.returns
returns c =
    cut-sheet c.args.kinds.now c.args.a.now c.args.b.now c.row_count-m.result c.row_count-m.ensures c.args.setting.now c.args.out.now c.write_sheet.result c.write_sheet.new.out c.write_sheet.ensures
