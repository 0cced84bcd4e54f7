-- `sheet_writing::write_first` meets its contract: the first bytes of the plan buffer are a setting that fits.
-- Assumes nothing.
use mathlib.Core.Path.{sym}
use lib.Seq.{length-take-le}
use Rattle.tables.proofs.Cuts.{cut-kinds}
use Rattle.sheet_format.proofs.Puts.{cut-room, cut-plan, cut-first}
use Rattle.sheet_writing.proofs.write_first.Goals as goal

pub slice_bounds-count_gates-end : goal.slice_bounds-count_gates-end
slice_bounds-count_gates-end c =
    sym (length-take-le c.row_count-m.result c.args.kinds.now (cut-kinds c.args.kinds.now c.args.a.now c.args.b.now c.row_count-m.result c.row_count-m.ensures))

pub slice_bounds-write_fitting-end : goal.slice_bounds-write_fitting-end
slice_bounds-write_fitting-end c =
    sym
    (length-take-le c.count_gates-g.result c.args.plan.now
    (cut-room c.args.kinds.now c.args.a.now c.args.b.now c.row_count-m.result c.row_count-m.ensures c.args.plan.now c.requires c.count_gates-g.result c.count_gates-g.ensures))

pub write_fitting-requires : goal.write_fitting-requires
write_fitting-requires c =
    cut-plan c.args.kinds.now c.args.a.now c.args.b.now c.row_count-m.result c.row_count-m.ensures c.args.plan.now c.requires c.count_gates-g.result c.count_gates-g.ensures

pub returns : goal.returns
returns c =
    cut-first c.args.kinds.now c.args.a.now c.args.b.now c.row_count-m.result c.row_count-m.ensures c.args.plan.now c.requires c.count_gates-g.result c.count_gates-g.ensures
    c.args.out.now c.write_fitting.result c.write_fitting.new.out c.write_fitting.ensures
