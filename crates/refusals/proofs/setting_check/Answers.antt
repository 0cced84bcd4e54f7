-- `refusals::setting_check` meets its contract: whether the setting fits the rows cut to the table's length.
-- Assumes nothing.
use mathlib.Core.Path.{◌≡◌, sym, ap, ◌∙◌}
use mathlib.Core.Bool.{true, false}
use lib.Seq.{length-take-le}
use Rattle.network.specs.Networks.{Network}
use Rattle.network.specs.Settings.{is_setting}
use Rattle.tables.specs.Rows.{net_of}
use Rattle.tables.specs.Answers.{table_answer}
use Rattle.tables.proofs.Cuts.{cut-kinds, cut-setting}
use Rattle.refusals.proofs.Dues.{setting-due}
use Rattle.refusals.proofs.setting_check.Goals as goal

pub slice_bounds-fits-end : goal.slice_bounds-fits-end
slice_bounds-fits-end c =
    sym (length-take-le _ c.args.kinds.now (cut-kinds c.args.kinds.now c.args.a.now c.args.b.now c.row_count-m.result c.row_count-m.ensures))

pub returns-then-fits : goal.returns-then-fits
returns-then-fits c =
    let net : Network = net_of 0 c.args.kinds.now c.args.a.now c.args.b.now in
    let tested : is_setting (net) c.args.setting.now ≡ c.fits.result = cut-setting c.args.kinds.now c.args.a.now c.args.b.now c.row_count-m.result c.row_count-m.ensures 0 c.args.setting.now ∙ sym c.fits.ensures in
    sym (ap table_answer (setting-due (net) c.args.setting.now true (tested ∙ c.if-fits.true)))

pub returns-else-fits : goal.returns-else-fits
returns-else-fits c =
    let net : Network = net_of 0 c.args.kinds.now c.args.a.now c.args.b.now in
    let tested : is_setting (net) c.args.setting.now ≡ c.fits.result = cut-setting c.args.kinds.now c.args.a.now c.args.b.now c.row_count-m.result c.row_count-m.ensures 0 c.args.setting.now ∙ sym c.fits.ensures in
    sym (ap table_answer (setting-due (net) c.args.setting.now false (tested ∙ c.if-fits.false)))
