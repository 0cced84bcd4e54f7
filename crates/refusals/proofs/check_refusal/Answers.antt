-- `refusals::check_refusal` meets its contract: 1, 2 and 3 before 8.
-- Assumes nothing.
use mathlib.Core.Path.{ap, ◌∙◌}
use Rattle.network.specs.Networks.{Network, table_fault}
use Rattle.network.specs.Settings.{setting_fault}
use Rattle.network.specs.Replies.{check_fault}
use Rattle.tables.specs.Rows.{net_of}
use Rattle.tables.specs.Answers.{table_answer}
use Rattle.refusals.proofs.Dues.{first-due, setting-any}
use Rattle.refusals.proofs.check_refusal.Goals as goal

pub returns : goal.returns
unfolding check_fault
returns c =
    let net : Network = net_of c.args.basins c.args.kinds.now c.args.a.now c.args.b.now in
    first-due (table_fault net) (setting_fault net c.args.setting.now) c.table_check-table.ensures.answer
    (c.setting_check-fit.ensures ∙ ap table_answer (setting-any c.args.basins c.args.kinds.now c.args.a.now c.args.b.now c.args.setting.now)) c.and.ensures
