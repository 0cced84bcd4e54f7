-- `refusals::first_refusal` meets its contract: 1, 2 and 3 before 7.
-- Assumes nothing.
use mathlib.Core.Path.{ap, ◌∙◌}
use Rattle.network.specs.Networks.{Network, table_fault}
use Rattle.network.specs.Replies.{room_fault}
use Rattle.tables.specs.Rows.{net_of}
use Rattle.tables.specs.Answers.{table_answer}
use Rattle.std.proofs.lemmas.Result.{err_from_is_err_and}
use Rattle.refusals.proofs.Dues.{refused-due, second-due, room-any}
use Rattle.refusals.proofs.first_refusal.Goals as goal

pub returns : goal.returns
returns c =
    let net : Network = net_of c.args.basins c.args.kinds.now c.args.a.now c.args.b.now in
    second-due (table_fault net) (room_fault net c.args.plan c.args.marks) c.table_check.ensures.answer c.in_ok-table_check.was (c.room_check.ensures ∙ ap table_answer (room-any c.args.basins c.args.kinds.now c.args.a.now c.args.b.now c.args.plan c.args.marks))

pub returns-in_err-table_check : goal.returns-in_err-table_check
returns-in_err-table_check c =
    let net : Network = net_of c.args.basins c.args.kinds.now c.args.a.now c.args.b.now in
    let p = err_from_is_err_and c.from_residual.result c.from_residual.ensures.1 in rw (p.1, p.2) (refused-due (table_fault net) (room_fault net c.args.plan c.args.marks) c.table_check.ensures.answer c.in_err-table_check.was)
