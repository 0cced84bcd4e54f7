-- `refusals::next_refusal` meets its contract: 1, 2, 3 and 8 before 7.
-- Assumes nothing.
use mathlib.Core.Path.{ap, ◌∙◌}
use Rattle.network.specs.Networks.{Network}
use Rattle.network.specs.Replies.{check_fault, room_fault}
use Rattle.tables.specs.Rows.{net_of}
use Rattle.tables.specs.Answers.{table_answer}
use Rattle.std.proofs.lemmas.Result.{err_from_is_err_and}
use Rattle.refusals.proofs.Dues.{refused-due, second-due, room-any}
use Rattle.refusals.proofs.next_refusal.Goals as goal

pub returns : goal.returns
returns c =
    let net : Network = net_of c.args.basins c.args.kinds.now c.args.a.now c.args.b.now in
    second-due (check_fault net c.args.setting.now) (room_fault net c.args.plan c.args.marks) c.check_refusal.ensures c.in_ok-check_refusal.was (c.room_check.ensures ∙ ap table_answer (room-any c.args.basins c.args.kinds.now c.args.a.now c.args.b.now c.args.plan c.args.marks))

pub returns-in_err-check_refusal : goal.returns-in_err-check_refusal
returns-in_err-check_refusal c =
    let net : Network = net_of c.args.basins c.args.kinds.now c.args.a.now c.args.b.now in
    let p = err_from_is_err_and c.from_residual.result c.from_residual.ensures.1 in rw (p.1, p.2) (refused-due (check_fault net c.args.setting.now) (room_fault net c.args.plan c.args.marks) c.check_refusal.ensures c.in_err-check_refusal.was)
