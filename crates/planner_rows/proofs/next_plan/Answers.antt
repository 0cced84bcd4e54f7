-- `planner_rows::next_plan` meets its contract: what is refused, and then the reply to the rows cut to the table's length.
-- Assumes nothing.
use mathlib.Core.Path.{◌≡◌, sym, ◌∙◌}
use mathlib.Core.Option.{none}
use lib.ListN.{length}
use lib.Seq.{length-take-le}
use Rattle.std.proofs.lemmas.Result.{err_from_is_err_and}
use Rattle.network.specs.Networks.{Network}
use Rattle.network.specs.Replies.{first_of, check_fault, room_fault}
use Rattle.tables.specs.Rows.{net_of}
use Rattle.tables.proofs.Faults.{answer-refused, answer-accepted}
use Rattle.tables.proofs.Cuts.{cut-kinds, cut-a, cut-b, cut-net}
use Rattle.planning.proofs.Calls.{cut-lent, cut-is-setting, next-replied}
use Rattle.network.proofs.Replies.{first-of-none}
use Rattle.refusals.proofs.Dues.{unrefused-fits}
use Rattle.replies.proofs.Refusals.{refused-written, next-by}
use Rattle.planner_rows.proofs.next_plan.Goals as goal

pub returns-in_err-next_refusal : goal.returns-in_err-next_refusal
returns-in_err-next_refusal c =
    let net : Network = net_of c.args.basins c.args.kinds.now c.args.a.now c.args.b.now in
    let p = err_from_is_err_and c.from_residual.result c.from_residual.ensures.1 in
    rw (p.1, p.2) (refused-written (next-by (net) c.args.setting.now _ _ (answer-refused (first_of (check_fault (net) c.args.setting.now) (room_fault (net) (length c.args.plan.now) (length c.args.marks.now))) _ (sym c.next_refusal.ensures ∙ c.in_err-next_refusal.was))))

pub slice_bounds-next_accepted-end : goal.slice_bounds-next_accepted-end
slice_bounds-next_accepted-end c =
    sym (length-take-le _ c.args.kinds.now (cut-kinds c.args.kinds.now c.args.a.now c.args.b.now c.row_count-m.result c.row_count-m.ensures))

pub slice_bounds-next_accepted-end-2 : goal.slice_bounds-next_accepted-end-2
slice_bounds-next_accepted-end-2 c =
    sym (length-take-le _ c.args.a.now (cut-a c.args.kinds.now c.args.a.now c.args.b.now c.row_count-m.result c.row_count-m.ensures))

pub slice_bounds-next_accepted-end-3 : goal.slice_bounds-next_accepted-end-3
slice_bounds-next_accepted-end-3 c =
    sym (length-take-le _ c.args.b.now (cut-b c.args.kinds.now c.args.a.now c.args.b.now c.row_count-m.result c.row_count-m.ensures))

pub next_accepted-requires-clause-lent : goal.next_accepted-requires-clause-lent
next_accepted-requires-clause-lent c =
    let net : Network = net_of c.args.basins c.args.kinds.now c.args.a.now c.args.b.now in
    let clear : first_of (check_fault (net) c.args.setting.now) (room_fault (net) (length c.args.plan.now) (length c.args.marks.now)) ≡ none = answer-accepted _ (sym c.next_refusal.ensures ∙ c.in_ok-next_refusal.was) in
    let due = first-of-none (check_fault (net) c.args.setting.now) (room_fault (net) (length c.args.plan.now) (length c.args.marks.now)) (clear) in
    let ok = unrefused-fits (net) c.args.setting.now due.0 in cut-lent c.args.basins c.args.kinds.now c.args.a.now c.args.b.now c.row_count-m.result c.row_count-m.ensures c.args.plan.now c.args.marks.now ok.0 due.1

pub next_accepted-requires-clause-setting_value : goal.next_accepted-requires-clause-setting_value
next_accepted-requires-clause-setting_value c =
    let net : Network = net_of c.args.basins c.args.kinds.now c.args.a.now c.args.b.now in
    let clear : first_of (check_fault (net) c.args.setting.now) (room_fault (net) (length c.args.plan.now) (length c.args.marks.now)) ≡ none = answer-accepted _ (sym c.next_refusal.ensures ∙ c.in_ok-next_refusal.was) in
    let due = first-of-none (check_fault (net) c.args.setting.now) (room_fault (net) (length c.args.plan.now) (length c.args.marks.now)) (clear) in
    let ok = unrefused-fits (net) c.args.setting.now due.0 in cut-is-setting c.args.basins c.args.kinds.now c.args.a.now c.args.b.now c.row_count-m.result c.row_count-m.ensures c.args.setting.now ok.1

pub returns : goal.returns
returns c =
    let net : Network = net_of c.args.basins c.args.kinds.now c.args.a.now c.args.b.now in
    let clear : first_of (check_fault (net) c.args.setting.now) (room_fault (net) (length c.args.plan.now) (length c.args.marks.now)) ≡ none = answer-accepted _ (sym c.next_refusal.ensures ∙ c.in_ok-next_refusal.was) in
    next-replied (cut-net c.args.kinds.now c.args.a.now c.args.b.now c.row_count-m.result c.row_count-m.ensures c.args.basins) c.args.setting.now _ _ (clear) c.next_accepted.ensures
